-- The row bench: lane l is row l of w bytes, register r is bit r % 8 of byte r / 8 of that row. Assumes nothing.
use Rattle.std.specs.Prelude.{ℕ, zero, suc, ◌+◌, ◌*◌, ◌/◌, ◌%◌, ◌≤◌, min, Bool, false, cond, ◌&&◌, List, length, drop, nat_lt, slice_index, slice_set}
use Rattle.std.proofs.Common.{arith}
use Rattle.std.proofs.lemmas.Bool.{cond_both, ltb-false}
use Rattle.bench.specs.declared.kinds.Kind.{Kind}
use Rattle.bench.specs.Kinds.{gate_result}
use Rattle.bench.specs.Model.{Model, Lawful}
use Rattle.bench.specs.Word.{put_bit, test_bit}

-- the bytes of a row: none where more are asked for than a bench can have
abbrev pub fit : ℕ → ℕ
fit width = cond (nat_lt 8191 width) 0 width

-- the whole rows of w bytes among n, at most 64; none where w is 0, as n / 0 is 0
abbrev pub row_lanes : ℕ → ℕ → ℕ
row_lanes n w = min (n / w) 64

-- the bit of register r in the row that begins at byte base
abbrev pub spot : List ℕ → ℕ → ℕ → Bool
spot bytes base r = test_bit (slice_index bytes (base + r / 8)) (r % 8)

-- where there are lanes rows of w bytes
abbrev pub row_cell : ℕ → ℕ → List ℕ → ℕ → ℕ → Bool
row_cell w lanes bytes r l = cond (nat_lt r (8 * w) && nat_lt l lanes) (spot bytes (l * w) r) false

abbrev pub row_bit : List ℕ → ℕ → ℕ → ℕ → Bool
row_bit bytes w = row_cell w (row_lanes (length bytes) w) bytes

abbrev pub row_model : List ℕ → ℕ → ℕ → Model
row_model bytes width left = record {
  registers = 8 * fit width;
  lanes = row_lanes (length bytes) (fit width);
  left = min left 1000000000;
  bit = row_bit bytes (fit width);
}

-- the bytes that no call touches
unfoldable pub rest : List ℕ → ℕ → List ℕ
rest bytes width = drop (row_lanes (length bytes) (fit width) * fit width) bytes

-- one register written in the row that begins at base
abbrev pub row_put : List ℕ → ℕ → ℕ → Bool → List ℕ
row_put bytes base r v = slice_set bytes (base + r / 8) (put_bit (slice_index bytes (base + r / 8)) (r % 8) v)

-- one gate in the row that begins at base
abbrev pub row_step : Kind → ℕ → ℕ → ℕ → ℕ → List ℕ → List ℕ
row_step k t a b base bytes = row_put bytes base t (gate_result k (spot bytes base a) (spot bytes base b))

-- one gate in each of the first n rows
abbrev pub rows_done : Kind → ℕ → ℕ → ℕ → ℕ → ℕ → List ℕ → List ℕ
rows_done k t a b w zero bytes = bytes
rows_done k t a b w (suc n) bytes = row_step k t a b (n * w) (rows_done k t a b w n bytes)

pub fit_small : (width : ℕ) → fit width ≤ 8191
fit_small width = cond_both (nat_lt 8191 width) 0 width (λ x. x ≤ 8191) (λ e. omega arith) (λ e. omega (arith, ltb-false 8191 width e))

pub row_lawful : (bytes : List ℕ) (width left : ℕ) → Lawful (row_model bytes width left)
row_lawful bytes width left = record {
  few = omega (arith, fit_small width);
  thin = omega arith;
  allotted = omega arith;
  blank = λ r l e. rw e;
}
