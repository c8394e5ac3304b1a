-- The word bench: word r is register r, bit l of it is lane l. Assumes nothing.
use Rattle.std.specs.Prelude.{ℕ, ◌-◌, ◌/◌, ◌%◌, ◌^◌, min, Bool, true, false, cond, ◌&&◌, List, length, drop, ◌==◌, bit_and, bit_or, bit_xor, nat_lt, slice_index}
use Rattle.bench.specs.declared.kinds.Kind.{Kind}
use Rattle.bench.specs.declared.kinds.Kind.TheVariants.{Xor, And, Or, Xnor, Nand, Nor}
use Rattle.bench.specs.Model.{Model, Lawful}
use Rattle.std.proofs.Common.{arith}

unfoldable pub test_bit : ℕ → ℕ → Bool
test_bit x l = x / 2 ^ l % 2 == 1

-- bit l of word r, where there are n registers
abbrev pub cell : ℕ → List ℕ → ℕ → ℕ → Bool
cell n words r l = cond (nat_lt r n && nat_lt l 64) (test_bit (slice_index words r) l) false

abbrev pub word_count : List ℕ → ℕ
word_count words = min (length words) 65535

abbrev pub word_bit : List ℕ → ℕ → ℕ → Bool
word_bit words = cell (word_count words) words

-- the words that no call touches
unfoldable pub beyond : List ℕ → List ℕ
beyond words = drop 65535 words

abbrev pub word_model : List ℕ → ℕ → Model
word_model words left = record {
  registers = word_count words;
  lanes = 64;
  left = min left 1000000000;
  bit = word_bit words;
}

-- a 64-bit word with every bit turned
abbrev pub turned : ℕ → ℕ
turned x = (2 ^ 64 - 1) - x

abbrev pub combined : Kind → ℕ → ℕ → ℕ
combined Xor x y = bit_xor x y
combined And x y = bit_and x y
combined Or x y = bit_or x y
combined Xnor x y = turned (bit_xor x y)
combined Nand x y = turned (bit_and x y)
combined Nor x y = turned (bit_or x y)

abbrev pub put_bit : ℕ → ℕ → Bool → ℕ
put_bit w l true = bit_or w (2 ^ l)
put_bit w l false = bit_and w (turned (2 ^ l))

pub word_lawful : (words : List ℕ) (left : ℕ) → Lawful (word_model words left)
word_lawful words left = record {
  few = omega arith;
  thin = omega arith;
  allotted = omega arith;
  blank = λ r l e. rw e;
}
