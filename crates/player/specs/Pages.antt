-- Pages: when one is whole, and its gates. Assumes nothing.
--
--   whole bytes       the bytes are a page: sizes that fit, their length, kinds up to 5, numbers below the bound
--   gate_at ks ps i   gate i of the kinds ks and the places ps; gates_from ks ps, all of them
--   gates_of bytes    the gates of a page, given as bytes
use Rattle.std.specs.Prelude.{◌≡◌, ℕ, zero, suc, ◌+◌, ◌*◌, Bool, ◌&&◌, List, [], ◌∷◌, map, length, take, drop, ◌==◌, nat_le, nat_lt, slice_index}
use Rattle.std.specs.List.{range_with_len, list_all}
use Rattle.bench.specs.declared.kinds.Kind.{Kind}
use Rattle.bench.specs.declared.kinds.Kind.TheVariants.{Xor, And, Or, Xnor, Nand, Nor}
use Rattle.bench.specs.declared.gates.Gate.{Gate}

-- the kind of a number up to 5; a page that is whole has no other
abbrev pub kind_at : ℕ → Kind
kind_at zero = Xor
kind_at (suc zero) = And
kind_at (suc (suc zero)) = Or
kind_at (suc (suc (suc zero))) = Xnor
kind_at (suc (suc (suc (suc zero)))) = Nand
kind_at (suc (suc (suc (suc (suc n))))) = Nor

-- the number of two bytes, high byte first
abbrev pub pair : List ℕ → ℕ → ℕ
pair bytes at = slice_index bytes at * 256 + slice_index bytes (at + 1)

-- the numbers of two bytes each, high byte first
abbrev pub numbers_in : List ℕ → List ℕ
numbers_in [] = []
numbers_in (h ∷ []) = []
numbers_in (h ∷ l ∷ rest) = (h * 256 + l) ∷ numbers_in rest

abbrev pub gates_in : List ℕ → ℕ
gates_in bytes = pair bytes 0

abbrev pub sockets_in : List ℕ → ℕ
sockets_in bytes = pair bytes 2

abbrev pub scratch_in : List ℕ → ℕ
scratch_in bytes = pair bytes 4

abbrev pub kinds_in : List ℕ → List ℕ
kinds_in bytes = take (gates_in bytes) (drop 6 bytes)

abbrev pub places_in : List ℕ → List ℕ
places_in bytes = drop (gates_in bytes) (drop 6 bytes)

abbrev pub sizes_fit : ℕ → ℕ → ℕ → Bool
sizes_fit g q c = nat_le g 2000 && (nat_le 1 q && (nat_le q 16 && nat_le c 512))

unfoldable pub kinds_named : List ℕ → Bool
kinds_named kinds = list_all (λ k. nat_le k 5) kinds

unfoldable pub numbers_below : List ℕ → ℕ → Bool
numbers_below places bound = list_all (λ n. nat_lt n bound) (numbers_in places)

abbrev pub whole : List ℕ → Bool
whole bytes =
    nat_le 6 (length bytes)
    && (sizes_fit (gates_in bytes) (sockets_in bytes) (scratch_in bytes)
    && (length bytes == 6 + 7 * gates_in bytes
    && (kinds_named (kinds_in bytes)
    && numbers_below (places_in bytes) (8 * sockets_in bytes + scratch_in bytes))))

-- a page's parts, as they lie in its bytes
pub record ReadAs (bytes : List ℕ) (q c : ℕ) (kinds places : List ℕ) : Type 0 where
  pub sockets : q ≡ sockets_in bytes
  pub scratch : c ≡ scratch_in bytes
  pub kinds_are : kinds ≡ kinds_in bytes
  pub places_are : places ≡ places_in bytes

abbrev pub gate_at : List ℕ → List ℕ → ℕ → Gate
gate_at kinds places at = record {
  kind = kind_at (slice_index kinds at);
  target = pair places (6 * at);
  first = pair places (6 * at + 2);
  second = pair places (6 * at + 4);
}

-- the gates of the kinds and the places of a page
unfoldable pub gates_from : List ℕ → List ℕ → List Gate
gates_from kinds places = map (gate_at kinds places) (range_with_len 0 (length kinds))

unfoldable pub gates_of : List ℕ → List Gate
gates_of bytes = map (gate_at (kinds_in bytes) (places_in bytes)) (range_with_len 0 (gates_in bytes))
