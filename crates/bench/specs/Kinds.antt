-- The six kinds: their numbers and what each does. Assumes nothing.
use Rattle.std.specs.Prelude.{◌≡◌, ℕ, zero, suc, Bool, true, false, not, ◌&&◌, ◌||◌, Some, None, Ok, Err, Option, Result}
use Rattle.bench.specs.declared.kinds.Kind.{Kind}
use Rattle.bench.specs.declared.kinds.UnknownKind.{UnknownKind}
use Rattle.bench.specs.declared.kinds.Kind.TheVariants.{Xor, And, Or, Xnor, Nand, Nor}

-- the kind that a number names
abbrev pub kind_of : ℕ → Option Kind
kind_of zero = Some Xor
kind_of (suc zero) = Some And
kind_of (suc (suc zero)) = Some Or
kind_of (suc (suc (suc zero))) = Some Xnor
kind_of (suc (suc (suc (suc zero)))) = Some Nand
kind_of (suc (suc (suc (suc (suc zero))))) = Some Nor
kind_of (suc (suc (suc (suc (suc (suc n)))))) = None

-- whether two bits differ
abbrev pub apart : Bool → Bool → Bool
apart true b = not b
apart false b = b

abbrev pub gate_result : Kind → Bool → Bool → Bool
gate_result Xor a b = apart a b
gate_result And a b = a && b
gate_result Or a b = a || b
gate_result Xnor a b = not (apart a b)
gate_result Nand a b = not (a && b)
gate_result Nor a b = not (a || b)

-- the kind that a number names, or the number, which names none
abbrev pub Named : ℕ → Result Kind UnknownKind → Type 0
Named n (Ok k) = kind_of n ≡ Some k
Named n (Err e) = (kind_of n ≡ None) × (e.0 ≡ n)
