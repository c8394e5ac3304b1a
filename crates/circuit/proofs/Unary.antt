-- A page with one socket in, by one run over numbers of 256 bits: lane v is the input v. Assumes nothing.
use Rattle.std.proofs.Common.{◌≡◌, ℕ, zero, suc, ◌+◌, ◌-◌, ◌*◌, ◌^◌, ◌<◌, ◌≤◌, Bool, true, not, ◌&&◌, ◌||◌, T, ◌⊎◌, List, [], ◌∷◌, map, length, get_or, take, replicate, sym, refl, ap, ◌∙◌, subst, ap₂, inl, inr, arith}
use mathlib.Core.Option.{Option, some, none}
use lib.Bits.{bit_and, bit_or, bit_xor}
use Rattle.std.proofs.lemmas.Bool.{cases_lt}
use Rattle.std.proofs.lemmas.List.{get_or-take, length-replicate}
use Rattle.standard.specs.Bits.{bit}
use Rattle.bench.specs.Kinds.{apart as xor_b, gate_result}
use Rattle.circuit.proofs.BitLaws.{table, bit_xor_lem, bit_and_lem, bit_or_lem, bit_table}
use Rattle.bench.specs.declared.kinds.Kind.{Kind}
use Rattle.bench.specs.declared.gates.Gate.{Gate}
use Rattle.bench.specs.declared.kinds.Kind.TheVariants.{Xor, And, Or, Xnor, Nand, Nor}
use Rattle.circuit.specs.Lanes.{Lane, play_on}
use Rattle.circuit.specs.Places.{place, distinct, fits_all}
use Rattle.circuit.proofs.Files.{Shows, File, Effect, place_apart, place_at}
use Rattle.circuit.proofs.Run.{run, Tells, tells_after}

-- ---- gates on 256 lanes
unfoldable pub full : ℕ
full = 2 ^ 256 - 1

full_is : full ≡ table (λ v. 1) 256 0
unfolding full table bit
full_is = refl

bit_one : bit 1 0 ≡ true
unfolding bit
bit_one = refl

bit_full : (v : ℕ) → v < 256 → bit full v ≡ true
bit_full v h = ap (λ (x : ℕ). bit x v) full_is ∙ bit_table (λ v. 1) 256 0 v h ∙ bit_one

unfoldable pub wide_op : Kind → ℕ → ℕ → ℕ
unfolding full
wide_op Xor x y = bit_xor x y
wide_op And x y = bit_and x y
wide_op Or x y = bit_or x y
wide_op Xnor x y = bit_xor full (bit_xor x y)
wide_op Nand x y = bit_xor full (bit_and x y)
wide_op Nor x y = bit_xor full (bit_or x y)

bit_not : (v n : ℕ) (b : Bool) → v < 256 → bit n v ≡ b → bit (bit_xor full n) v ≡ not b
bit_not v n b h e = bit_xor_lem full n v ∙ ap₂ xor_b (bit_full v h) e

wide_at : (v : ℕ) → v < 256 → (k : Kind) (x y : ℕ) → bit (wide_op k x y) v ≡ gate_result k (bit x v) (bit y v)
unfolding wide_op
wide_at v h Xor x y = bit_xor_lem x y v
wide_at v h And x y = bit_and_lem x y v
wide_at v h Or x y = bit_or_lem x y v
wide_at v h Xnor x y = bit_not v (bit_xor x y) (xor_b (bit x v) (bit y v)) h (bit_xor_lem x y v)
wide_at v h Nand x y = bit_not v (bit_and x y) (bit x v && bit y v) h (bit_and_lem x y v)
wide_at v h Nor x y = bit_not v (bit_or x y) (bit x v || bit y v) h (bit_or_lem x y v)

-- what is not known stays unknown
unfoldable pub wide : Kind → Option ℕ → Option ℕ → Option ℕ
unfolding wide_op
wide k none y = none
wide k (some x) none = none
wide k (some x) (some y) = some (wide_op k x y)

abbrev LaneOf : ℕ → Option ℕ → Bool → Type 0
LaneOf v none b = Unit {0}
LaneOf v (some n) b = bit n v ≡ b

keeps : (v : ℕ) → v < 256 → (k : Kind) (x y : Option ℕ) (u w : Bool) → LaneOf v x u → LaneOf v y w → LaneOf v (wide k x y) (gate_result k u w)
unfolding wide
keeps v h k none y u w p q = tt
keeps v h k (some x) none u w p q = tt
keeps v h k (some x) (some y) u w p q = wide_at v h k x y ∙ ap₂ (gate_result k) p q

-- ---- the tables of byte functions, eight numbers each
abbrev pub tab8 : (ℕ → ℕ) → List (Option ℕ) → List (Option ℕ)
tab8 F rest = some (table F 256 0) ∷ some (table F 256 1) ∷ some (table F 256 2) ∷ some (table F 256 3)
    ∷ some (table F 256 4) ∷ some (table F 256 5) ∷ some (table F 256 6) ∷ some (table F 256 7) ∷ rest

abbrev pub expected : List (ℕ → ℕ) → List (Option ℕ)
expected [] = []
expected (F ∷ Fs) = tab8 F (expected Fs)

abbrev pub same : ℕ → ℕ
same v = v

tab8_at : (F : ℕ → ℕ) (rest : List (Option ℕ)) (i : ℕ) → i < 8 → get_or (tab8 F rest) i none ≡ some (table F 256 i)
tab8_at F rest zero h = refl
tab8_at F rest (suc zero) h = refl
tab8_at F rest (suc (suc zero)) h = refl
tab8_at F rest (suc (suc (suc zero))) h = refl
tab8_at F rest (suc (suc (suc (suc zero)))) h = refl
tab8_at F rest (suc (suc (suc (suc (suc zero))))) h = refl
tab8_at F rest (suc (suc (suc (suc (suc (suc zero)))))) h = refl
tab8_at F rest (suc (suc (suc (suc (suc (suc (suc zero))))))) h = refl
tab8_at F rest (suc (suc (suc (suc (suc (suc (suc (suc i)))))))) h = absurd (omega arith)

tab8_past : (F : ℕ → ℕ) (rest : List (Option ℕ)) (m : ℕ) → get_or (tab8 F rest) (8 + m) none ≡ get_or rest m none
tab8_past F rest m = ap (λ (k : ℕ). get_or (tab8 F rest) k none) (eight m)
  where
    eight : (m : ℕ) → 8 + m ≡ suc (suc (suc (suc (suc (suc (suc (suc m)))))))
    eight m = omega arith

expected_at : (Fs : List (ℕ → ℕ)) (l i : ℕ) → l < length Fs → i < 8 → get_or (expected Fs) (8 * l + i) none ≡ some (table (get_or Fs l same) 256 i)
expected_at [] l i hl hi = absurd (omega arith)
expected_at (F ∷ Fs) zero i hl hi = ap (λ (k : ℕ). get_or (tab8 F (expected Fs)) k none) (zeros i) ∙ tab8_at F (expected Fs) i hi
  where
    zeros : (i : ℕ) → 8 * zero + i ≡ i
    zeros i = omega arith
expected_at (F ∷ Fs) (suc l) i hl hi = ap (λ (k : ℕ). get_or (tab8 F (expected Fs)) k none) (more l i) ∙ tab8_past F (expected Fs) (8 * l + i) ∙ expected_at Fs l i (omega arith) hi
  where
    more : (l i : ℕ) → 8 * suc l + i ≡ 8 + (8 * l + i)
    more l i = omega arith

-- byte 0 is the input, the other m bytes are not known
abbrev pub start : ℕ → List (Option ℕ)
start m = tab8 same (replicate (8 * m) none)

abbrev pub unary : List (ℕ → ℕ) → Option ℕ → File
unary Fs none = []
unary Fs (some v) = map (λ F. some (F v)) Fs

-- each function gives bytes
abbrev pub Bytes : List (ℕ → ℕ) → Type 0
Bytes Fs = (l v : ℕ) → v < 256 → get_or Fs l same v < 256

out_at : (Fs : List (ℕ → ℕ)) (v l : ℕ) → (σ : Lane) (j : ℕ) → (l < length Fs → Shows σ j (some (get_or Fs l same v))) → Shows σ j (get_or (map {B = Option ℕ} (λ F. some (F v)) Fs) l none)
out_at [] v l σ j h = tt
out_at (F ∷ Fs) v zero σ j h = h (omega arith)
out_at (F ∷ Fs) v (suc l) σ j h = out_at Fs v l σ j (λ k. h (omega arith))

module _ (gs : List Gate) (m : ℕ) (Fs : List (ℕ → ℕ)) (bytes : Bytes Fs)
    (fit : T (fits_all (8 * suc m) gs)) (few : length Fs ≤ suc m)
    (ran : take (8 * length Fs) (run wide none gs (start m)) ≡ expected Fs) where
  module _ (P : List ℕ) (len : length P ≡ suc m) (apart : T (distinct P)) (σ : Lane) (v : ℕ) (hv : v < 256)
      (shown : (i : ℕ) → i < 8 → σ (8 * get_or P 0 0 + i) ≡ bit v i) where
    before : Tells wide none (LaneOf v) (keeps v hv) (place P) (8 * suc m) (place_apart P (suc m) len apart) (start m) σ
    before = (omega (arith, length-replicate {A = Option ℕ} (8 * m) none), λ i hi. at i (cases_lt i 8))
      where
        at : (i : ℕ) → (i < 8) ⊎ (8 ≤ i) → LaneOf v (get_or (start m) i none) (σ (place P i))
        at i (inl h) =
            subst (λ (o : Option ℕ). LaneOf v o (σ (place P i))) (sym (tab8_at same (replicate (8 * m) none) i h))
            (bit_table same 256 i v hv ∙ sym (ap σ (ap (place P) (zeros i) ∙ place_at P 0 i h) ∙ shown i h))
          where
            zeros : (i : ℕ) → i ≡ 8 * 0 + i
            zeros i = omega arith
        at i (inr h) = subst (λ (o : Option ℕ). LaneOf v o (σ (place P i))) (sym (unknown (i - 8) i (omega arith))) tt
          where
            none_at : (n k : ℕ) → get_or {A = Option ℕ} (replicate n none) k none ≡ none
            none_at zero k = refl
            none_at (suc n) zero = refl
            none_at (suc n) (suc k) = none_at n k

            unknown : (k i : ℕ) → i ≡ 8 + k → get_or (start m) i none ≡ none
            unknown k i e = ap (λ (x : ℕ). get_or (start m) x none) e ∙ tab8_past same (replicate (8 * m) none) k ∙ none_at (8 * m) k

    after : (l : ℕ) → l < length Fs → Shows (play_on (place P) gs σ) (get_or P l 0) (some (get_or Fs l same v))
    after l hl = (
      bytes l v hv,
      λ i hi.
          let told = (tells_after wide none (LaneOf v) (keeps v hv) (place P) (8 * suc m) (place_apart P (suc m) len apart) gs (start m) σ fit before).1 (8 * l + i) (omega arith) in
          let known : get_or (run wide none gs (start m)) (8 * l + i) none ≡ some (table (get_or Fs l same) 256 i)
          = sym (get_or-take (8 * length Fs) (run wide none gs (start m)) (8 * l + i) none (omega arith)) ∙ ap (λ (x : List (Option ℕ)). get_or x (8 * l + i) none) ran ∙ expected_at Fs l i hl hi in
          let e : bit (table (get_or Fs l same) 256 i) v ≡ play_on (place P) gs σ (place P (8 * l + i)) = subst (λ (o : Option ℕ). LaneOf v o (play_on (place P) gs σ (place P (8 * l + i)))) known told in
          ap (play_on (place P) gs σ) (sym (place_at P l i hi)) ∙ sym e ∙ bit_table (get_or Fs l same) 256 i v hv,
    )

  pub unary_page : Effect gs (suc m) (λ fs. unary Fs (get_or fs 0 none))
  unary_page = record {
    fit = fit;
    does = λ P len apart σ fs shows l hl. go P len apart σ (get_or fs 0 none) (shows 0 (omega arith)) l;
  }
    where
      go : (P : List ℕ) → length P ≡ suc m → T (distinct P) → (σ : Lane) (o : Option ℕ) → Shows σ (get_or P 0 0) o → (l : ℕ) → Shows (play_on (place P) gs σ) (get_or P l 0) (get_or (unary Fs o) l none)
      go P len apart σ none h l = tt
      go P len apart σ (some v) h l = out_at Fs v l (play_on (place P) gs σ) (get_or P l 0) (λ hl. after P len apart σ v h.0 h.1 l hl)
