-- Arrays of sixteen made by a function of the index, or of each byte. Assumes nothing.
use Rattle.std.proofs.Common.{◌≡◌, ℕ, zero, suc, ◌+◌, ◌<◌, ◌≤◌, List, map, length, get_or, sym, refl, ap, ◌∙◌, subst, inl, inr, arith}
use Rattle.std.proofs.lemmas.List.FromFn.{fill_by_all, get_or-map-range_with_len}
use Rattle.std.proofs.lemmas.List.{length-map, get_or-map, ext_get_or}
use denote.Param.Members.{Mut, Called}
use Rattle.std.specs.Array.{IsFromFnResultFrom, IsFromFnResult, MapsFrom, IsMapOf}
use Rattle.std.specs.List.{range_with_len}
use Rattle.std.proofs.lemmas.Bool.{cases_eq}
use Rattle.standard.specs.Kinds.{sixteen}

pub sixteen_same : (f g : ℕ → ℕ) → ((j : ℕ) → j < 16 → f j ≡ g j) → sixteen f ≡ sixteen g
sixteen_same f g h = fill_by_all g (sixteen f) 16 0 refl (λ j hj. get_or-map-range_with_len f 0 16 j j 0 hj (omega arith) ∙ h j hj)

-- ---- a closure that computes h and changes nothing, at each place in turn
module _ {F : Type 0} (g : Mut F (ℕ × Unit {0}) ℕ) (f : F) (h : ℕ → ℕ) (n : ℕ) (computes : (x r : ℕ) (f' : F) → x < n → Called g f (x, tt) r f' → (f' ≡ f) × (r ≡ h x)) where
  made_from : (m i : ℕ) → i + m ≤ n → (p : F) → p ≡ f → (ys : List ℕ) → IsFromFnResultFrom g p ys i m → (k : ℕ) → i ≤ k → k < i + m → get_or ys k 0 ≡ h k
  made_from zero i fits p e ys r k low high = absurd (omega arith)
  made_from (suc m) i fits p e ys r k low high =
      let call : Called g f (i, tt) r.1 r.0 = subst (λ (q : F). Called g q (i, tt) r.1 r.0) e r.3 in
      let here : (r.0 ≡ f) × (r.1 ≡ h i) = computes i r.1 r.0 (omega arith) call in
      elim (cases_eq k i) [
        | inl same ↦ ap (λ (x : ℕ). get_or ys x 0) same ∙ r.2.1 0 ∙ here.1 ∙ sym (ap h same)
        | inr other ↦ made_from m (i + 1) (omega arith) r.0 here.0 ys r.4 k (omega arith) (omega arith)
      ]

  pub made : (ys : List ℕ) → IsFromFnResult g f ys n → ys ≡ map h (range_with_len 0 n)
  made ys r = fill_by_all h ys n 0 r.long (λ k small. made_from n 0 (omega arith) f refl ys r.each k (omega arith) (omega arith))

-- ---- the same, at each byte in turn
module _ {F : Type 0} (g : Mut F (ℕ × Unit {0}) ℕ) (f : F) (h : ℕ → ℕ) (computes : (x r : ℕ) (f' : F) → Called g f (x, tt) r f' → (f' ≡ f) × (r ≡ h x)) where
  mapped_from : (xs ys : List ℕ) (m i : ℕ) (p : F) → p ≡ f → MapsFrom g p xs ys i m → (k : ℕ) → i ≤ k → k < i + m → get_or ys k 0 ≡ h (get_or xs k 0)
  mapped_from xs ys zero i p e r k low high = absurd (omega arith)
  mapped_from xs ys (suc m) i p e r k low high =
      let call : Called g f (r.1, tt) r.2 r.0 = subst (λ (q : F). Called g q (r.1, tt) r.2 r.0) e r.5 in
      let here : (r.0 ≡ f) × (r.2 ≡ h r.1) = computes r.1 r.2 r.0 call in
      elim (cases_eq k i) [
        | inl same ↦ ap (λ (x : ℕ). get_or ys x 0) same ∙ r.4.1 0 ∙ here.1 ∙ sym (ap h (ap (λ (x : ℕ). get_or xs x 0) same ∙ r.3.1 0))
        | inr other ↦ mapped_from xs ys m (i + 1) r.0 here.0 r.6 k (omega arith) (omega arith)
      ]

  pub mapped : (xs ys : List ℕ) (n : ℕ) → length xs ≡ n → IsMapOf g f xs ys n → ys ≡ map h xs
  mapped xs ys n long r =
      let each : (k : ℕ) → k < length ys → get_or ys k 0 ≡ get_or (map h xs) k 0 =
      λ k small. mapped_from xs ys n 0 f refl r.each k (omega arith) (omega (arith, r.long)) ∙ sym (get_or-map h xs k 0 0 (omega (arith, r.long))) in
      ext_get_or 0 ys (map h xs) (r.long ∙ sym (length-map xs h ∙ long)) each
