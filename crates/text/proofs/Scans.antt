-- Where the first byte of a kind stands, if there is one. Assumes nothing.
use Rattle.std.proofs.Common.{◌≡◌, ℕ, ◌<◌, ◌≤◌, Bool, true, false, not, ltb, eqb, List, length, Some, None, Option, inl, inr, refl, ap, ◌∙◌, arith}
use Rattle.std.specs.Option.{unwrap_or}
use Rattle.std.specs.List.{prefix_len, position_or_len, position}
use Rattle.std.proofs.lemmas.List.Sums.{prefix_len-le-length}
use Rattle.std.proofs.lemmas.Bool.{cases_lt, lt-ltb, le-ltb, cond-true, cond-false}

module _ (p : ℕ → Bool) (xs : List ℕ) where
  abbrev at : ℕ
  at = position_or_len p xs

  pub inside : at < length xs → position p xs ≡ Some at
  inside h = cond-true (ltb at (length xs)) (Some at) None (lt-ltb at (length xs) h)

  pub nowhere : length xs ≤ at → position p xs ≡ None
  nowhere h = cond-false (ltb at (length xs)) (Some at) None (le-ltb at (length xs) h)

  ends : length xs ≤ at → at ≡ length xs
  ends h = omega (arith, prefix_len-le-length (λ x. not (p x)) xs)

  -- the place, or the end where there is none
  pub place_or_end : (o : Option ℕ) → o ≡ position p xs → unwrap_or o (length xs) ≡ at
  place_or_end o e =
      elim (cases_lt at (length xs)) [
        | inl h ↦ ap (λ o. unwrap_or o (length xs)) (e ∙ inside h)
        | inr h ↦ ap (λ o. unwrap_or o (length xs)) (e ∙ nowhere h) ∙ omega (arith, ends h)
      ]

not_not : (q : Bool) → not (not q) ≡ q
not_not true = refl
not_not false = refl

-- up to the first byte that is not b
pub before_other : (b : ℕ) (xs : List ℕ) → position_or_len (λ x. not (eqb x b)) xs ≡ prefix_len (λ x. eqb x b) xs
before_other b xs = λ i. prefix_len (λ x. not_not (eqb x b) i) xs
