-- One gate done in each of several lists of words. Assumes nothing.
use Rattle.std.proofs.Common.{◌≡◌, ℕ, ◌+◌, ◌<◌, ◌≤◌, List, [], ◌∷◌, ◌++◌, map, length, get_or, take, drop, set, sym, ap, ap₂, ◌∙◌, add-zero, arith}
use Rattle.std.proofs.lemmas.List.{take_more, take_more_set, map_push, get_or-drop, drop-drop, drop-set-lt, take_all, length-set}
use Rattle.bench.specs.declared.gates.Gate.{Gate}
use Rattle.archiving.specs.Traces.{made_by, stepped}

module _ {X : Type 0} (items : X → List ℕ) (g : Gate) where
  abbrev pub makes : X → ℕ
  makes v = made_by g (items v)

  abbrev pub steps : X → List ℕ
  steps v = stepped g (items v)

  -- the first k lists are done
  pub record Done (k : ℕ) (xs now : List X) (made : List ℕ) : Type 0 where
    pub now_size : length now ≡ length xs
    pub made_size : length made ≡ length xs
    pub made_is : take k made ≡ map makes (take k xs)
    pub now_is : map items (take k now) ≡ map steps (take k xs)
    pub left : drop k now ≡ drop k xs

  pub one_done : (k : ℕ) (xs now : List X) (made : List ℕ) (d v : X) (w : ℕ) → k < length xs → Done k xs now made
      → w ≡ makes (get_or now k d) → items v ≡ steps (get_or now k d) → Done (k + 1) xs (set now k v) (set made k w)
  one_done k xs now made d v w lt h e f =
      let head : (ys : List X) → get_or (drop k ys) 0 d ≡ get_or ys k d = λ ys. get_or-drop k ys 0 d ∙ ap (λ j. get_or ys j d) (add-zero k) in
      let here : get_or now k d ≡ get_or xs k d = sym (head now) ∙ ap (λ ys. get_or ys 0 d) h.left ∙ head xs in
      let in_now : k < length now = omega (arith, h.now_size) in
      let in_made : k < length made = omega (arith, h.made_size) in
      let next : k < k + 1 = omega arith in
      let more : take (k + 1) xs ≡ take k xs ++ (get_or xs k d ∷ []) = take_more xs k d lt in
      record {
        now_size = length-set now k v ∙ h.now_size;
        made_size = length-set made k w ∙ h.made_size;
        made_is = take_more_set made k w in_made ∙ ap₂ (λ ys y. ys ++ (y ∷ [])) h.made_is (e ∙ ap makes here) ∙ sym (ap (map makes) more ∙ map_push makes (take k xs) (get_or xs k d));
        now_is =
            ap (map items) (take_more_set now k v in_now)
            ∙ map_push items (take k now) v
            ∙ ap₂ (λ ys y. ys ++ (y ∷ [])) h.now_is (f ∙ ap steps here)
            ∙ sym (ap (map steps) more ∙ map_push steps (take k xs) (get_or xs k d));
        left = drop-set-lt (k + 1) now k v next ∙ sym (drop-drop 1 k now) ∙ ap (drop 1) h.left ∙ drop-drop 1 k xs;
      }

  pub all_made : (k : ℕ) (xs now : List X) (made : List ℕ) → length xs ≤ k → Done k xs now made → made ≡ map makes xs
  all_made k xs now made le h = sym (take_all k made (omega (arith, h.made_size))) ∙ h.made_is ∙ ap (map makes) (take_all k xs le)

  pub all_stepped : (k : ℕ) (xs now : List X) (made : List ℕ) → length xs ≤ k → Done k xs now made → map items now ≡ map steps xs
  all_stepped k xs now made le h = sym (ap (map items) (take_all k now (omega (arith, h.now_size)))) ∙ h.now_is ∙ ap (map steps) (take_all k xs le)
