-- The bytes before the scratch, as a file of `free` bytes. Assumes nothing.
use Rattle.std.proofs.Common.{◌≡◌, ℕ, zero, suc, ◌+◌, ◌-◌, ◌<◌, ◌≤◌, ◌⊎◌, List, [], ◌∷◌, ◌++◌, map, length, get_or, take, replicate, sym, refl, ap, ◌∙◌, subst, inl, inr, arith}
use mathlib.Core.Option.{Option, some, none}
use Rattle.std.specs.List.{range_with_len}
use Rattle.std.proofs.lemmas.Bool.{cases_lt}
use Rattle.std.proofs.lemmas.List.{get_or-take, get_or_append_left, get_or-append_right, length-map}
use Rattle.std.proofs.lemmas.List.FromFn.{get_or-map-range_with_len, length-range_with_len}
use Rattle.circuit.specs.Lanes.{Lane}
use Rattle.circuit.proofs.Files.{Shows, ShowsAll, File}

-- the state s and the bytes k up to byte 16 + w, and scratch of which nothing is known
abbrev pub file_of : ℕ → (ℕ → ℕ) → (ℕ → ℕ) → File
file_of w s k = map (λ j. some (s j)) (range_with_len 0 16) ++ (map (λ j. some (k j)) (range_with_len 16 w) ++ replicate 40 none)

-- the state shows s and the bytes up to 16 + w show k
abbrev pub Shown : ℕ → Lane → (ℕ → ℕ) → (ℕ → ℕ) → Type 0
Shown w σ s k = ((j : ℕ) → j < 16 → Shows σ j (some (s j))) × ((j : ℕ) → 16 ≤ j → j < 16 + w → Shows σ j (some (k j)))

pub state_at : (w : ℕ) (σ : Lane) (file : File) (xs : List ℕ) (k : ℕ → ℕ) → length xs ≡ 16 → ShowsAll σ file
    → take (16 + w) file ≡ map {B = Option ℕ} (λ v. some v) xs ++ map (λ j. some (k j)) (range_with_len 16 w)
    → Shown w σ (λ j. get_or xs j 0) k
state_at w σ file xs k len shows e = (front, back)
  where
    somes : List (Option ℕ)
    somes = map {B = Option ℕ} (λ v. some v) xs

    somes_long : length somes ≡ 16
    somes_long = length-map xs (λ v. some v) ∙ len

    at_map : (ys : List ℕ) (j : ℕ) → j < length ys → get_or (map {B = Option ℕ} (λ v. some v) ys) j none ≡ some (get_or ys j 0)
    at_map [] j h = absurd (omega arith)
    at_map (y ∷ ys) zero h = refl
    at_map (y ∷ ys) (suc j) h = at_map ys j (omega arith)

    there : (j : ℕ) → j < 16 + w → get_or file j none ≡ get_or (somes ++ map (λ j. some (k j)) (range_with_len 16 w)) j none
    there j h = sym (get_or-take (16 + w) file j none h) ∙ ap (λ (x : File). get_or x j none) e

    front : (j : ℕ) → j < 16 → Shows σ j (some (get_or xs j 0))
    front j h = subst (Shows σ j) (there j (omega arith) ∙ get_or_append_left somes (map (λ j. some (k j)) (range_with_len 16 w)) none j (omega (arith, somes_long)) ∙ at_map xs j (omega arith)) (shows j)

    back : (j : ℕ) → 16 ≤ j → j < 16 + w → Shows σ j (some (k j))
    back j lo hi = subst (Shows σ j) (there j hi ∙ get_or-append_right somes (map (λ j. some (k j)) (range_with_len 16 w)) 16 j none somes_long lo
        ∙ get_or-map-range_with_len (λ j. some (k j)) 16 w (j - 16) j none (omega arith) (omega arith)) (shows j)

pub file_shows : (w : ℕ) (σ : Lane) (s k : ℕ → ℕ) → Shown w σ s k → ShowsAll σ (file_of w s k)
file_shows w σ s k (fs, fk) j = go (cases_lt j 16) (cases_lt j (16 + w))
  where
    ss : File
    ss = map (λ j. some (s j)) (range_with_len 0 16)

    ks : File
    ks = map (λ j. some (k j)) (range_with_len 16 w)

    ks_long : length ks ≡ w
    ks_long = length-map (range_with_len 16 w) (λ j. some (k j)) ∙ length-range_with_len 16 w

    none_at : (n i : ℕ) → get_or {A = Option ℕ} (replicate n none) i none ≡ none
    none_at zero i = refl
    none_at (suc n) zero = refl
    none_at (suc n) (suc i) = none_at n i

    go : (j < 16) ⊎ (16 ≤ j) → (j < 16 + w) ⊎ (16 + w ≤ j) → Shows σ j (get_or (file_of w s k) j none)
    go (inl h) m = subst (Shows σ j) (sym (get_or_append_left ss (ks ++ replicate 40 none) none j h ∙ get_or-map-range_with_len (λ j. some (s j)) 0 16 j j none h (omega arith))) (fs j h)
    go (inr h) (inl m) = subst (Shows σ j) (sym (get_or-append_right ss (ks ++ replicate 40 none) 16 j none refl h
        ∙ get_or_append_left ks (replicate 40 none) none (j - 16) (omega (arith, ks_long)) ∙ get_or-map-range_with_len (λ j. some (k j)) 16 w (j - 16) j none (omega arith) (omega arith))) (fk j h m)
    go (inr h) (inr m) = subst (Shows σ j) (sym (get_or-append_right ss (ks ++ replicate 40 none) 16 j none refl h
        ∙ get_or-append_right ks (replicate 40 none) w (j - 16) none ks_long (omega arith) ∙ none_at 40 (j - 16 - w))) tt
