-- One turn of a run, and its end. Assumes nothing.
use Rattle.std.proofs.Common.{◌≡◌, ℕ, ◌+◌, ◌<◌, ◌≤◌, List, [], ◌∷◌, ◌++◌, length, get_or, take, drop, set, sym, ap, ◌∙◌, subst, ap₂, add-zero, arith}
use Rattle.std.proofs.lemmas.List.{take_more, take_more_set, map_push, get_or-drop, drop-drop, drop-set-lt, take_all}
use Rattle.unit.specs.View.{View}
use Rattle.law.specs.declared.calls.Entry.{Entry}
use Rattle.law.specs.Calls.{Asked, asked, line, lines, asks, log, ran, performed, next}
use Rattle.law.proofs.Holds.{Sound, AllSound}
use Rattle.law.proofs.Pushed.{log_push, ran_push}

-- the answers so far, the unit so far, the entries to come untouched, and the bytes so far
abbrev pub Sofar : View → View → ℕ → List Entry → List Entry → Type 0
Sofar v u i xs now =
    (lines (take i now) ≡ log v (asks (take i xs)))
    × (u ≡ ran v (asks (take i xs)))
    × (drop i now ≡ drop i xs)
    × AllSound (asks (take i xs))

asks_more : (xs : List Entry) (i : ℕ) (d : Entry) → i < length xs → asks (take (i + 1) xs) ≡ asks (take i xs) ++ (asked (get_or xs i d).call ∷ [])
asks_more xs i d lt = ap asks (take_more xs i d lt) ∙ map_push (λ (e : Entry). asked e.call) (take i xs) (get_or xs i d)

lines_more : (xs : List Entry) (i : ℕ) (e : Entry) → i < length xs → lines (take (i + 1) (set xs i e)) ≡ lines (take i xs) ++ (line e ∷ [])
lines_more xs i e lt = ap lines (take_more_set xs i e lt) ∙ map_push line (take i xs) e

head_of_drop : (xs : List Entry) (i : ℕ) (d : Entry) → get_or (drop i xs) 0 d ≡ get_or xs i d
head_of_drop xs i d = get_or-drop i xs 0 d ∙ ap (λ n. get_or xs n d) (add-zero i)

sound_push : (xs : List Asked) (a : Asked) → AllSound xs → Sound a → AllSound (xs ++ (a ∷ []))
sound_push [] a h s = (s, tt)
sound_push (x ∷ xs) a h s = (h.0, sound_push xs a h.1 s)

pub turn : (v u w : View) (i : ℕ) (xs now : List Entry) (d e : Entry) → i < length xs → length now ≡ length xs → Sofar v u i xs now
    → line e ≡ performed u (asked (get_or now i d).call) → w ≡ next u (asked (get_or now i d).call) → Sound (asked (get_or now i d).call) → Sofar v w (i + 1) xs (set now i e)
turn v u w i xs now d e lt len h said became sound =
    let here : get_or now i d ≡ get_or xs i d = sym (head_of_drop now i d) ∙ ap (λ l. get_or l 0 d) h.2 ∙ head_of_drop xs i d in
    let a : Asked = asked (get_or now i d).call in
    let calls : List Asked = asks (take i xs) in
    let more : asks (take (i + 1) xs) ≡ calls ++ (a ∷ []) = asks_more xs i d lt ∙ ap (λ (x : Entry). calls ++ (asked x.call ∷ [])) (sym here) in
    let lt' : i < length now = omega arith in
    let one : i < i + 1 = omega arith in (
      lines_more now i e lt'
          ∙ ap₂ (λ l x. l ++ (x ∷ [])) h.0 (said ∙ ap (λ t. performed t a) h.1)
          ∙ sym (log_push v calls a)
          ∙ ap (log v) (sym more),
      became ∙ ap (λ t. next t a) h.1 ∙ sym (ran_push v calls a) ∙ ap (ran v) (sym more),
      drop-set-lt (i + 1) now i e one ∙ sym (drop-drop 1 i now) ∙ ap (drop 1) h.2 ∙ drop-drop 1 i xs,
      subst AllSound (sym more) (sound_push calls a h.3 sound),
    )

pub finished : (v u : View) (i : ℕ) (xs now : List Entry) → length xs ≤ i → length now ≡ length xs → Sofar v u i xs now
    → (lines now ≡ log v (asks xs)) × (u ≡ ran v (asks xs)) × AllSound (asks xs)
finished v u i xs now le len h =
    let all : take i xs ≡ xs = take_all i xs le in
    let le' : length now ≤ i = omega arith in (
      ap lines (sym (take_all i now le')) ∙ h.0 ∙ ap (λ l. log v (asks l)) all,
      h.1 ∙ ap (λ l. ran v (asks l)) all,
      subst (λ (l : List Entry). AllSound (asks l)) all h.3,
    )
