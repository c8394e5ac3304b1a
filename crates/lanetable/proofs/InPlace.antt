-- A map over the records in place, as far as a loop has come. Assumes nothing.
use Rattle.std.proofs.Common.{◌≡◌, ℕ, ◌+◌, ◌<◌, List, [], ◌∷◌, ◌++◌, map, length, get_or, take, drop, set, sym, ap, ◌∙◌, arith}
use Rattle.std.proofs.lemmas.List.{take_more, drop_more, append_assoc, map_push, length-map, length-take-le, get_or_at, set_at}
use Rattle.lanetable.specs.declared.records.LaneRecord.{LaneRecord}
use Rattle.lanetable.specs.Records.{empty}

-- a map in place
module _ (f : LaneRecord → LaneRecord) where
  abbrev pub Half : List LaneRecord → ℕ → List LaneRecord → Type 0
  Half xs i now = now ≡ map f (take i xs) ++ drop i xs

  front : (xs : List LaneRecord) (i : ℕ) → i < length xs → length (map f (take i xs)) ≡ i
  front xs i lt = length-map (take i xs) f ∙ length-take-le i xs (omega arith)

  pub half_here : (xs now : List LaneRecord) (i : ℕ) → i < length xs → Half xs i now → get_or now i empty ≡ get_or xs i empty
  half_here xs now i lt h =
      ap (λ l. get_or l i empty) (h ∙ ap (λ l. map f (take i xs) ++ l) (drop_more xs i empty lt))
      ∙ get_or_at (map f (take i xs)) (get_or xs i empty) (drop (i + 1) xs) empty i (front xs i lt)

  pub half_next : (xs now : List LaneRecord) (i : ℕ) (y : LaneRecord) → i < length xs → Half xs i now → y ≡ f (get_or xs i empty) → Half xs (i + 1) (set now i y)
  half_next xs now i y lt h e =
      ap (λ l. set l i y) (h ∙ ap (λ l. map f (take i xs) ++ l) (drop_more xs i empty lt))
      ∙ set_at (map f (take i xs)) (get_or xs i empty) (drop (i + 1) xs) y i (front xs i lt)
      ∙ ap (λ y. map f (take i xs) ++ y ∷ drop (i + 1) xs) e
      ∙ sym (append_assoc (map f (take i xs)) (f (get_or xs i empty) ∷ []) (drop (i + 1) xs))
      ∙ ap (λ l. l ++ drop (i + 1) xs) (sym (map_push f (take i xs) (get_or xs i empty)) ∙ ap (map f) (sym (take_more xs i empty lt)))
