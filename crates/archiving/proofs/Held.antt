-- Texts that hold parts, put together. Assumes nothing.
use Rattle.std.proofs.Common.{◌≡◌, ℕ, ◌+◌, ◌<◌, ◌≤◌, List, [], ◌∷◌, ◌++◌, map, length, get_or, take, sym, ap, ◌∙◌, subst, append_assoc, append-nil}
use Rattle.std.proofs.lemmas.List.{take_more, take_all, map_push}
use Rattle.plans.specs.declared.plays.Play.{Play}
use Rattle.archiving.specs.Parts.{Holds, Extends, page_part, page_parts}

pub holds_after : (xs : List (List ℕ)) (t u : List ℕ) → Holds xs u → Holds xs (t ++ u)
holds_after [] t u h = tt
holds_after (x ∷ xs) t u h = (t ++ h.0, h.1, ap (λ l. t ++ l) h.2 ∙ sym (append_assoc t h.0 (x ++ h.1)), h.3)

pub holds_both : (xs ys : List (List ℕ)) (t u : List ℕ) → Holds xs t → Holds ys u → Holds (xs ++ ys) (t ++ u)
holds_both [] ys t u h k = holds_after ys t u k
holds_both (x ∷ xs) ys t u h k = (
  h.0,
  h.1 ++ u,
  ap (λ l. l ++ u) h.2 ∙ append_assoc h.0 (x ++ h.1) u ∙ ap (λ l. h.0 ++ l) (append_assoc x h.1 u),
  holds_both xs ys h.1 u h.3 k,
)

pub extends_then : (xs ys : List (List ℕ)) (a b d : List ℕ) → Extends xs a b → Extends ys b d → Extends (xs ++ ys) a d
extends_then xs ys a b d p q =
    (p.0 ++ q.0, q.1 ∙ ap (λ l. l ++ q.0) p.1 ∙ append_assoc a p.0 q.0, holds_both xs ys p.0 q.0 p.2 q.2)

pub extends_by : (a b e : List ℕ) → b ≡ a ++ e → Extends [] a b
extends_by a b e p = (e, p, tt)

pub extends_part : (a b e : List ℕ) → b ≡ a ++ e → Extends (e ∷ []) a b
extends_part a b e p = (e, p, ([], [], sym (append-nil e), tt))

pub extends_none : (a : List ℕ) → Extends [] a a
extends_none a = ([], sym (append-nil a), tt)

-- only the start is known
pub extends_from : (xs : List (List ℕ)) (a b d e : List ℕ) → b ≡ a ++ e → Extends xs b d → Extends xs a d
extends_from xs a b d e p q = extends_then [] xs a b d (extends_by a b e p) q

pub page_more : (inv : List ℕ) (ps : List Play) (i : ℕ) (d : Play) (a b e : List ℕ) → i < length ps → Extends (page_parts inv (take i ps)) a b → Extends (page_part inv (get_or ps i d) ∷ []) b e
    → Extends (page_parts inv (take (i + 1) ps)) a e
page_more inv ps i d a b e h p q =
    let same : page_parts inv (take i ps) ++ (page_part inv (get_or ps i d) ∷ []) ≡ page_parts inv (take (i + 1) ps) =
    sym (ap (map (page_part inv)) (take_more ps i d h) ∙ map_push (page_part inv) (take i ps) (get_or ps i d)) in
    subst (λ xs. Extends xs a e) same (extends_then (page_parts inv (take i ps)) (page_part inv (get_or ps i d) ∷ []) a b e p q)

pub page_all : (inv : List ℕ) (ps : List Play) (i : ℕ) (a b : List ℕ) → length ps ≤ i → Extends (page_parts inv (take i ps)) a b → Extends (page_parts inv ps) a b
page_all inv ps i a b h p = subst (λ (xs : List Play). Extends (page_parts inv xs) a b) (take_all i ps h) p

pub holds_more : (xs : List (List ℕ)) (t u : List ℕ) → Holds xs t → Holds xs (t ++ u)
holds_more [] t u h = tt
holds_more (x ∷ xs) t u h = (
  h.0,
  h.1 ++ u,
  ap (λ l. l ++ u) h.2 ∙ append_assoc h.0 (x ++ h.1) u ∙ ap (λ l. h.0 ++ l) (append_assoc x h.1 u),
  holds_more xs h.1 u h.3,
)

pub held_in : (xs : List (List ℕ)) (a b d e : List ℕ) → Extends xs a b → d ≡ b ++ e → Holds xs d
held_in xs a b d e p q =
    subst (Holds xs) (sym (q ∙ ap (λ l. l ++ e) p.1)) (holds_more xs (a ++ p.0) e (holds_after xs a p.0 p.2))
