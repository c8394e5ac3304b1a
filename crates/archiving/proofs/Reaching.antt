-- A plan written part by part. Assumes nothing.
use Rattle.std.proofs.Common.{◌≡◌, ℕ, ◌+◌, ◌≤◌, List, [], ◌∷◌, ◌++◌, length, take, drop, sym, refl, ap, ◌∙◌, subst, arith}
use Rattle.std.proofs.lemmas.List.{length-take-le, length-drop, take-append-drop, take-take, drop-append-le, drop_all, take_all}
use Rattle.plans.specs.declared.plays.Play.{Play}
use Rattle.archiving.specs.Lines.{play_line}
use Rattle.archiving.specs.Listings.{play_lines}
use Rattle.archiving.specs.declared.cursors.Listing.{Listing}
use Rattle.archiving.specs.Parts.{Holds, Extends, Reached, Listed, lines_of, between}
use Rattle.archiving.proofs.Held.{extends_then, extends_from, extends_none}

pub holds_lines : (i : ℕ) (ps : List Play) → Holds (lines_of i ps) (play_lines i ps)
holds_lines i [] = tt
holds_lines i (p ∷ ps) = ([], play_lines (i + 1) ps, refl, holds_lines (i + 1) ps)

lines_join : (i : ℕ) (xs ys : List Play) → lines_of i (xs ++ ys) ≡ lines_of i xs ++ lines_of (i + length xs) ys
lines_join i [] ys = ap (λ n. lines_of n ys) (omega arith)
lines_join i (x ∷ xs) ys =
    let e : (i + 1) + length xs ≡ i + length (x ∷ xs) = omega arith in
    ap (λ l. play_line i x ∷ l) (lines_join (i + 1) xs ys ∙ ap (λ n. lines_of (i + 1) xs ++ lines_of n ys) e)

parts_join : (plan : List Play) (a b d : ℕ) → a ≤ b → b ≤ d → d ≤ length plan → drop a (take b plan) ++ drop b (take d plan) ≡ drop a (take d plan)
parts_join plan a b d p q h =
    let n : length (take b plan) ≡ b = length-take-le b plan (omega arith) in
    let whole : take b plan ++ drop b (take d plan) ≡ take d plan = ap (λ l. l ++ drop b (take d plan)) (sym (take-take b d plan q)) ∙ take-append-drop b (take d plan) in
    sym (drop-append-le a (take b plan) (drop b (take d plan)) (omega arith)) ∙ ap (drop a) whole

between_join : (plan : List Play) (a b d : ℕ) → a ≤ b → b ≤ d → d ≤ length plan → between plan a b ++ between plan b d ≡ between plan a d
unfolding between
between_join plan a b d p q h =
    let n : length (take b plan) ≡ b = length-take-le b plan (omega arith) in
    let m : a + length (drop a (take b plan)) ≡ b = omega (arith, length-drop a (take b plan)) in
    ap (λ k. lines_of a (drop a (take b plan)) ++ lines_of k (drop b (take d plan))) (sym m)
    ∙ sym (lines_join a (drop a (take b plan)) (drop b (take d plan)))
    ∙ ap (lines_of a) (parts_join plan a b d p q h)

pub reached_then : (plan : List Play) (a b d : ℕ) (u v w : List ℕ) → Reached plan a u v b → Reached plan b v w d → Reached plan a u w d
reached_then plan a b d u v w p q = record {
  low = omega arith;
  high = q.high;
  lines = subst (λ xs. Extends xs u w) (between_join plan a b d p.low q.low q.high) (extends_then (between plan a b) (between plan b d) u v w p.lines q.lines);
}

pub reached_none : (plan : List Play) (a : ℕ) (u : List ℕ) → a ≤ length plan → Reached plan a u u a
unfolding between
reached_none plan a u h = record {
  low = omega arith;
  high = h;
  lines = subst (λ (xs : List Play). Extends (lines_of a xs) u u) (sym (drop_all a (take a plan) (omega (arith, length-take-le a plan h)))) (extends_none u);
}

-- a heading, and then the plays up to an index
pub reached_step : (plan : List Play) (a b : ℕ) (part : List Play) (u v w x : List ℕ) → a ≤ b → b ≤ length plan → v ≡ u ++ x → part ≡ take b plan → w ≡ v ++ play_lines a (drop a part) → Reached plan a u w b
unfolding between
reached_step plan a b part u v w x l h e f g = record {
  low = l;
  high = h;
  lines = extends_from (lines_of a (drop a (take b plan))) u v w x e
      (play_lines a (drop a (take b plan)), g ∙ ap (λ (ps : List Play). v ++ play_lines a (drop a ps)) f, holds_lines a (drop a (take b plan)));
}

pub reached_under : (plan : List Play) (a b : ℕ) (u v w : List ℕ) → Extends [] u v → Reached plan a v w b → Reached plan a u w b
reached_under plan a b u v w p q = record {
  low = q.low;
  high = q.high;
  lines = extends_then [] (between plan a b) u v w p q.lines;
}

pub reached_all : (plan : List Play) (b : ℕ) (u v w : List ℕ) → Reached plan 0 u v b → w ≡ v ++ play_lines b (drop b plan) → Extends (lines_of 0 plan) u w
unfolding between
reached_all plan b u v w p e =
    let n = length plan in
    let same : plan ≡ take n plan = sym (take_all n plan (omega arith)) in
    let rest : Reached plan b v w n = record {
      low = p.high;
      high = omega arith;
      lines = (play_lines b (drop b plan), e, subst (λ (ps : List Play). Holds (lines_of b (drop b ps)) (play_lines b (drop b plan))) same (holds_lines b (drop b plan)));
    } in
    subst (λ (ps : List Play). Extends (lines_of 0 ps) u w) (sym same) (reached_then plan 0 b n u v w p rest).lines

-- ---- a listing

pub listed_none : (x : Listing) (u : List ℕ) → Listed x x u u
listed_none x u = record { plan = refl; plays = reached_none x.plan.now x.at u x.within }

pub listed_then : (x y z : Listing) (u v w : List ℕ) → Listed x y u v → Listed y z v w → Listed x z u w
listed_then x y z u v w p q = record {
  plan = q.plan ∙ p.plan;
  plays = reached_then x.plan.now x.at y.at z.at u v w p.plays (subst (λ (ps : List Play). Reached ps y.at v w z.at) p.plan q.plays);
}

pub listed_under : (x y : Listing) (u v w : List ℕ) → Extends [] u v → Listed x y v w → Listed x y u w
listed_under x y u v w p q = record { plan = q.plan; plays = reached_under x.plan.now x.at y.at u v w p q.plays }

pub listed_all : (x y : Listing) (plan : List Play) (u v w : List ℕ) → x.plan.now ≡ plan → x.at ≡ 0 → Listed x y u v → w ≡ v ++ play_lines y.at (drop y.at y.plan.now) → Extends (lines_of 0 plan) u w
listed_all x y plan u v w e z p q =
    subst (λ (ps : List Play). Extends (lines_of 0 ps) u w) e
    (reached_all x.plan.now y.at u v w (subst (λ n. Reached x.plan.now n u v y.at) z p.plays) (q ∙ ap (λ (ps : List Play). v ++ play_lines y.at (drop y.at ps)) p.plan))
