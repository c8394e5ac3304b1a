-- The lanes of a unit filled with a key and blocks, scheduled and sealed. Assumes nothing.
use Rattle.std.proofs.Common.{◌≡◌, ℕ, zero, suc, ◌+◌, ◌-◌, ◌<◌, ◌≤◌, Bool, true, false, cond, eqb, ltb, leb, List, [], ◌∷◌, ◌++◌, map, length, get_or, set, replicate, Some, None, Option, sym, refl, ap, ◌∙◌, subst, ⊎_elim, arith}
use Rattle.std.proofs.lemmas.List.{length-replicate}
use Rattle.std.proofs.lemmas.Bool.{and_from, le-leb, lt-ltb, eq-eqb, ne_eqb, cases_eq}
use Rattle.standard.specs.Kinds.{encrypted}
use Rattle.bench.specs.declared.faults.Fault.{Fault}
use Rattle.bench.specs.Model.{Model, Memory}
use Rattle.lane.specs.Spans.{laid}
use Rattle.plans.specs.Pages.{own_inverter}
use Rattle.plans.specs.Plans.{schedule_plan, seal_plan}
use Rattle.plans.proofs.Counts.{schedule_count, seal_count}
use Rattle.lanetable.specs.declared.records.KeyState.TheVariants.{Placed}
use Rattle.lanetable.specs.declared.records.LaneRecord.{LaneRecord}
use Rattle.lanetable.specs.Records.{empty, with_key, with_block, promotes, any_placed, any_block, lowest_from, lowest_unready}
use Rattle.unit.specs.Works.{kind, K, S}
use Rattle.unit.specs.View.{View, Shape, shape, made}
use Rattle.unit.specs.Lanes.{state_of}
use Rattle.unit.specs.Answers.{ask, fits, enough, every_key, placing, reading, scheduling, working, settled}
use Rattle.unit.proofs.Planned.{planned_registers, planned_lanes, worked_falls}
use Rattle.unit.proofs.Settled.{Sized}
use Rattle.law.specs.Calls.{Asked, place_key, place_block, schedule, seal, refusal, done, next}
use Rattle.law.specs.Book.{Page, Book, blank, wrote, turned as turned_page}
use Rattle.law.proofs.Holds.{Holds, HoldsBlock, made_holds, done_holds}
use Rattle.sealing.specs.Steps.{filled, turned}

-- ---- bytes

abbrev pub Bytes : List ℕ → Type 0
Bytes xs = (j : ℕ) → get_or xs j 0 < 256

-- sixteen bytes
pub record Sixteen (xs : List ℕ) : Type 0 where
  pub long : length xs ≡ 16
  pub bytes : Bytes xs

-- ---- questions answered yes

asked_none : (b : Bool) (f : Fault) (rest : Option Fault) → b ≡ true → rest ≡ None → ask b f rest ≡ None
asked_none b f rest e h = ap (λ t. cond t rest (Some f)) e ∙ h

fits_true : (s : Shape) → Sized s → fits s ≡ true
fits_true s z = and_from (leb 2048 s.registers) _ (le-leb 2048 s.registers z.room) (and_from (leb 1 s.lanes) (leb s.lanes 128) (le-leb 1 s.lanes z.some) (le-leb s.lanes 128 z.few))

placing_none : (s : Shape) (l n : ℕ) → Sized s → l < s.lanes → n ≡ 16 → placing 16 s l n ≡ None
placing_none s l n z lt e =
    asked_none (fits s) _ _ (fits_true s z) (asked_none (ltb l s.lanes) _ _ (lt-ltb l s.lanes lt) (asked_none (eqb n 16) _ _ (eq-eqb n 16 e) refl))

enough_none : (cost left : ℕ) → cost ≤ left → enough cost left ≡ None
enough_none cost left h = asked_none (leb cost left) _ _ (le-leb cost left h) refl

scheduling_none : (s : Shape) → Sized s → any_placed s.records ≡ true → K ≤ s.left → scheduling s ≡ None
scheduling_none s z some h =
    asked_none (fits s) _ _ (fits_true s z) (asked_none (any_placed s.records) _ _ some (enough_none K s.left h))

working_none : (s : Shape) (cost : ℕ) → Sized s → any_block s.records ≡ true → lowest_unready s.records ≡ None → cost ≤ s.left → working s cost ≡ None
working_none s cost z some ready h =
    asked_none (fits s) _ _ (fits_true s z)
    (asked_none (any_block s.records) _ _ some (ap (λ o. every_key o (enough cost s.left)) ready ∙ enough_none cost s.left h))

reading_none : (s : Shape) (l : ℕ) → Sized s → l < s.lanes → (get_or s.records l empty).block ≡ true → reading s l 16 ≡ None
reading_none s l z lt e =
    asked_none (fits s) _ _ (fits_true s z) (asked_none (ltb l s.lanes) _ _ (lt-ltb l s.lanes lt) (asked_none (get_or s.records l empty).block _ _ e refl))

next_done : (v : View) (a : Asked) → refusal (shape v) a ≡ None → next v a ≡ done v a
next_done v a e = ap (λ o. settled o (done v a) v) e

-- ---- the records of filled lanes

abbrev full : LaneRecord
full = record { key = Placed; block = true }

abbrev keyed : List LaneRecord → ℕ → List LaneRecord
keyed rs n = set rs n (with_key (get_or rs n empty))

abbrev blocked : List LaneRecord → ℕ → List LaneRecord
blocked rs n = set rs n (with_block (get_or rs n empty))

abbrev lanes_full : ℕ → ℕ → List LaneRecord
lanes_full n m = replicate n full ++ replicate m empty

both_set : (p ys : List LaneRecord) → blocked (keyed (p ++ (empty ∷ ys)) (length p)) (length p) ≡ p ++ (full ∷ ys)
both_set [] ys = refl
both_set (x ∷ p) ys = ap (λ l. x ∷ l) (both_set p ys)

one_more : (n : ℕ) (x : LaneRecord) (ys : List LaneRecord) → replicate n x ++ (x ∷ ys) ≡ x ∷ (replicate n x ++ ys)
one_more zero x ys = refl
one_more (suc n) x ys = ap (λ l. x ∷ l) (one_more n x ys)

lane_filled : (n m : ℕ) → blocked (keyed (lanes_full n (suc m)) n) n ≡ lanes_full (suc n) m
lane_filled n m =
    let P : ℕ → Type 0 = λ k. blocked (keyed (lanes_full n (suc m)) k) k ≡ replicate n full ++ (full ∷ replicate m empty) in
    subst P (length-replicate n full) (both_set (replicate n full) (replicate m empty)) ∙ one_more n full (replicate m empty)

full_placed : (n : ℕ) (ys : List LaneRecord) → 1 ≤ n → any_placed (replicate n full ++ ys) ≡ true
full_placed zero ys h = absurd (omega arith)
full_placed (suc n) ys h = refl

full_block : (n : ℕ) (ys : List LaneRecord) → 1 ≤ n → any_block (map promotes (replicate n full ++ ys)) ≡ true
full_block zero ys h = absurd (omega arith)
full_block (suc n) ys h = refl

empty_ready : (k m : ℕ) → lowest_from k (map promotes (replicate m empty)) ≡ None
empty_ready k zero = refl
empty_ready k (suc m) = empty_ready (k + 1) m

full_ready : (k n m : ℕ) → lowest_from k (map promotes (lanes_full n m)) ≡ None
full_ready k zero m = empty_ready k m
full_ready k (suc n) m = full_ready (k + 1) n m

full_at : (n : ℕ) (ys : List LaneRecord) (l : ℕ) → l < n → (get_or (map promotes (replicate n full ++ ys)) l empty).block ≡ true
full_at zero ys l h = absurd (omega arith)
full_at (suc n) ys zero h = refl
full_at (suc n) ys (suc l) h = full_at n ys l (omega arith)

-- ---- the book of filled lanes

abbrev book_to : List ℕ → (ℕ → List ℕ) → ℕ → Book
book_to key block zero = blank
book_to key block (suc n) = wrote (wrote (book_to key block n) (place_key n key)) (place_block n (block n))

abbrev page : List ℕ → (ℕ → List ℕ) → ℕ → Page
page key block l = record { key = Some key; block = Some (block l) }

book_at : (key : List ℕ) (block : ℕ → List ℕ) (n l : ℕ) → l < n → book_to key block n l ≡ page key block l
book_at key block zero l h = absurd (omega arith)
book_at key block (suc n) l h =
    let b : Book = book_to key block n in
    let P : Bool → Page = λ t. cond t (record { key = (cond t (record { key = Some key; block = (b l).block }) (b l)).key; block = Some (block n) }) (cond t (record { key = Some key; block = (b l).block }) (b l)) in
    ⊎_elim
    (λ e. ap P (eq-eqb l n e) ∙ ap (λ (i : ℕ). page key block i) (sym e))
    (λ ne. ap P (ne_eqb l n ne) ∙ book_at key block n l (omega arith))
    (cases_eq l n)

-- ---- filled lanes

pub record Filled (v₀ v : View) (key : List ℕ) (block : ℕ → List ℕ) (n : ℕ) : Type 0 where
  pub registers : v.model.registers ≡ v₀.model.registers
  pub lanes : v.model.lanes ≡ v₀.model.lanes
  pub left : v.model.left ≡ v₀.model.left
  pub records : (m : ℕ) → n + m ≡ 128 → v.records ≡ lanes_full n m
  pub holds : Holds v (book_to key block n)

fill_none : (m : Model) (x : Memory) (key : List ℕ) (block : ℕ → List ℕ) → Filled (made m x) (made m x) key block 0
fill_none m x key block = record {
  registers = refl;
  lanes = refl;
  left = refl;
  records = λ k e. let is : 128 ≡ k = omega arith in ap (λ n. replicate n empty) is;
  holds = made_holds m x;
}

fill_more : (v₀ v : View) (key : List ℕ) (block : ℕ → List ℕ) (n : ℕ) → Sized (shape v₀) → n < v₀.model.lanes → Sixteen key → Sixteen (block n) → Filled v₀ v key block n
    → Filled v₀ (next (next v (place_key n key)) (place_block n (block n))) key block (suc n)
unfolding laid
fill_more v₀ v key block n z lt k b₁ h =
    let a : Asked = place_key n key in
    let b : Asked = place_block n (block n) in
    let r = h.registers in
    let l = h.lanes in
    let size : Sized (shape v) = record { room = omega (arith, z.room); some = omega (arith, z.some); few = omega (arith, z.few) } in
    let in_lane : n < v.model.lanes = omega arith in
    let e₁ : refusal (shape v) a ≡ None = placing_none (shape v) n (length key) size in_lane k.long in
    let v₁ : View = done v a in
    let e₂ : refusal (shape v₁) b ≡ None = placing_none (shape v₁) n (length (block n)) (record { room = size.room; some = size.some; few = size.few }) in_lane b₁.long in
    let is : next (next v a) b ≡ done v₁ b = ap (λ (x : View). next x b) (next_done v a e₁) ∙ next_done v₁ b e₂ in
    let P : View → Type 0 = λ x. Filled v₀ x key block (suc n) in
    subst P (sym is) (record {
      registers = r;
      lanes = l;
      left = h.left;
      records = λ m e. let k : n + suc m ≡ 128 = omega arith in ap (λ rs. blocked (keyed rs n) n) (h.records (suc m) k) ∙ lane_filled n m;
      holds = done_holds v₁ (wrote (book_to key block n) a) b b₁.bytes e₂ (done_holds v (book_to key block n) a k.bytes e₁ h.holds);
    })

pub fill_all : (m : Model) (x : Memory) (key : List ℕ) (block : ℕ → List ℕ) (n : ℕ) → Sized (shape (made m x)) → n ≤ m.lanes → Sixteen key → ((i : ℕ) → i < n → Sixteen (block i)) → Filled (made m x) (filled (made m x) key block n) key block n
fill_all m x key block zero z le k bs = fill_none m x key block
fill_all m x key block (suc n) z le k bs =
    fill_more (made m x) (filled (made m x) key block n) key block n z (omega arith) k (bs n (omega arith)) (fill_all m x key block n z (omega arith) k (λ i h. bs i (omega arith)))

-- ---- filled lanes, scheduled and sealed

-- lane l gives its block, encrypted
pub record Gives (v : View) (key : List ℕ) (block : ℕ → List ℕ) (l : ℕ) : Type 0 where
  pub accepted : reading (shape v) l 16 ≡ None
  pub state : state_of v.model l ≡ encrypted kind key (block l)

block_of : (t : Bool) (st block : List ℕ) (p : Option (List ℕ)) → t ≡ true → p ≡ Some block → HoldsBlock t st p → st ≡ block
block_of true st block p e q h = cc
block_of false st block p e q h = let z : ◌≡◌ {A = Bool} true false = cc in cc

pub sealed_gives : (v₀ v : View) (key : List ℕ) (block : ℕ → List ℕ) (n : ℕ) → Sized (shape v₀) → 1 ≤ n → n ≤ v₀.model.lanes → 30000 ≤ v₀.model.left → Filled v₀ v key block n → (l : ℕ) → l < n → Gives (turned v) key block l
sealed_gives v₀ v key block n z some le gates h l lt =
    let m : ℕ = 128 - n in
    let few = z.few in
    let rs : v.records ≡ lanes_full n m = h.records m (omega arith) in
    let er = h.registers in
    let el = h.lanes in
    let eg = h.left in
    let size : Sized (shape v) = record { room = omega (arith, z.room); some = omega (arith, z.some); few = omega arith } in
    let enough-first : K ≤ v.model.left = omega (arith, schedule_count) in
    let e₁ : refusal (shape v) schedule ≡ None = scheduling_none (shape v) size (ap any_placed rs ∙ full_placed n (replicate m empty) some) enough-first in
    let v₁ : View = done v schedule in
    let r₁ : v₁.model.registers ≡ v.model.registers = planned_registers own_inverter (schedule_plan kind) v.model in
    let l₁ : v₁.model.lanes ≡ v.model.lanes = planned_lanes own_inverter (schedule_plan kind) v.model in
    let g₁ = worked_falls (schedule_plan kind) v.model enough-first in
    let rs₁ : v₁.records ≡ map promotes (lanes_full n m) = ap (map promotes) rs in
    let size₁ : Sized (shape v₁) = record { room = omega (arith, r₁, size.room); some = omega (arith, l₁, size.some); few = omega (arith, l₁, size.few) } in
    let e₂ : refusal (shape v₁) seal ≡ None = working_none (shape v₁) S size₁ (ap any_block rs₁ ∙ full_block n (replicate m empty) some) (ap lowest_unready rs₁ ∙ full_ready 0 n m) (omega (arith, g₁, schedule_count, seal_count)) in
    let v₂ : View = done v₁ seal in
    let r₂ : v₂.model.registers ≡ v₁.model.registers = planned_registers own_inverter (seal_plan kind) v₁.model in
    let l₂ : v₂.model.lanes ≡ v₁.model.lanes = planned_lanes own_inverter (seal_plan kind) v₁.model in
    let size₂ : Sized (shape v₂) = record { room = omega (arith, r₂, size₁.room); some = omega (arith, l₂, size₁.some); few = omega (arith, l₂, size₁.few) } in
    let in_lane : l < v₂.model.lanes = omega (arith, l₂, l₁) in
    let has : (get_or v₂.records l empty).block ≡ true = ap (λ (x : List LaneRecord). (get_or x l empty).block) rs₁ ∙ full_at n (replicate m empty) l lt in
    let b : Book = book_to key block n in
    let held = done_holds v₁ (wrote b schedule) seal tt e₂ (done_holds v b schedule tt e₁ h.holds) in
    let is : turned v ≡ v₂ = ap (λ (x : View). next x seal) (next_done v schedule e₁) ∙ next_done v₁ seal e₂ in
    let P : View → Type 0 = λ x. Gives x key block l in
    subst P (sym is) (record {
      accepted = reading_none (shape v₂) l size₂ in_lane has;
      state = block_of (get_or v₂.records l empty).block (state_of v₂.model l) _ _ has (ap (λ (p : Page). (turned_page (encrypted kind) p).block) (book_at key block n l lt)) (held.lane l in_lane).1;
    })

-- a unit made on a bench of 64 lanes with room and gates enough
pub lane_gives : (m : Model) (x : Memory) (u : View) (key : List ℕ) (block : ℕ → List ℕ) (n : ℕ) → 2048 ≤ m.registers → m.lanes ≡ 64 → 30000 ≤ m.left → 1 ≤ n → n ≤ 64 → Sixteen key → ((i : ℕ) → i < n → Sixteen (block i))
    → u ≡ turned (filled (made m x) key block n) → (l : ℕ) → l < n → Gives u key block l
lane_gives m x u key block n room lanes gates some few k bs is l lt =
    let size : Sized (shape (made m x)) = record { room = room; some = omega (arith, lanes); few = omega (arith, lanes) } in
    let P : View → Type 0 = λ v. Gives v key block l in
    subst P (sym is) (sealed_gives (made m x) (filled (made m x) key block n) key block n size some (omega (arith, lanes)) gates (fill_all m x key block n size (omega (arith, lanes)) k bs) l lt)
