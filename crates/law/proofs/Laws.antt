-- The laws of every list of calls, by induction on the list. Assumes nothing.
use Rattle.std.proofs.Common.{◌≡◌, ℕ, ◌+◌, ◌-◌, ◌*◌, ◌≤◌, Bool, true, false, cond, ◌&&◌, eqb, ◌⊎◌, List, [], ◌∷◌, ◌++◌, length, get_or, set, Some, None, Ok, Option, sym, refl, ap, ◌∙◌, inl, inr, ⊎_elim, arith}
use Rattle.std.proofs.lemmas.Bool.{ne_eqb, true≢false, false≢true}
use Rattle.standard.specs.Kinds.{encrypted, decrypted, key_bytes}
use Rattle.bench.specs.declared.faults.Fault.{Fault}
use Rattle.bench.specs.Model.{Model, Memory}
use Rattle.lane.specs.Spans.{laid}
use Rattle.plans.specs.Plans.{schedule_plan, seal_plan, open_plan}
use Rattle.plans.specs.Pages.{own_inverter}
use Rattle.lanetable.specs.declared.records.LaneRecord.{LaneRecord}
use Rattle.lanetable.specs.Records.{empty, with_key, with_block, promotes}
use Rattle.plans.specs.declared.plays.Play.{Play}
use Rattle.unit.specs.Works.{kind, worked, worked_in, gates_of_plan, K, S, O}
use Rattle.unit.specs.View.{Shape, View, shape, made}
use Rattle.unit.specs.Lanes.{state_of}
use Rattle.unit.specs.Answers.{placing, reading, given, settled}
use Rattle.unit.proofs.Settled.{reading_tells, scheduling_tells, working_tells}
use Rattle.law.specs.declared.calls.Reply.TheVariants.{Done}
use Rattle.law.specs.Calls.{Asked, place_key, place_block, clear, schedule, seal, unseal, read, Line, Answer, accepted, told, replied, answer, refusal, performed, next, done, filled, lane_of, log, ran}
use Rattle.law.specs.Book.{Page, Book, blank, turned, wrote, entered, kept}
use Rattle.law.specs.Law.{Readings, Charged, is_schedule, is_seal, is_open, Alike, same, key_elsewhere, block_elsewhere, Agree, Each}
use Rattle.unit.proofs.Planned.{planned_registers, planned_lanes, worked_falls}
use Rattle.law.proofs.Holds.{AllSound, Holds, HoldsBlock, made_holds, next_holds, entered_is}

absurdity : {X : Type 0} → ◌≡◌ {A = ℕ} 0 1 → X
absurdity z = absurd (omega arith)

-- ---- readings

block_held : (t : Bool) (st : List ℕ) (p : Option (List ℕ)) → t ≡ true → HoldsBlock t st p → p ≡ Some st
block_held true st p e h = h
block_held false st p e h = absurd (false≢true e)

read_right : (v : View) (b : Book) (o : Option Fault) (l lane : ℕ) (buf bytes : List ℕ) (a : Answer) → Holds v b → reading (shape v) l (length buf) ≡ o → read l (settled o (state_of v.model l) buf) ≡ read lane bytes → Some (given Done o) ≡ a → accepted a ≡ true → (b lane).block ≡ Some bytes
read_right v b None l lane buf bytes a h e call said ok =
    let t = reading_tells (shape v) l (length buf) e in
    let at : l ≡ lane = cc in
    let is : state_of v.model l ≡ bytes = cc in
    ap (λ n. (b n).block) (sym at) ∙ block_held _ _ _ t.3 (h.lane l t.1).1 ∙ ap Some is
read_right v b (Some f) l lane buf bytes a h e call said ok = absurd (false≢true (ap accepted said ∙ ok))

one_right : (v : View) (b : Book) (x : Asked) (lane : ℕ) (bytes : List ℕ) (a : Answer) → Holds v b → (performed v x).call ≡ read lane bytes → (performed v x).answer ≡ a → accepted a ≡ true → (b lane).block ≡ Some bytes
one_right v b (read l buf) lane bytes a h call said ok = read_right v b (reading (shape v) l (length buf)) l lane buf bytes a h refl call said ok
one_right v b _ lane bytes a h call said ok = let z : ◌≡◌ {A = ℕ} 0 1 = cc in absurdity z

pub all_right : (xs : List Asked) → AllSound xs → (v : View) (b : Book) → Holds v b → (before after : List Line) (lane : ℕ) (bytes : List ℕ) (a : Answer) → log v xs ≡ before ++ (record { call = read lane bytes; answer = a } ∷ after) → accepted a ≡ true → (kept b before lane).block ≡ Some bytes
all_right [] sound v b h [] after lane bytes a e ok = let z : ◌≡◌ {A = ℕ} 0 1 = cc in absurdity z
all_right [] sound v b h (y ∷ before) after lane bytes a e ok = let z : ◌≡◌ {A = ℕ} 0 1 = cc in absurdity z
all_right (x ∷ xs) sound v b h [] after lane bytes a e ok =
    let head : performed v x ≡ record { call = read lane bytes; answer = a } = cc in
    one_right v b x lane bytes a h (ap (λ (y : Line). y.call) head) (ap (λ (y : Line). y.answer) head) ok
all_right (x ∷ xs) sound v b h (y ∷ before) after lane bytes a e ok =
    let head : performed v x ≡ y = cc in
    let tail : log (next v x) xs ≡ before ++ (record { call = read lane bytes; answer = a } ∷ after) = cc in
    ap (λ (y : Line). (kept (entered b y) before lane).block) (sym head)
    ∙ all_right xs sound.1 (next v x) (entered b (performed v x)) (next_holds v b x sound.0 h) before after lane bytes a tail ok

pub readings : (m : Model) (x : Memory) (xs : List Asked) → AllSound xs → Readings (log (made m x) xs)
readings m x xs sound = all_right xs sound (made m x) blank (made_holds m x)

-- ---- gates

abbrev paid : Line → ℕ
paid x =
    K * cond (accepted x.answer && is_schedule x.call) 1 0
    + (S * cond (accepted x.answer && is_seal x.call) 1 0 + O * cond (accepted x.answer && is_open x.call) 1 0)

pay_done : (v : View) (a : Asked) (bs : List ℕ) → refusal (shape v) a ≡ None → v.model.left ≡ (done v a).model.left + paid (replied (filled None bs a) (Ok (told (shape v) a)))
unfolding laid
pay_done v schedule bs e = let f = worked_falls (schedule_plan kind) v.model (scheduling_tells (shape v) e).1 in omega arith
pay_done v seal bs e = let f = worked_falls (seal_plan kind) v.model (working_tells (shape v) S e).2 in omega arith
pay_done v unseal bs e = let f = worked_falls (open_plan kind) v.model (working_tells (shape v) O e).2 in omega arith
pay_done v _ bs e = omega arith

pay_one : (v : View) (a : Asked) (bs : List ℕ) (o : Option Fault) → refusal (shape v) a ≡ o → v.model.left ≡ (settled o (done v a) v).model.left + paid (replied (filled o bs a) (given (told (shape v) a) o))
pay_one v a bs None e = pay_done v a bs e
pay_one v a bs (Some f) e = omega arith

pub charged : (xs : List Asked) (v : View) → Charged v.model.left (log v xs) (ran v xs).model.left
charged [] v = omega arith
charged (x ∷ xs) v =
    let one : v.model.left ≡ (next v x).model.left + paid (performed v x) = pay_one v x (state_of v.model (lane_of x)) (refusal (shape v) x) refl in
    let rest = charged xs (next v x) in
    omega arith

-- ---- isolation

-- what an accepted call makes of the shape
abbrev shaped : Shape → Asked → Shape
shaped s (place_key l bs) = record { registers = s.registers; lanes = s.lanes; left = s.left; records = set s.records l (with_key (get_or s.records l empty)) }
shaped s (place_block l bs) = record { registers = s.registers; lanes = s.lanes; left = s.left; records = set s.records l (with_block (get_or s.records l empty)) }
shaped s (clear l) = record { registers = s.registers; lanes = s.lanes; left = s.left; records = set s.records l empty }
shaped s schedule = record { registers = s.registers; lanes = s.lanes; left = s.left - K; records = mathlib.Core.List.map promotes s.records }
shaped s seal = record { registers = s.registers; lanes = s.lanes; left = s.left - S; records = s.records }
shaped s unseal = record { registers = s.registers; lanes = s.lanes; left = s.left - O; records = s.records }
shaped s _ = s

-- after a plan the size stays, and its gates are gone
shape_worked : (plan : List Play) (rs : List LaneRecord) (v : View) → gates_of_plan plan ≤ v.model.left
    → shape (record { model = worked plan v.model; beneath = worked_in plan v.beneath; records = rs }) ≡ record { registers = v.model.registers; lanes = v.model.lanes; left = v.model.left - gates_of_plan plan; records = rs }
shape_worked plan rs v h =
    let f = worked_falls plan v.model h in
    let e : (worked plan v.model).left ≡ v.model.left - gates_of_plan plan = omega arith in
    λ i. record { registers = planned_registers own_inverter plan v.model i; lanes = planned_lanes own_inverter plan v.model i; left = e i; records = rs }

shape_done : (v : View) (a : Asked) → refusal (shape v) a ≡ None → shape (done v a) ≡ shaped (shape v) a
unfolding laid
shape_done v (place_key l bs) e = refl
shape_done v (place_block l bs) e = refl
shape_done v (clear l) e = refl
shape_done v schedule e = shape_worked (schedule_plan kind) (mathlib.Core.List.map promotes v.records) v (scheduling_tells (shape v) e).1
shape_done v seal e = shape_worked (seal_plan kind) v.records v (working_tells (shape v) S e).2
shape_done v unseal e = shape_worked (open_plan kind) v.records v (working_tells (shape v) O e).2
shape_done v _ e = refl

shape_settled : (o : Option Fault) (v w : View) (s : Shape) → (o ≡ None → shape w ≡ s) → shape (settled o w v) ≡ settled o s (shape v)
shape_settled None v w s h = h refl
shape_settled (Some f) v w s h = refl

shape_next : (v : View) (a : Asked) → shape (next v a) ≡ settled (refusal (shape v) a) (shaped (shape v) a) (shape v)
shape_next v a = shape_settled (refusal (shape v) a) v (done v a) (shaped (shape v) a) (shape_done v a)

alike_refusal : (ch : ℕ) {x y : Asked} (s : Shape) → Alike ch x y → refusal s x ≡ refusal s y
alike_refusal ch s (same a) = refl
alike_refusal ch s (key_elsewhere l bs cs ne e) = ap (placing (key_bytes kind) s l) e
alike_refusal ch s (block_elsewhere l bs cs ne e) = ap (placing 16 s l) e

alike_shaped : (ch : ℕ) {x y : Asked} (s : Shape) → Alike ch x y → shaped s x ≡ shaped s y
alike_shaped ch s (same a) = refl
alike_shaped ch s (key_elsewhere l bs cs ne e) = refl
alike_shaped ch s (block_elsewhere l bs cs ne e) = refl

alike_told : (ch : ℕ) {x y : Asked} (s : Shape) → Alike ch x y → told s x ≡ told s y
alike_told ch s (same a) = refl
alike_told ch s (key_elsewhere l bs cs ne e) = refl
alike_told ch s (block_elsewhere l bs cs ne e) = refl

alike_answer : (ch : ℕ) {x y : Asked} (s t : Shape) → s ≡ t → Alike ch x y → answer s x ≡ answer t y
alike_answer ch {x} {y} s t e h = ap (λ s. answer s x) e ∙ (λ i. given (alike_told ch t h i) (alike_refusal ch t h i))

alike_next : (ch : ℕ) {x y : Asked} (v w : View) → shape v ≡ shape w → Alike ch x y → shape (next v x) ≡ shape (next w y)
alike_next ch {x} {y} v w e h =
    shape_next v x ∙ ap (λ s. settled (refusal s x) (shaped s x) s) e ∙ (λ i. settled (alike_refusal ch (shape w) h i) (alike_shaped ch (shape w) h i) (shape w)) ∙ sym (shape_next w y)

-- the chosen lane's page
wrote_at : (b c : Book) (a : Asked) (l : ℕ) → b l ≡ c l → wrote b a l ≡ wrote c a l
wrote_at b c (place_key lane bs) l e = ap (λ (p : Page). cond (eqb l lane) (record { key = Some bs; block = p.block }) p) e
wrote_at b c (place_block lane bs) l e = ap (λ (p : Page). cond (eqb l lane) (record { key = p.key; block = Some bs }) p) e
wrote_at b c (clear lane) l e = ap (λ (p : Page). cond (eqb l lane) (record { key = None; block = None }) p) e
wrote_at b c seal l e = ap (turned (encrypted kind)) e
wrote_at b c unseal l e = ap (turned (decrypted kind)) e
wrote_at b c _ l e = e

alike_wrote : (ch : ℕ) {x y : Asked} (b c : Book) → b ch ≡ c ch → Alike ch x y → wrote b x ch ≡ wrote c y ch
alike_wrote ch b c e (same a) = wrote_at b c a ch e
alike_wrote ch b c e (key_elsewhere l bs cs ne len) =
    let off : eqb ch l ≡ false = ne_eqb ch l (λ q. ne (sym q)) in
    ap (λ t. cond t (record { key = Some bs; block = (b ch).block }) (b ch)) off ∙ e ∙ sym (ap (λ t. cond t (record { key = Some cs; block = (c ch).block }) (c ch)) off)
alike_wrote ch b c e (block_elsewhere l bs cs ne len) =
    let off : eqb ch l ≡ false = ne_eqb ch l (λ q. ne (sym q)) in
    ap (λ t. cond t (record { key = (b ch).key; block = Some bs }) (b ch)) off ∙ e ∙ sym (ap (λ t. cond t (record { key = (c ch).key; block = Some cs }) (c ch)) off)

alike_page : (ch : ℕ) {x y : Asked} (v w : View) (b c : Book) → shape v ≡ shape w → b ch ≡ c ch → Alike ch x y → entered b (performed v x) ch ≡ entered c (performed w y) ch
alike_page ch {x} {y} v w b c e p h =
    entered_is v x b ch
    ∙ (λ i. settled ((ap (λ s. refusal s x) e ∙ alike_refusal ch (shape w) h) i) (alike_wrote ch b c p h i) (p i))
    ∙ sym (entered_is w y c ch)

-- a reading of the chosen lane, or a refused one
same_buffer : (ch : ℕ) (v w : View) (b c : Book) (o : Option Fault) (l : ℕ) (buf : List ℕ) → Holds v b → Holds w c → b ch ≡ c ch → reading (shape v) l (length buf) ≡ o → reading (shape w) l (length buf) ≡ o → (l ≡ ch) ⊎ (accepted (Some (given Done o)) ≡ false) → settled o (state_of v.model l) buf ≡ settled o (state_of w.model l) buf
same_buffer ch v w b c (Some f) l buf hv hw p ev ew d = refl
same_buffer ch v w b c None l buf hv hw p ev ew (inr no_answer) = absurd (true≢false no_answer)
same_buffer ch v w b c None l buf hv hw p ev ew (inl at) =
    let s = reading_tells (shape v) l (length buf) ev in
    let t = reading_tells (shape w) l (length buf) ew in
    let one : (b l).block ≡ Some (state_of v.model l) = block_held _ _ _ s.3 (hv.lane l s.1).1 in
    let two : (c l).block ≡ Some (state_of w.model l) = block_held _ _ _ t.3 (hw.lane l t.1).1 in
    let page : (b l).block ≡ (c l).block = ap (λ n. (b n).block) at ∙ ap (λ (q : Page). q.block) p ∙ ap (λ n. (c n).block) (sym at) in
    cc

alike_buffer : (ch : ℕ) (a : Asked) (v w : View) (b c : Book) → Holds v b → Holds w c → shape v ≡ shape w → b ch ≡ c ch → (lane : ℕ) (bs cs : List ℕ) → (performed v a).call ≡ read lane bs → (performed w a).call ≡ read lane cs → (lane ≡ ch) ⊎ (accepted (performed v a).answer ≡ false) → bs ≡ cs
alike_buffer ch (read l ds) v w b c hv hw e p lane bs cs x y d =
    let o : Option Fault = reading (shape v) l (length ds) in
    let ow : reading (shape w) l (length ds) ≡ o = ap (λ s. reading s l (length ds)) (sym e) in
    let at : l ≡ lane = cc in
    let here : (l ≡ ch) ⊎ (accepted (Some (given Done o)) ≡ false) = ⊎_elim (λ q. inl (at ∙ q)) (λ q. inr q) d in
    let mid : settled o (state_of v.model l) ds ≡ settled o (state_of w.model l) ds = same_buffer ch v w b c o l ds hv hw p refl ow here in
    let left : settled o (state_of v.model l) ds ≡ bs = cc in
    let right : settled (reading (shape w) l (length ds)) (state_of w.model l) ds ≡ cs = cc in
    sym left ∙ mid ∙ ap (λ o. settled o (state_of w.model l) ds) (sym ow) ∙ right
alike_buffer ch _ v w b c hv hw e p lane bs cs x y d = cc

agree_one : (ch : ℕ) {x y : Asked} (v w : View) (b c : Book) → Holds v b → Holds w c → shape v ≡ shape w → b ch ≡ c ch → Alike ch x y → Agree ch (performed v x) (performed w y)
agree_one ch v w b c hv hw e p (same a) = record { answer = ap Some (alike_answer ch (shape v) (shape w) e (same a)); buffer = alike_buffer ch a v w b c hv hw e p }
agree_one ch v w b c hv hw e p (key_elsewhere l ds es ne len) = record {
  answer = ap Some (alike_answer ch (shape v) (shape w) e (key_elsewhere l ds es ne len));
  buffer = λ lane bs cs x y d. let z : ◌≡◌ {A = ℕ} 0 1 = cc in absurdity z;
}
agree_one ch v w b c hv hw e p (block_elsewhere l ds es ne len) = record {
  answer = ap Some (alike_answer ch (shape v) (shape w) e (block_elsewhere l ds es ne len));
  buffer = λ lane bs cs x y d. let z : ◌≡◌ {A = ℕ} 0 1 = cc in absurdity z;
}

pub agree_all : (ch : ℕ) (xs ys : List Asked) → AllSound xs → AllSound ys → (v w : View) (b c : Book) → Holds v b → Holds w c → shape v ≡ shape w → b ch ≡ c ch → Each (Alike ch) xs ys → Each (Agree ch) (log v xs) (log w ys) × ((ran v xs).model.left ≡ (ran w ys).model.left)
agree_all ch [] [] sx sy v w b c hv hw e p h = (tt, ap (λ (s : Shape). s.left) e)
agree_all ch [] (y ∷ ys) sx sy v w b c hv hw e p h = absurd h
agree_all ch (x ∷ xs) [] sx sy v w b c hv hw e p h = absurd h
agree_all ch (x ∷ xs) (y ∷ ys) sx sy v w b c hv hw e p h =
    let rest = agree_all ch xs ys sx.1 sy.1 (next v x) (next w y) (entered b (performed v x)) (entered c (performed w y)) (next_holds v b x sx.0 hv) (next_holds w c y sy.0 hw) (alike_next ch v w e h.0) (alike_page ch v w b c e p h.0) h.1 in
    ((agree_one ch v w b c hv hw e p h.0, rest.0), rest.1)
