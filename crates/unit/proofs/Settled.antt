-- What a call leaves where it is refused and where it is accepted, and what the questions tell. Assumes nothing.
use Rattle.std.proofs.Common.{◌≡◌, ℕ, ◌+◌, ◌<◌, ◌≤◌, Bool, true, false, ◌&&◌, eqb, ltb, leb, get_or, Some, None, Ok, Err, Option, refl, arith}
use Rattle.std.proofs.lemmas.Bool.{leb-true, ltb-true, eqb-true, and_parts, le-leb, lt-ltb}
use Rattle.bench.specs.declared.faults.Fault.{Fault}
use Rattle.bench.specs.Model.{Model}
use Rattle.lane.specs.Spans.{span_answer}
use Rattle.lanetable.specs.Records.{empty, any_placed, any_block, lowest_unready}
use Rattle.unit.specs.View.{Shape}
use Rattle.unit.specs.Works.{K}
use Rattle.unit.specs.Answers.{ask, fits, enough, every_key, naming, placing, reading, scheduling, working, given, settled}

-- ---- the two ends of a call

pub stays : {X Y : Type 0} (x : X) (o : Option Fault) (f : Fault) (v done : Y) → Err f ≡ given x o → v ≡ settled o done v
stays x None f v done e = let z : ◌≡◌ {A = ℕ} 0 1 = cc in absurd (omega arith)
stays x (Some g) f v done e = refl

pub becomes : {X Y : Type 0} (x y : X) (o : Option Fault) (v w done : Y) → Ok y ≡ given x o → w ≡ done → w ≡ settled o done v
becomes x y None v w done e h = h
becomes x y (Some g) v w done e h = let z : ◌≡◌ {A = ℕ} 0 1 = cc in absurd (omega arith)

pub accepted : {X : Type 0} (x y : X) (o : Option Fault) → Ok y ≡ given x o → o ≡ None
accepted x y None e = refl
accepted x y (Some g) e = let z : ◌≡◌ {A = ℕ} 0 1 = cc in absurd (omega arith)

-- a call that changes nothing
pub settled_same : {Y : Type 0} (o : Option Fault) (v : Y) → v ≡ settled o v v
settled_same None v = refl
settled_same (Some f) v = refl

-- ---- what the questions tell

pub asked_yes : (b : Bool) (f : Fault) (rest : Option Fault) → ask b f rest ≡ None → (b ≡ true) × (rest ≡ None)
asked_yes true f rest e = (refl, e)
asked_yes false f rest e = let z : ◌≡◌ {A = ℕ} 0 1 = cc in absurd (omega arith)

-- the size: enough registers, and at most 128 lanes
pub record Sized (s : Shape) : Type 0 where
  pub room : 2048 ≤ s.registers
  pub some : 1 ≤ s.lanes
  pub few : s.lanes ≤ 128

pub fits_tells : (s : Shape) → fits s ≡ true → Sized s
fits_tells s e =
    let p = and_parts (leb 2048 s.registers) (leb 1 s.lanes && leb s.lanes 128) e in
    let q = and_parts (leb 1 s.lanes) (leb s.lanes 128) p.1 in
    record { room = leb-true 2048 s.registers p.0; some = leb-true 1 s.lanes q.0; few = leb-true s.lanes 128 q.1 }

pub naming_tells : (s : Shape) (l : ℕ) → naming s l ≡ None → Sized s × (l < s.lanes)
naming_tells s l e =
    let p = asked_yes (fits s) _ _ e in
    (fits_tells s p.0, ltb-true l s.lanes (asked_yes (ltb l s.lanes) _ _ p.1).0)

pub placing_tells : (want : ℕ) (s : Shape) (l n : ℕ) → placing want s l n ≡ None → Sized s × (l < s.lanes) × (n ≡ want)
placing_tells want s l n e =
    let p = asked_yes (fits s) _ _ e in
    let q = asked_yes (ltb l s.lanes) _ _ p.1 in
    (fits_tells s p.0, ltb-true l s.lanes q.0, eqb-true n want (asked_yes (eqb n want) _ _ q.1).0)

pub reading_tells : (s : Shape) (l n : ℕ) → reading s l n ≡ None → Sized s × (l < s.lanes) × (n ≡ 16) × ((get_or s.records l empty).block ≡ true)
reading_tells s l n e =
    let p = asked_yes (fits s) _ _ e in
    let q = asked_yes (ltb l s.lanes) _ _ p.1 in
    let r = asked_yes (eqb n 16) _ _ q.1 in
    (fits_tells s p.0, ltb-true l s.lanes q.0, eqb-true n 16 r.0, (asked_yes (get_or s.records l empty).block _ _ r.1).0)

pub enough_tells : (cost left : ℕ) → enough cost left ≡ None → cost ≤ left
enough_tells cost left e = leb-true cost left (asked_yes (leb cost left) _ _ e).0

pub scheduling_tells : (s : Shape) → scheduling s ≡ None → Sized s × (K ≤ s.left)
scheduling_tells s e =
    let p = asked_yes (fits s) _ _ e in
    (fits_tells s p.0, enough_tells K s.left (asked_yes (any_placed s.records) _ _ p.1).1)

every_tells : (o : Option ℕ) (rest : Option Fault) → every_key o rest ≡ None → (o ≡ None) × (rest ≡ None)
every_tells None rest e = (refl, e)
every_tells (Some l) rest e = let z : ◌≡◌ {A = ℕ} 0 1 = cc in absurd (omega arith)

pub working_tells : (s : Shape) (cost : ℕ) → working s cost ≡ None → Sized s × (lowest_unready s.records ≡ None) × (cost ≤ s.left)
working_tells s cost e =
    let p = asked_yes (fits s) _ _ e in
    let q = asked_yes (any_block s.records) _ _ p.1 in
    let r = every_tells (lowest_unready s.records) _ q.1 in
    (fits_tells s p.0, r.0, enough_tells cost s.left r.1)

-- ---- where the questions are answered yes the span is there

pub span_accepted : (m : Model) (base n lane : ℕ) → base + n ≤ m.registers → lane < m.lanes → span_answer m base n lane ≡ Ok tt
span_accepted m base n lane h k =
    let p = le-leb (base + n) m.registers h in
    let q = lt-ltb lane m.lanes k in
    rw (p, q)

-- a refusal by the questions, and the size that they tell
pub refused : {X : Type 0} (x : X) (o : Option Fault) (f : Fault) → Err f ≡ given x o → o ≡ Some f
refused x None f e = let z : ◌≡◌ {A = ℕ} 0 1 = cc in absurd (omega arith)
refused x (Some g) f e = cc

pub scheduling_fits : (s : Shape) → scheduling s ≡ None → fits s ≡ true
scheduling_fits s e = (asked_yes (fits s) _ _ e).0

pub working_fits : (s : Shape) (cost : ℕ) → working s cost ≡ None → fits s ≡ true
working_fits s cost e = (asked_yes (fits s) _ _ e).0
