-- The two plays on any bench. Assumes nothing.
use Rattle.std.proofs.Common.{◌≡◌, ℕ, ◌-◌, ◌<◌, ◌≤◌, Bool, true, false, not, ltb, Ok, refl, ap, arith}
use Rattle.std.proofs.lemmas.Bool.{lt-ltb, le-ltb}
use Rattle.bench.specs.Model.{Model, gated}
use Rattle.bench.specs.Kinds.{apart}
use Rattle.player.specs.Pages.{whole, kinds_named, numbers_below, gates_of}
use Rattle.player.specs.Plays.{register_of, bases_at, play_answer, played}
use Rattle.worked.specs.Values.{setting_page, empty_page, bases}

xnor_self : (b : Bool) → not (apart b b) ≡ true
xnor_self true = refl
xnor_self false = refl

pub sets_all : (m : Model) → m.registers ≡ 208 → m.left ≡ 1
    → (play_answer m setting_page bases ≡ Ok tt)
    × ((l : ℕ) → l < m.lanes → (played setting_page bases m).bit 200 l ≡ true)
    × ((played setting_page bases m).left ≡ 0)
unfolding kinds_named numbers_below gates_of register_of bases_at played gated
sets_all m r e = (rw (r, e), (λ l h. let p = lt-ltb l m.lanes h in rw p (xnor_self (m.bit 200 l))), ap (λ n. n - 1) e)

pub empty_whole : whole empty_page ≡ true
unfolding kinds_named numbers_below
empty_whole = refl

pub plays_empty : (m : Model) → 208 ≤ m.registers → m.left ≡ 0 → (play_answer m empty_page bases ≡ Ok tt) × (played empty_page bases m ≡ m)
unfolding kinds_named numbers_below gates_of register_of bases_at played gated
plays_empty m r e =
    let a : ltb m.registers 208 ≡ false = le-ltb m.registers 208 (omega arith) in
    let b : ltb m.registers 200 ≡ false = le-ltb m.registers 200 (omega arith) in
    (rw (a, b, e), refl)
