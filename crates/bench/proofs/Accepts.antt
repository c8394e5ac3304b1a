-- Calls that no question refuses. Assumes nothing.
use Rattle.std.proofs.Common.{◌≡◌, ℕ, ◌<◌, Ok}
use Rattle.std.proofs.lemmas.Bool.{lt-ltb}
use Rattle.bench.specs.Model.{Model, gate_answer, set_answer}

pub gate_accepted : (m : Model) (t a b : ℕ) → t < m.registers → a < m.registers → b < m.registers → 0 < m.left → gate_answer m t a b ≡ Ok tt
gate_accepted m t a b p q r s =
    let p' = lt-ltb t m.registers p in
    let q' = lt-ltb a m.registers q in
    let r' = lt-ltb b m.registers r in
    let s' = lt-ltb 0 m.left s in
    rw (p', q', r', s')

pub set_accepted : (m : Model) (r l : ℕ) → r < m.registers → l < m.lanes → set_answer m r l ≡ Ok tt
set_accepted m r l p q =
    let p' = lt-ltb r m.registers p in
    let q' = lt-ltb l m.lanes q in
    rw (p', q')
