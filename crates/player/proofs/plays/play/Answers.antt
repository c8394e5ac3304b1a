use Rattle.std.proofs.Common.{◌≡◌, ℕ, ◌+◌, ◌*◌, map, length, Ok, sym, refl, ap, ◌∙◌, subst, arith}
use Rattle.std.specs.List.{AllByRecursion as All}
use Rattle.bench.specs.Benches.{meaning}
use Rattle.bench.specs.Model.{Model, gate_answer}
use Rattle.bench.proofs.Accepts.{gate_accepted}
use Rattle.player.specs.Pages.{gates_from, numbers_below}
use Rattle.player.specs.Plays.{Within, placed, ran, ran_in}
use Rattle.player.proofs.Listed.{gates_within}
use Rattle.player.proofs.Played.{done, done_in, done_left, done_registers, gates_count, play_done, play_in_done}
use Rattle.player.proofs.plays.play.Goals as goal

pub loop-gate-init : goal.loop-gate-init
loop-gate-init g c =
    let p = c.in_ok-page.page in
    let b = c.in_ok-bases.bases in
    let kept = c.in_ok-bases.ensures.kept in
    let gates = ap (λ x. gates_from x.kinds.now x.places.now) c.into_iter-gate-iterator.ensures.into_iter_gives ∙ c.gates-gate-items.ensures in
    let bound : 8 * p.sockets + p.scratch ≡ 8 * b.sockets + b.scratch = omega (arith, kept.0, kept.1.0) in
    let numbers = ap (numbers_below p.places.now) (sym bound) ∙ p.numbered in
    let within = gates_within (8 * b.sockets + b.scratch) p.kinds.now p.places.now p.paired numbers in (
      refl,
      (
        refl,
        (
          subst (All (Within (8 * b.sockets + b.scratch))) (sym gates) within,
          (omega (arith, ap length gates, gates_count p.kinds.now p.places.now, c.in_ok-ask_gates.ensures.has, c.left.ensures), sym c.registers.ensures ∙ sym kept.1.1.0),
        ),
      ),
    )

pub place-requires : goal.place-requires
place-requires g c =
    let b = c.in_ok-bases.bases in
    (subst (All (Within (8 * b.sockets + b.scratch))) c.in-Some.ensures.steps c.loop-gate.invariant.1.1.0).0

pub returns-in_err-gate : goal.returns-in_err-gate
returns-in_err-gate g c =
    let n = meaning g.B.Bench c.loop-gate.bench in
    let inv = c.loop-gate.invariant.1.1.1 in
    let gate = c.place.result in
    let below = c.place.ensures.below in
    let some = ap length c.in-Some.ensures.steps in
    let ok : gate_answer n gate.target gate.first gate.second ≡ Ok tt =
    gate_accepted n gate.target gate.first gate.second (omega (arith, below.0, inv.1)) (omega (arith, below.1.0, inv.1)) (omega (arith, below.1.1, inv.1)) (omega (arith, some, inv.0)) in
    let said = c.in_err-gate.ensures.answer in
    absurd (let z : ◌≡◌ {A = ℕ} 0 1 = cc in omega arith)

pub loop-gate-preserved : goal.loop-gate-preserved
loop-gate-preserved g c =
    let b = c.in_ok-bases.bases in
    let place = placed b.sockets b.bases.now in
    let it = c.next.new.self in
    let rest = gates_from it.kinds.now it.places.now in
    let n = meaning g.B.Bench c.loop-gate.bench in
    let x = g.B.Bench.beneath c.loop-gate.bench in
    let more = c.in-Some.ensures.steps in
    let inv = c.loop-gate.invariant in
    let leaves = c.in_ok-gate.ensures.leaves ∙ ap (λ y. done y n) c.place.ensures.is in
    let below = c.in_ok-gate.ensures.beneath ∙ ap (λ y. done_in y x) c.place.ensures.is in (
      ap (ran (map place rest)) leaves ∙ sym (ap (λ gs. ran (map place gs) n) more) ∙ inv.0,
      (
        ap (ran_in (map place rest)) below ∙ sym (ap (λ gs. ran_in (map place gs) x) more) ∙ inv.1.0,
        (
          (subst (All (Within (8 * b.sockets + b.scratch))) more inv.1.1.0).1,
          (
            omega (arith, ap length more, inv.1.1.1.0, ap (λ (y : Model). y.left) leaves, done_left (place c.in-Some.gate) n),
            ap (λ (y : Model). y.registers) leaves ∙ done_registers (place c.in-Some.gate) n ∙ inv.1.1.1.1,
          ),
        ),
      ),
    )

pub returns-clause-leaves : goal.returns-clause-leaves
returns-clause-leaves g c =
    let p = c.in_ok-page.page in
    let h = c.in_ok-page.ensures in
    let b = c.in_ok-bases.bases in
    let kept = c.in_ok-bases.ensures.kept in
    let n = meaning g.B.Bench c.loop-gate.bench in
    let m = meaning g.B.Bench c.args.bench.now in
    let gates = ap (λ x. gates_from x.kinds.now x.places.now) c.into_iter-gate-iterator.ensures.into_iter_gives ∙ c.gates-gate-items.ensures in
    sym (ap (λ gs. ran (map (placed b.sockets b.bases.now) gs) n) c.in-None.ensures.steps)
    ∙ c.loop-gate.invariant.0
    ∙ (λ j. ran (map (placed (kept.0 j) (kept.1.1.1 j)) (gates j)) m)
    ∙ play_done c.args.page.now p.sockets p.scratch p.kinds.now p.places.now h.0 h.1 c.args.bases.now m

pub returns-clause-beneath : goal.returns-clause-beneath
returns-clause-beneath g c =
    let p = c.in_ok-page.page in
    let h = c.in_ok-page.ensures in
    let b = c.in_ok-bases.bases in
    let kept = c.in_ok-bases.ensures.kept in
    let x = g.B.Bench.beneath c.loop-gate.bench in
    let m = meaning g.B.Bench c.args.bench.now in
    let y = g.B.Bench.beneath c.args.bench.now in
    let gates = ap (λ x. gates_from x.kinds.now x.places.now) c.into_iter-gate-iterator.ensures.into_iter_gives ∙ c.gates-gate-items.ensures in
    sym (ap (λ gs. ran_in (map (placed b.sockets b.bases.now) gs) x) c.in-None.ensures.steps)
    ∙ c.loop-gate.invariant.1.0
    ∙ (λ j. ran_in (map (placed (kept.0 j) (kept.1.1.1 j)) (gates j)) y)
    ∙ play_in_done c.args.page.now p.sockets p.scratch p.kinds.now p.places.now h.0 h.1 c.args.bases.now m y
