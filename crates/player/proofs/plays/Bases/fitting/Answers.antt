use Rattle.std.proofs.Common.{◌≡◌, ◌+◌, Ok, cond, ltb, length, get_or, sym, ap, ◌∙◌, arith}
use Rattle.std.proofs.lemmas.Bool.{lt-ltb, le-ltb, cond-true, cond-false}
use Rattle.player.specs.Plays.{ask_bases}
use Rattle.player.proofs.Wholes.{sizes_sockets}
use Rattle.player.proofs.Places.{bases_short, bases_over, bases_fit}
use Rattle.player.proofs.plays.Bases.fitting.Goals as goal
use Rattle.player.proofs.plays.Bases.fitting.Goals.{then-i-page, else-i-page}

pub returns-then-bases-page-clause-asked : goal.returns-then-bases-page-clause-asked
returns-then-bases-page-clause-asked c =
    let p = c.args.page.now in
    ap (λ o. ask_bases o (Ok tt)) (bases_short c.args.registers p.sockets p.scratch c.args.bases.now c.if-bases-page.true) ∙ sym c.misfit.ensures

pub returns-then-base-span-clause-asked : goal.returns-then-base-span-clause-asked
returns-then-base-span-clause-asked c =
    let p = c.args.page.now in
    let i = c.loop-i.i in
    let q = p.sockets in
    let s : cond (ltb i q) 8 p.scratch ≡ c.if-i-page.span = elim c.if-i-page.branch [
      | then-i-page w ↦ cond-true (ltb i q) 8 p.scratch (lt-ltb i q w.if-i-page.true) ∙ sym w.span-is
      | else-i-page w ↦ cond-false (ltb i q) 8 p.scratch (le-ltb i q w.if-i-page.false) ∙ sym w.span-is
    ] in
    ap (λ o. ask_bases o (Ok tt)) (bases_over c.args.registers q p.scratch c.args.bases.now i c.if-bases-page.false (omega arith) c.loop-i.invariant
    (lt-ltb c.args.registers (get_or c.args.bases.now i 0 + cond (ltb i q) 8 p.scratch) (omega arith)))
    ∙ sym c.misfit-then-base-span.ensures

pub invariant_of-result : goal.invariant_of-result
invariant_of-result c =
    let p = c.args.page.now in
    record {
      few = sizes_sockets (length p.kinds.now) p.sockets p.scratch p.fits;
      fit = bases_fit c.args.registers p.sockets p.scratch c.args.bases.now c.if-bases-page.false (λ k l. c.loop-i.invariant k (omega arith));
    }
