use Rattle.std.proofs.Common.{arith, rules}
use Rattle.player.proofs.Places.{bases_count, register_low, register_high, register_below}
use Rattle.player.proofs.plays.Bases.register.Goals as goal

pub bounds-self-number : goal.bounds-self-number
bounds-self-number c = let b = c.args.self.now in omega (arith, bases_count b.registers b.sockets b.scratch b.bases.now b.fit)

pub bounds-self-self : goal.bounds-self-self
bounds-self-self c = let b = c.args.self.now in omega (arith, bases_count b.registers b.sockets b.scratch b.bases.now b.fit)

pub overflow_add-result : goal.overflow_add-result
overflow_add-result c =
    let b = c.args.self.now in
    search (rules, register_low b.sockets b.bases.now c.args.number c.if-number-self.true, register_below b.registers b.sockets b.scratch b.bases.now b.fit c.args.number c.requires)

pub overflow_add-result-else-number-self : goal.overflow_add-result-else-number-self
overflow_add-result-else-number-self c =
    let b = c.args.self.now in
    search (rules, register_high b.sockets b.bases.now c.args.number c.if-number-self.false, register_below b.registers b.sockets b.scratch b.bases.now b.fit c.args.number c.requires)

pub returns-then-number-self-clause-is : goal.returns-then-number-self-clause-is
returns-then-number-self-clause-is c = register_low c.args.self.now.sockets c.args.self.now.bases.now c.args.number c.if-number-self.true

pub returns-then-number-self-clause-below : goal.returns-then-number-self-clause-below
returns-then-number-self-clause-below c =
    let b = c.args.self.now in
    omega (arith, register_low b.sockets b.bases.now c.args.number c.if-number-self.true, register_below b.registers b.sockets b.scratch b.bases.now b.fit c.args.number c.requires)

pub returns-else-number-self-clause-is : goal.returns-else-number-self-clause-is
returns-else-number-self-clause-is c = register_high c.args.self.now.sockets c.args.self.now.bases.now c.args.number c.if-number-self.false

pub returns-else-number-self-clause-below : goal.returns-else-number-self-clause-below
returns-else-number-self-clause-below c =
    let b = c.args.self.now in
    omega (arith, register_high b.sockets b.bases.now c.args.number c.if-number-self.false, register_below b.registers b.sockets b.scratch b.bases.now b.fit c.args.number c.requires)
