use Rattle.std.proofs.Common.{◌≡◌, drop}
use Rattle.text.specs.Tables.{named}
use Rattle.text.proofs.reads.lookup.Given as goal

abbrev pub invariant-loop-name : goal.invariant-loop-name
invariant-loop-name g l = named (drop l.name-index l.table) l.word ≡ named l.table l.word
