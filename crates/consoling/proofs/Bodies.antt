-- A script's lines, one line taken off. Assumes nothing.
use Rattle.std.proofs.Common.{◌≡◌, ℕ, Bool, List, ◌++◌}
use Rattle.law.specs.Calls.{Asked}
use Rattle.consoling.specs.declared.turns.Turn.{Turn}
use Rattle.consoling.specs.Scripts.{turns_in, calls_in, beside_in}

-- the turns ts and the calls cs of the lines before line m, and the lines ms from there on
pub record Left (stop : Bool) (n : ℕ) (ls : List (List ℕ)) (m : ℕ) (ms : List (List ℕ)) (ts : List Turn) (cs : List Asked) : Type 0 where
  pub turns : ts ++ turns_in stop m ms ≡ turns_in stop n ls
  pub calls : cs ++ calls_in stop ms ≡ calls_in stop ls
  pub after : beside_in stop m ms ≡ beside_in stop n ls
