use Rattle.std.proofs.Common.{refl}
use Rattle.standard.specs.Field.{mul, inverse, SBox, InvSBox}
use Rattle.standard.specs.KeyExpansion.{KeyExpansion, word_at, Rcon}
use Rattle.standard.specs.Kinds.{encrypted, decrypted}
use Rattle.coordinates.specs.Coordinates.{to_coordinates}
use Rattle.worked.proofs.Plays.{sets_all, empty_whole, plays_empty}
use Rattle.worked.proofs.values_stand.Goals as goal

pub returns : goal.returns
unfolding mul inverse SBox InvSBox KeyExpansion word_at Rcon encrypted decrypted to_coordinates
returns c = record { table = refl; sets = sets_all; empty = (empty_whole, plays_empty) }
