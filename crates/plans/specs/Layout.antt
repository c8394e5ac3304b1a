-- Where the registers lie, for each key kind. Assumes nothing.
--
--   at b         the register where byte b begins: byte b is registers 8·b to 8·b + 7, bit 0 first
--   key n j      byte j of round key n; the state is bytes 0 to 15, and the round keys follow it
--   free κ       the first byte of the scratch: the state, the round keys and the key's bytes past sixteen come before it
--   buffer κ j   byte j of sixteen bytes of scratch that hold a state between two pages
--   scratch κ    where the scratch of the pages begins, behind the buffer
--   room κ       the registers that a bench needs at least
use Rattle.std.specs.Prelude.{ℕ, ◌+◌, ◌-◌, ◌*◌}
use Rattle.standard.specs.Kinds.{KeyKind, aes128, rounds, key_bytes}

abbrev pub at : ℕ → ℕ
at b = 8 * b

abbrev pub key : ℕ → ℕ → ℕ
key n j = at (16 * (n + 1) + j)

abbrev pub free : KeyKind → ℕ
free κ = 16 * (rounds κ + 2) + (key_bytes κ - 16)

abbrev pub buffer : KeyKind → ℕ → ℕ
buffer κ j = at (free κ + j)

abbrev pub scratch : KeyKind → ℕ
scratch κ = at (free κ + 16)

abbrev pub room : KeyKind → ℕ
room aes128 = 2048
