-- Bytes in the registers of one lane. Assumes nothing.
--
--   span base n              the n registers from base on
--   bits_of bytes            the bits of a list of bytes, eight a byte, bit 0 the lowest
--   laid base n lane f m     the meaning m with f 0, f 1, .. in the span of that lane; laid_in, the same beneath
--   shown_at m base lane n   the n bytes that the registers from base on show in that lane
--   span_answer              whether there is such a span: else the first register at fault, then the lane
use Rattle.std.specs.Prelude.{ℕ, zero, suc, ◌+◌, ◌-◌, ◌*◌, ◌/◌, ◌%◌, max, Bool, false, cond, ◌&&◌, List, map, Ok, Err, Result, ◌==◌, nat_le, nat_lt, slice_index}
use Rattle.std.specs.List.{range_with_len}
use Rattle.standard.specs.Bits.{bit, byte_of}
use Rattle.bench.specs.declared.faults.Question.TheVariants.{Register}
use Rattle.bench.specs.declared.faults.Part.TheVariants.{Bench}
use Rattle.bench.specs.declared.faults.Fault.{Fault}
use Rattle.bench.specs.Faults.{fault}
use Rattle.bench.specs.Model.{Model, Memory, in_lane, written_in}

abbrev pub span : ℕ → ℕ → ℕ → Bool
span base n r = nat_le base r && nat_lt r (base + n)

abbrev pub bits_of : List ℕ → ℕ → Bool
bits_of bytes i = bit (slice_index bytes (i / 8)) (i % 8)

unfoldable pub laid : ℕ → ℕ → ℕ → (ℕ → Bool) → Model → Model
laid base n lane f m = record {
  registers = m.registers;
  lanes = m.lanes;
  left = m.left;
  bit = λ r l. cond (span base n r && l == lane) (f (r - base)) (m.bit r l);
}

abbrev pub laid_in : ℕ → ℕ → ℕ → (ℕ → Bool) → Memory → Memory
laid_in base zero lane f x = x
laid_in base (suc n) lane f x = written_in (base + n) lane (f n) (laid_in base n lane f x)

abbrev pub shown_at : Model → ℕ → ℕ → ℕ → List ℕ
shown_at m base lane n = map (λ j. byte_of (λ r. m.bit r lane) (base + 8 * j)) (range_with_len 0 n)

abbrev pub span_answer : Model → ℕ → ℕ → ℕ → Result (Unit {0}) Fault
span_answer m base n lane = cond (nat_le (base + n) m.registers) (in_lane m.lanes lane (Ok tt)) (Err (fault Register Bench (max base m.registers)))

-- a lane with its first n registers zeroed
abbrev pub zeroed : ℕ → ℕ → Model → Model
zeroed n lane m = laid 0 n lane (λ i. false) m

abbrev pub zeroed_in : ℕ → ℕ → Memory → Memory
zeroed_in n lane x = laid_in 0 n lane (λ i. false) x
