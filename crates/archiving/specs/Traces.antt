-- Gates on words: word n of a list is what number n of a page holds, bit l of it in case l. Assumes nothing.
--
--   made_by g ws      what gate g makes of its operands' words
--   stepped g ws      the words after gate g
--   unit_words q n    the first n words of which case i has input i alone at 1, of 8·q inputs, at most 64
--   input_words k n   the first n words of which case l has the byte 64·k + l in socket 0
use Rattle.std.specs.Prelude.{ℕ, zero, suc, ◌-◌, ◌/◌, ◌%◌, ◌^◌, cond, ◌&&◌, List, map, ◌==◌, nat_lt, slice_index, slice_set}
use Rattle.std.specs.List.{range_with_len}
use Rattle.bench.specs.Word.{combined}
use Rattle.bench.specs.declared.gates.Gate.{Gate}

abbrev pub made_by : Gate → List ℕ → ℕ
made_by g ws = combined g.kind (slice_index ws g.first) (slice_index ws g.second)

abbrev pub stepped : Gate → List ℕ → List ℕ
stepped g ws = slice_set ws g.target (made_by g ws)

abbrev pub unit_word : ℕ → ℕ → ℕ
unit_word inputs n = cond (nat_lt n inputs && nat_lt n 64) (2 ^ n) 0

abbrev pub unit_words : ℕ → ℕ → List ℕ
unit_words inputs n = map (unit_word inputs) (range_with_len 0 n)

-- all 64 bits, or none
abbrev pub filled : ℕ → ℕ
filled b = cond (b == 1) (2 ^ 64 - 1) 0

-- bit n of the bytes 64·k to 64·k + 63
abbrev pub input_word : ℕ → ℕ → ℕ
input_word k zero = 0xaaaaaaaaaaaaaaaa
input_word k (suc zero) = 0xcccccccccccccccc
input_word k (suc (suc zero)) = 0xf0f0f0f0f0f0f0f0
input_word k (suc (suc (suc zero))) = 0xff00ff00ff00ff00
input_word k (suc (suc (suc (suc zero)))) = 0xffff0000ffff0000
input_word k (suc (suc (suc (suc (suc zero))))) = 0xffffffff00000000
input_word k (suc (suc (suc (suc (suc (suc zero)))))) = filled (k % 2)
input_word k (suc (suc (suc (suc (suc (suc (suc zero))))))) = filled (k / 2 % 2)
input_word k (suc (suc (suc (suc (suc (suc (suc (suc n)))))))) = 0

abbrev pub input_words : ℕ → ℕ → List ℕ
input_words k n = map (input_word k) (range_with_len 0 n)
