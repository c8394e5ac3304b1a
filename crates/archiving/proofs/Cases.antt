-- What a gate makes of words, case by case. Assumes nothing.
use Rattle.std.proofs.Common.{◌≡◌, ℕ, ◌^◌, ◌<◌, List, get_or, ap, ◌∙◌}
use Rattle.bench.specs.Kinds.{gate_result}
use Rattle.bench.specs.Word.{test_bit}
use Rattle.bench.specs.declared.gates.Gate.{Gate}
use Rattle.bench.proofs.WordBits.{test_combined}
use Rattle.archiving.specs.Traces.{made_by}

pub made_cases : (g : Gate) (ws : List ℕ) (r : ℕ) → r ≡ made_by g ws → get_or ws g.first 0 < 2 ^ 64 → get_or ws g.second 0 < 2 ^ 64
    → (l : ℕ) → l < 64 → test_bit r l ≡ gate_result g.kind (test_bit (get_or ws g.first 0) l) (test_bit (get_or ws g.second 0) l)
made_cases g ws r e p q l h = ap (λ x. test_bit x l) e ∙ test_combined g.kind (get_or ws g.first 0) (get_or ws g.second 0) l p q h
