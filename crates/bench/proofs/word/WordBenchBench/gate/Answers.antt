use Rattle.std.proofs.Common.{◌-◌, ◌^◌, ◌<◌, get_or, set, ◌∙◌, ap₂, arith, rules}
use Rattle.bench.specs.Model.{part}
use Rattle.bench.specs.Word.{word_model, word_count}
use Rattle.bench.proofs.WordModels.{word_gated, beyond_set}
use Rattle.bench.proofs.word.WordBenchBench.gate.Goals as goal

pub returns : goal.returns
returns c =
    let words = c.args.self.now.words.now in
    let has = c.in_ok-ask_gate.ensures.has in
    let t : c.args.gate.target < word_count words = omega (arith, has.0) in
    let a : c.args.gate.first < word_count words = omega (arith, has.1.0) in
    let b : c.args.gate.second < word_count words = omega (arith, has.1.1.0) in
    let p : get_or words c.args.gate.first 0 < 2 ^ 64 = search rules in
    let q : get_or words c.args.gate.second 0 < 2 ^ 64 = search rules in
    let leaves = ap₂ (λ v n. word_model (set words c.args.gate.target v) (n - 1)) c.on_words.ensures c.left-2.ensures
    ∙ word_gated c.args.gate.kind words c.args.self.now.left c.args.gate.target c.args.gate.first c.args.gate.second t a b p q in
    record {
      answer = search rules;
      leaves = leaves;
      beneath = ap₂ (part c.args.self.now.words.ghost_name) (beyond_set words c.args.gate.target c.on_words.result (omega arith)) leaves;
    }
