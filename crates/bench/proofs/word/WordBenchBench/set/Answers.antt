use Rattle.std.proofs.Common.{◌<◌, set, ap, ◌∙◌, ap₂, arith, rules}
use Rattle.bench.specs.Model.{part}
use Rattle.bench.specs.Word.{word_model, word_count}
use Rattle.bench.proofs.WordModels.{word_written, beyond_set}
use Rattle.bench.proofs.word.WordBenchBench.set.Goals as goal

pub returns : goal.returns
returns c =
    let words = c.args.self.now.words.now in
    let has = c.in_ok-ask_spot.ensures.has in
    let t : c.args.register < word_count words = omega (arith, has.0) in
    let l : c.args.lane < 64 = omega (arith, has.1) in
    let leaves = ap (λ v. word_model (set words c.args.register v) c.args.self.now.left) c.put_bit.ensures
    ∙ word_written words c.args.self.now.left c.args.register c.args.lane c.args.value t l in
    record {
      answer = search rules;
      leaves = leaves;
      beneath = ap₂ (part c.args.self.now.words.ghost_name) (beyond_set words c.args.register c.put_bit.result (omega (arith, t))) leaves;
    }
