use Rattle.std.proofs.Common.{rules, ◌≡◌, ◌-◌, ◌*◌, ◌%◌, ◌≤◌, ◌++◌, true, eqb, length, take, drop, Ok, sym, ap, ◌∙◌, ap₂, arith}
use Rattle.std.proofs.lemmas.List.{length-take, length-drop}
use Rattle.std.proofs.lemmas.Bool.{eq-eqb, cond-true}
use Rattle.sealing.specs.Sealed.{sealed_text}
use Rattle.sealing.proofs.Chunks.{block_bytes, text_is}
use Rattle.sealing.proofs.texts.seal_text.Goals as goal

pub seal_lines-requires-clause-bytes : goal.seal_lines-requires-clause-bytes
seal_lines-requires-clause-bytes c i j = block_bytes c.args.input.now _ c.as_chunks.ensures.front (λ j. omega (arith, c.type_inv.input j)) i j

pub returns-in-len1-up-empty : goal.returns-in-len1-up-empty
returns-in-len1-up-empty c =
    let input = c.args.input.now in
    let out = c.args.out.now in
    let chunks = c.as_chunks.result.0.now in
    let n = length (take (length chunks - 1) (drop 1 chunks)) in
    let many : n ≡ length chunks - 1 = omega (arith, length-take (length chunks - 1) (drop 1 chunks), length-drop 1 chunks) in
    let none : length input % 16 ≡ 0 = grind arith in
    let some : 1 ≤ n = search rules in
    let is = text_is input chunks c.as_chunks.ensures.front n (omega arith) none some (omega arith) in
    let size : 33 * n ≡ length (sealed_text input) = sym c.seal_lines.ensures.size ∙ ap length is in
    let buffer : eqb (length out) 2112 ≡ true = eq-eqb (length out) 2112 (omega arith) in
    record {
      answer = ap Ok size ∙ sym (cond-true (eqb (length out) 2112) _ _ buffer);
      text = c.seal_lines.ensures.text ∙ ap₂ (λ x k. x ++ drop k out) is size ∙ sym (cond-true (eqb (length out) 2112) _ _ buffer);
      within = omega arith;
    }
