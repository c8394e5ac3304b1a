use Rattle.std.proofs.Common.{◌≡◌, ℕ, ◌*◌, ◌<◌, List, [], ◌++◌, get_or, length, drop, sym, refl, ap, ◌∙◌, arith}
use Rattle.standard.specs.Kinds.{aes128, encrypted}
use Rattle.bench.specs.Model.{Model}
use Rattle.bench.specs.contracts.word.WordBenchBench.TheImpl.{ghosts}
use Rattle.unit.specs.Held.{meaning, view}
use Rattle.unit.specs.Lanes.{state_of}
use Rattle.sealing.specs.Steps.{filled, turned}
use Rattle.sealing.proofs.Filling.{Sixteen, lane_gives}
use Rattle.sealing.proofs.Written.{length_lines, same_lines}
use Rattle.sealing.proofs.texts.seal_lines.Goals as goal

pub write_all-requires : goal.write_all-requires
write_all-requires c =
    let key = c.args.key.now in
    let block : ℕ → List ℕ = λ i. get_or c.args.blocks.now i [] in
    let n = length c.args.blocks.now in
    let k : Sixteen key = record { long = c.told-key; bytes = c.fits-key } in
    let bs : (i : ℕ) → i < n → Sixteen (block i) = λ i h. record { long = c.told-blocks i h; bytes = c.requires.bytes i } in
    let m : Model = meaning ghosts c.new.result in
    let registers : m.registers ≡ 2048 = ap (λ (x : Model). x.registers) c.new.ensures.meaning in
    let left : m.left ≡ 1000000000 = ap (λ (x : Model). x.left) c.new.ensures.meaning in
    let is = c.seal_all.ensures ∙ ap (λ v. turned (filled v key block n)) c.new-unit.ensures.empty in
    record {
      fits = (omega arith, omega arith);
      readable = λ l lt. (lane_gives m _ _ key block n (omega (arith, registers)) refl (omega (arith, left)) (omega arith) (omega arith) k bs is l lt).accepted;
    }

pub returns : goal.returns
returns c =
    let key = c.args.key.now in
    let block : ℕ → List ℕ = λ i. get_or c.args.blocks.now i [] in
    let n = length c.args.blocks.now in
    let k : Sixteen key = record { long = c.told-key; bytes = c.fits-key } in
    let bs : (i : ℕ) → i < n → Sixteen (block i) = λ i h. record { long = c.told-blocks i h; bytes = c.requires.bytes i } in
    let m : Model = meaning ghosts c.new.result in
    let registers : m.registers ≡ 2048 = ap (λ (x : Model). x.registers) c.new.ensures.meaning in
    let left : m.left ≡ 1000000000 = ap (λ (x : Model). x.left) c.new.ensures.meaning in
    let is = c.seal_all.ensures ∙ ap (λ v. turned (filled v key block n)) c.new-unit.ensures.empty in
    let f : ℕ → List ℕ = state_of (view ghosts c.seal_all.new.unit).model in
    let g : ℕ → List ℕ = λ i. encrypted aes128 key (block i) in
    let same : (l : ℕ) → l < n → f l ≡ g l = λ l lt.
    (lane_gives m _ _ key block n (omega (arith, registers)) refl (omega (arith, left)) (omega arith) (omega arith) k bs is l lt).state in
    record {
      text = c.write_all.ensures ∙ ap (λ l. l ++ drop (33 * n) c.args.out.now) (same_lines f g n same);
      size = length_lines g n (λ i lt. ap length (sym (same i lt)));
    }
