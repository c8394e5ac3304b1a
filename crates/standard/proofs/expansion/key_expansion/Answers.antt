use Rattle.std.proofs.Common.{◌≡◌, ℕ, ◌+◌, ◌-◌, ◌<◌, length, get_or, set, sym, refl, ap, ◌∙◌, subst, arith}
use lib.Bits.{bit_xor}
use Rattle.std.proofs.lemmas.List.Edits.{fill_by_more}
use Rattle.std.proofs.lemmas.List.{length-set}
use Rattle.standard.specs.Kinds.{byte_at}
use Rattle.standard.proofs.WordBytes.{byte_of, byte_later, key_first}
use Rattle.standard.proofs.expansion.key_expansion.Goals as goal

pub loop-p-init : goal.loop-p-init
loop-p-init c = key_first c.args.key.now _ _ c.told-key refl c.copy_from_slice.ensures.after

pub loop-p-preserved : goal.loop-p-preserved
loop-p-preserved c =
    let xs = c.loop-p.words in
    let p = c.loop-p.p in
    let f = byte_of (byte_at c.args.key.now) in
    let at : p < length xs = omega arith in
    let written = ap (bit_xor (get_or xs (p - 16) 0)) c.temp_byte.ensures ∙ byte_later (byte_at c.args.key.now) (byte_at xs) p (omega arith) c.loop-p.invariant.1 in (
      length-set xs p _ ∙ c.loop-p.invariant.0,
      subst (λ (x : ℕ). (k : ℕ) → k < p + 1 → get_or (set xs p x) k 0 ≡ f k) (sym written) (fill_by_more f xs p 0 at c.loop-p.invariant.1),
    )
