-- The bytes of a word, one more. Assumes nothing.
use Rattle.std.proofs.Common.{◌≡◌, ℕ, zero, suc, ◌-◌, ◌*◌, ◌/◌, ◌%◌, ◌^◌, ◌<◌, [], ◌∷◌, ◌++◌, ap, arith}
use Rattle.text.specs.Text.{hex_text}
use Rattle.archiving.specs.Lines.{low_text}

pub low_more : (w k : ℕ) → 0 < k → low_text w k ≡ hex_text ((w / 2 ^ (8 * (k - 1)) % 256) ∷ []) ++ low_text w (k - 1)
unfolding low_text
low_more w zero h = absurd (omega arith)
low_more w (suc j) h =
    let e : j ≡ suc j - 1 = omega arith in ap (λ n. hex_text ((w / 2 ^ (8 * n) % 256) ∷ []) ++ low_text w n) e
