-- Reading a number digit by digit. Assumes nothing.
use Rattle.std.proofs.Common.{◌≡◌, ℕ, ◌+◌, ◌-◌, ◌*◌, ◌^◌, ◌≤◌, ltb, List, [], ◌∷◌, length, Some, None, arith}
use Rattle.std.proofs.lemmas.Bool.{le-ltb, and_right, cond-false}
use Rattle.text.specs.Text.{all_digits, value_after, number_in}

-- more digits make no number smaller
pub value_grows : (n : ℕ) (bs : List ℕ) → n ≤ value_after n bs
value_grows n [] = omega arith
value_grows n (b ∷ bs) = omega (arith, value_grows (n * 10 + (b - 48)) bs)

pub too_large : (word : List ℕ) → 2 ^ 64 ≤ value_after 0 word → number_in word ≡ None
too_large word h =
    cond-false _ (Some (value_after 0 word)) None
    (and_right (ltb 0 (length word)) _ (and_right (all_digits word) (ltb (value_after 0 word) (2 ^ 64)) (le-ltb (value_after 0 word) (2 ^ 64) h)))
