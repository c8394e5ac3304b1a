-- Decimal digits: one digit more, and reading them back. Assumes nothing.
use Rattle.std.proofs.Common.{◌≡◌, ℕ, suc, ◌+◌, ◌/◌, ◌%◌, ◌^◌, ◌<◌, ◌≤◌, true, ltb, [], ◌∷◌, ◌++◌, length, Some, sym, ap, ◌∙◌, arith, rules}
use Rattle.std.specs.Fmt as written
use Rattle.std.proofs.lemmas.Str.Parse.{IsNumeralModel, numerals_by_fold}
use Rattle.std.proofs.lemmas.Fmt.{AppendsLastDigit, decimal_from_appends, length-decimal-le_succ, decimal_digit, decimal_step, digits_decimal, digits_value-decimal, decimal_nonempty}
use Rattle.std.proofs.lemmas.Bool.{lt-ltb}
use Rattle.text.specs.Text.{all_digits, value_after, number_in, decimal_by, decimal}

spells : AppendsLastDigit decimal_by
spells = search rules

own : IsNumeralModel (λ ds. all_digits ds ≡ true) (value_after 0)
own = numerals_by_fold _ (search rules) value_after (search rules)

-- the digits are those that the standard library writes
same : (n : ℕ) → n < 2 ^ 64 → decimal n ≡ written.decimal n
unfolding decimal
same n h = decimal_from_appends decimal_by spells (suc n) n h (omega (arith, length-decimal-le_succ n h))

pub decimal_one : (n : ℕ) → n < 10 → decimal n ≡ (48 + n) ∷ []
decimal_one n h = same n (omega arith) ∙ decimal_digit n h

pub decimal_more : (n : ℕ) → 10 ≤ n → n < 2 ^ 64 → decimal n ≡ decimal (n / 10) ++ ((48 + n % 10) ∷ [])
decimal_more n l h = same n h ∙ decimal_step n l h ∙ ap (λ ds. ds ++ ((48 + n % 10) ∷ [])) (sym (same (n / 10) (omega arith)))

pub reads_back : (n : ℕ) → n < 2 ^ 64 → number_in (decimal n) ≡ Some n
reads_back n h =
    let ds = written.decimal n in
    let some : ltb 0 (length ds) ≡ true = lt-ltb 0 (length ds) (decimal_nonempty n h) in
    let digits : all_digits ds ≡ true = digits_decimal own n h in
    let value : value_after 0 ds ≡ n = digits_value-decimal own n h in
    let small : ltb (value_after 0 ds) (2 ^ 64) ≡ true = lt-ltb (value_after 0 ds) (2 ^ 64) (omega arith) in
    ap number_in (same n h) ∙ rw (some, digits, small) (ap Some value)
