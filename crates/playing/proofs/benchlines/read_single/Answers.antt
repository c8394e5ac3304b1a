use Rattle.std.proofs.Common.{◌≡◌, true, false, [], get_or, drop, Some, None, codes, sym, refl, ap, ◌∙◌}
use Rattle.std.specs.Str.{bytes_eq}
use Rattle.text.specs.Text.{number_in, words_in}
use Rattle.text.proofs.WordLemmas.{first_word, later_words}
use Rattle.playing.specs.declared.setups.Single.TheVariants.{Word, Row}
use Rattle.playing.proofs.Places.{at_word, past_word}
use Rattle.playing.proofs.Benches.{word_is, row_is, no_single}
use Rattle.playing.proofs.benchlines.read_single.Goals as goal

pub returns-in_err-registers : goal.returns-in_err-registers
returns-in_err-registers c =
    let l = c.args.line.now in
    let ws = words_in l in
    let kind : c.split_word.result.0.now ≡ get_or ws 0 [] = c.split_word.ensures.word ∙ first_word l in
    let word : bytes_eq (get_or ws 0 []) (codes "word") ≡ true = ap (λ w. bytes_eq w (codes "word")) (sym kind) ∙ sym c.is_word.ensures ∙ c.if-is_word.true in
    let r₀ = c.split_word.result.1.now in
    let e₀ : words_in r₀ ≡ drop 1 ws = ap words_in c.split_word.ensures.rest ∙ later_words l in
    let n₁ : number_in (get_or ws 1 []) ≡ None = ap number_in (sym (at_word ws 1 r₀ e₀)) ∙ c.in_err-registers.ensures in
    rw c.from_residual.ensures (word_is ws None (number_in (get_or ws 2 [])) word n₁ refl)

pub returns-in_err-allotment : goal.returns-in_err-allotment
returns-in_err-allotment c =
    let l = c.args.line.now in
    let ws = words_in l in
    let kind : c.split_word.result.0.now ≡ get_or ws 0 [] = c.split_word.ensures.word ∙ first_word l in
    let word : bytes_eq (get_or ws 0 []) (codes "word") ≡ true = ap (λ w. bytes_eq w (codes "word")) (sym kind) ∙ sym c.is_word.ensures ∙ c.if-is_word.true in
    let r₀ = c.split_word.result.1.now in
    let e₀ : words_in r₀ ≡ drop 1 ws = ap words_in c.split_word.ensures.rest ∙ later_words l in
    let n₁ : number_in (get_or ws 1 []) ≡ Some c.in_ok-registers.registers = ap number_in (sym (at_word ws 1 r₀ e₀)) ∙ c.in_ok-registers.ensures.0 in
    let r₁ = c.in_ok-registers.rest.now in
    let e₁ : words_in r₁ ≡ drop 2 ws = ap words_in c.in_ok-registers.ensures.1 ∙ past_word ws 1 r₀ e₀ in
    let n₂ : number_in (get_or ws 2 []) ≡ None = ap number_in (sym (at_word ws 2 r₁ e₁)) ∙ c.in_err-allotment.ensures in
    rw c.from_residual-in_err-allotment.ensures (word_is ws (Some c.in_ok-registers.registers) None word n₁ n₂)

pub returns-then-is_word : goal.returns-then-is_word
returns-then-is_word c =
    let l = c.args.line.now in
    let ws = words_in l in
    let kind : c.split_word.result.0.now ≡ get_or ws 0 [] = c.split_word.ensures.word ∙ first_word l in
    let word : bytes_eq (get_or ws 0 []) (codes "word") ≡ true = ap (λ w. bytes_eq w (codes "word")) (sym kind) ∙ sym c.is_word.ensures ∙ c.if-is_word.true in
    let r₀ = c.split_word.result.1.now in
    let e₀ : words_in r₀ ≡ drop 1 ws = ap words_in c.split_word.ensures.rest ∙ later_words l in
    let n₁ : number_in (get_or ws 1 []) ≡ Some c.in_ok-registers.registers = ap number_in (sym (at_word ws 1 r₀ e₀)) ∙ c.in_ok-registers.ensures.0 in
    let r₁ = c.in_ok-registers.rest.now in
    let e₁ : words_in r₁ ≡ drop 2 ws = ap words_in c.in_ok-registers.ensures.1 ∙ past_word ws 1 r₀ e₀ in
    let n₂ : number_in (get_or ws 2 []) ≡ Some c.in_ok-allotment.allotment = ap number_in (sym (at_word ws 2 r₁ e₁)) ∙ c.in_ok-allotment.ensures.0 in
    let r₂ = c.in_ok-allotment.rest.now in
    let e₂ : words_in r₂ ≡ drop 3 ws = ap words_in c.in_ok-allotment.ensures.1 ∙ past_word ws 2 r₁ e₁ in
    (word_is ws (Some c.in_ok-registers.registers) (Some c.in_ok-allotment.allotment) word n₁ n₂ ∙ ap (λ a. Some (Word c.in_ok-registers.registers a)) (sym c.capped.ensures), e₂)

pub returns-in_err-width : goal.returns-in_err-width
returns-in_err-width c =
    let l = c.args.line.now in
    let ws = words_in l in
    let kind : c.split_word.result.0.now ≡ get_or ws 0 [] = c.split_word.ensures.word ∙ first_word l in
    let word : bytes_eq (get_or ws 0 []) (codes "word") ≡ false = ap (λ w. bytes_eq w (codes "word")) (sym kind) ∙ sym c.is_word.ensures ∙ c.if-is_word.false in
    let row : bytes_eq (get_or ws 0 []) (codes "row") ≡ true = ap (λ w. bytes_eq w (codes "row")) (sym kind) ∙ sym c.is_word-2.ensures ∙ c.if-is_word-2.true in
    let r₀ = c.split_word.result.1.now in
    let e₀ : words_in r₀ ≡ drop 1 ws = ap words_in c.split_word.ensures.rest ∙ later_words l in
    let n₁ : number_in (get_or ws 1 []) ≡ None = ap number_in (sym (at_word ws 1 r₀ e₀)) ∙ c.in_err-width.ensures in
    rw c.from_residual-in_err-width.ensures (row_is ws None (number_in (get_or ws 2 [])) (number_in (get_or ws 3 [])) word row n₁ refl refl)

pub returns-in_err-bytes : goal.returns-in_err-bytes
returns-in_err-bytes c =
    let l = c.args.line.now in
    let ws = words_in l in
    let kind : c.split_word.result.0.now ≡ get_or ws 0 [] = c.split_word.ensures.word ∙ first_word l in
    let word : bytes_eq (get_or ws 0 []) (codes "word") ≡ false = ap (λ w. bytes_eq w (codes "word")) (sym kind) ∙ sym c.is_word.ensures ∙ c.if-is_word.false in
    let row : bytes_eq (get_or ws 0 []) (codes "row") ≡ true = ap (λ w. bytes_eq w (codes "row")) (sym kind) ∙ sym c.is_word-2.ensures ∙ c.if-is_word-2.true in
    let r₀ = c.split_word.result.1.now in
    let e₀ : words_in r₀ ≡ drop 1 ws = ap words_in c.split_word.ensures.rest ∙ later_words l in
    let n₁ : number_in (get_or ws 1 []) ≡ Some c.in_ok-width.width = ap number_in (sym (at_word ws 1 r₀ e₀)) ∙ c.in_ok-width.ensures.0 in
    let r₁ = c.in_ok-width.rest.now in
    let e₁ : words_in r₁ ≡ drop 2 ws = ap words_in c.in_ok-width.ensures.1 ∙ past_word ws 1 r₀ e₀ in
    let n₂ : number_in (get_or ws 2 []) ≡ None = ap number_in (sym (at_word ws 2 r₁ e₁)) ∙ c.in_err-bytes.ensures in
    rw c.from_residual-in_err-bytes.ensures (row_is ws (Some c.in_ok-width.width) None (number_in (get_or ws 3 [])) word row n₁ n₂ refl)

pub returns-in_err-allotment-2 : goal.returns-in_err-allotment-2
returns-in_err-allotment-2 c =
    let l = c.args.line.now in
    let ws = words_in l in
    let kind : c.split_word.result.0.now ≡ get_or ws 0 [] = c.split_word.ensures.word ∙ first_word l in
    let word : bytes_eq (get_or ws 0 []) (codes "word") ≡ false = ap (λ w. bytes_eq w (codes "word")) (sym kind) ∙ sym c.is_word.ensures ∙ c.if-is_word.false in
    let row : bytes_eq (get_or ws 0 []) (codes "row") ≡ true = ap (λ w. bytes_eq w (codes "row")) (sym kind) ∙ sym c.is_word-2.ensures ∙ c.if-is_word-2.true in
    let r₀ = c.split_word.result.1.now in
    let e₀ : words_in r₀ ≡ drop 1 ws = ap words_in c.split_word.ensures.rest ∙ later_words l in
    let n₁ : number_in (get_or ws 1 []) ≡ Some c.in_ok-width.width = ap number_in (sym (at_word ws 1 r₀ e₀)) ∙ c.in_ok-width.ensures.0 in
    let r₁ = c.in_ok-width.rest.now in
    let e₁ : words_in r₁ ≡ drop 2 ws = ap words_in c.in_ok-width.ensures.1 ∙ past_word ws 1 r₀ e₀ in
    let n₂ : number_in (get_or ws 2 []) ≡ Some c.in_ok-bytes.bytes = ap number_in (sym (at_word ws 2 r₁ e₁)) ∙ c.in_ok-bytes.ensures.0 in
    let r₂ = c.in_ok-bytes.rest.now in
    let e₂ : words_in r₂ ≡ drop 3 ws = ap words_in c.in_ok-bytes.ensures.1 ∙ past_word ws 2 r₁ e₁ in
    let n₃ : number_in (get_or ws 3 []) ≡ None = ap number_in (sym (at_word ws 3 r₂ e₂)) ∙ c.in_err-allotment-2.ensures in
    rw c.from_residual-in_err-allotment-2.ensures (row_is ws (Some c.in_ok-width.width) (Some c.in_ok-bytes.bytes) None word row n₁ n₂ n₃)

pub returns-then-is_word-2 : goal.returns-then-is_word-2
returns-then-is_word-2 c =
    let l = c.args.line.now in
    let ws = words_in l in
    let kind : c.split_word.result.0.now ≡ get_or ws 0 [] = c.split_word.ensures.word ∙ first_word l in
    let word : bytes_eq (get_or ws 0 []) (codes "word") ≡ false = ap (λ w. bytes_eq w (codes "word")) (sym kind) ∙ sym c.is_word.ensures ∙ c.if-is_word.false in
    let row : bytes_eq (get_or ws 0 []) (codes "row") ≡ true = ap (λ w. bytes_eq w (codes "row")) (sym kind) ∙ sym c.is_word-2.ensures ∙ c.if-is_word-2.true in
    let r₀ = c.split_word.result.1.now in
    let e₀ : words_in r₀ ≡ drop 1 ws = ap words_in c.split_word.ensures.rest ∙ later_words l in
    let n₁ : number_in (get_or ws 1 []) ≡ Some c.in_ok-width.width = ap number_in (sym (at_word ws 1 r₀ e₀)) ∙ c.in_ok-width.ensures.0 in
    let r₁ = c.in_ok-width.rest.now in
    let e₁ : words_in r₁ ≡ drop 2 ws = ap words_in c.in_ok-width.ensures.1 ∙ past_word ws 1 r₀ e₀ in
    let n₂ : number_in (get_or ws 2 []) ≡ Some c.in_ok-bytes.bytes = ap number_in (sym (at_word ws 2 r₁ e₁)) ∙ c.in_ok-bytes.ensures.0 in
    let r₂ = c.in_ok-bytes.rest.now in
    let e₂ : words_in r₂ ≡ drop 3 ws = ap words_in c.in_ok-bytes.ensures.1 ∙ past_word ws 2 r₁ e₁ in
    let n₃ : number_in (get_or ws 3 []) ≡ Some c.in_ok-allotment-2.allotment = ap number_in (sym (at_word ws 3 r₂ e₂)) ∙ c.in_ok-allotment-2.ensures.0 in
    let r₃ = c.in_ok-allotment-2.rest.now in
    let e₃ : words_in r₃ ≡ drop 4 ws = ap words_in c.in_ok-allotment-2.ensures.1 ∙ past_word ws 3 r₂ e₂ in
    (row_is ws (Some c.in_ok-width.width) (Some c.in_ok-bytes.bytes) (Some c.in_ok-allotment-2.allotment) word row n₁ n₂ n₃ ∙ ap (λ a. Some (Row c.in_ok-width.width c.in_ok-bytes.bytes a)) (sym c.capped-then-is_word-2.ensures), e₃)

pub returns : goal.returns
returns c =
    let l = c.args.line.now in
    let ws = words_in l in
    let kind : c.split_word.result.0.now ≡ get_or ws 0 [] = c.split_word.ensures.word ∙ first_word l in
    let word : bytes_eq (get_or ws 0 []) (codes "word") ≡ false = ap (λ w. bytes_eq w (codes "word")) (sym kind) ∙ sym c.is_word.ensures ∙ c.if-is_word.false in
    let row : bytes_eq (get_or ws 0 []) (codes "row") ≡ false = ap (λ w. bytes_eq w (codes "row")) (sym kind) ∙ sym c.is_word-2.ensures ∙ c.if-is_word-2.false in
    no_single ws word row
