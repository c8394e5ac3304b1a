use Rattle.std.proofs.Common.{◌≡◌, ◌+◌, ◌/◌, ◌%◌, ◌^◌, ◌<◌, [], ◌∷◌, ◌++◌, vec_items, sym, ap, ◌∙◌, append_assoc, arith}
use Rattle.std.proofs.lemmas.Result.{IfOk-from_err}
use Rattle.text.specs.Text.{decimal}
use Rattle.text.proofs.Decimals.{decimal_one, decimal_more, reads_back}
use Rattle.text.proofs.writes.+push_number.Goals as goal
use Rattle.text.proofs.writes.+push_number.Goals.{then-n-ge10+in_ok-push_number, else-n-ge10}

pub returns-in_err-push_number : goal.returns-in_err-push_number
returns-in_err-push_number t c = record { appends = IfOk-from_err _ _ c.from_residual.ensures.0; reads_back = reads_back c.args.n (omega arith) }

pub returns-in_err-push : goal.returns-in_err-push
returns-in_err-push t c = record { appends = IfOk-from_err _ _ c.from_residual-in_err-push.ensures.0; reads_back = reads_back c.args.n (omega arith) }

pub returns : goal.returns
returns t c =
    let n = c.args.n in
    let small : n < 2 ^ 64 = omega arith in
    let start = vec_items c.args.out.now in
    let last = c.in_ok-push.ensures.items in
    record {
      appends =
          elim c.if-n-ge10.branch [
            | then-n-ge10+in_ok-push_number w ↦
                last
                ∙ ap (λ v. vec_items v ++ ((48 + n % 10) ∷ [])) w.out-is
                ∙ ap (λ l. l ++ ((48 + n % 10) ∷ [])) w.in_ok-push_number.ensures.appends
                ∙ append_assoc start (decimal (n / 10)) ((48 + n % 10) ∷ [])
                ∙ ap (λ l. start ++ l) (sym (decimal_more n (omega (arith, w.if-n-ge10.true)) small))
            | else-n-ge10 w ↦
                let one : n % 10 ≡ n = omega (arith, w.if-n-ge10.false) in
                last
                ∙ ap (λ v. vec_items v ++ ((48 + n % 10) ∷ [])) w.out-is
                ∙ ap (λ k. start ++ ((48 + k) ∷ [])) one
                ∙ ap (λ l. start ++ l) (sym (decimal_one n (omega (arith, w.if-n-ge10.false))))
          ];
      reads_back = reads_back n small;
    }
