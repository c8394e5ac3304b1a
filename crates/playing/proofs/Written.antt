-- Pushes one after another. Assumes nothing.
use Rattle.std.proofs.Common.{◌≡◌, ℕ, List, ◌++◌, IfOk, Result, ap, ◌∙◌, append_assoc}
use Rattle.std.proofs.lemmas.Result.{IfOk-weaker}

pub then_pushed : (start had all x y : List ℕ) → had ≡ start ++ x → all ≡ had ++ y → all ≡ start ++ (x ++ y)
then_pushed start had all x y p q = q ∙ ap (λ l. l ++ y) p ∙ append_assoc start x y

-- the same where the second may find no memory
pub last_pushed : {X Y : Type 0} (r : Result X Y) (start had all x y : List ℕ) → had ≡ start ++ x → IfOk r (λ _. all ≡ had ++ y) → IfOk r (λ _. all ≡ start ++ (x ++ y))
last_pushed r start had all x y p q = IfOk-weaker r (λ _. all ≡ had ++ y) (λ _. all ≡ start ++ (x ++ y)) (λ _ e. then_pushed start had all x y p e) q
