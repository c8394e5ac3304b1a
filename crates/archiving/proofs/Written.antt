-- Pushes one after another. Assumes nothing.
use Rattle.std.proofs.Common.{◌≡◌, ℕ, List, ◌++◌, IfOk, Result, ap, ◌∙◌, append_assoc}
use Rattle.std.proofs.lemmas.Result.{IfOk-weaker}

pub pushed : (start x y : List ℕ) {had all : List ℕ} → had ≡ start ++ x → all ≡ had ++ y → all ≡ start ++ (x ++ y)
pushed start x y {had} {all} p q = q ∙ ap (λ l. l ++ y) p ∙ append_assoc start x y

-- the same where the last may find no memory
pub last_pushed : {X Y : Type 0} (r : Result X Y) (start x y all : List ℕ) {had : List ℕ} → had ≡ start ++ x → IfOk r (λ _. all ≡ had ++ y) → IfOk r (λ _. all ≡ start ++ (x ++ y))
last_pushed r start x y all {had} p q = IfOk-weaker r (λ _. all ≡ had ++ y) (λ _. all ≡ start ++ (x ++ y)) (λ _ e. pushed start x y p e) q

-- another name for what is pushed
pub pushed_as : {X Y : Type 0} (r : Result X Y) (start y z all : List ℕ) → y ≡ z → IfOk r (λ _. all ≡ start ++ y) → IfOk r (λ _. all ≡ start ++ z)
pushed_as r start y z all e q = IfOk-weaker r (λ _. all ≡ start ++ y) (λ _. all ≡ start ++ z) (λ _ p. p ∙ ap (λ l. start ++ l) e) q
