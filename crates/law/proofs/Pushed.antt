-- A list of calls, and one more. Assumes nothing.
use Rattle.std.proofs.Common.{◌≡◌, List, [], ◌∷◌, ◌++◌, refl, ap}
use Rattle.unit.specs.View.{View}
use Rattle.law.specs.Calls.{Asked, performed, next, log, ran}

pub log_push : (v : View) (xs : List Asked) (a : Asked) → log v (xs ++ (a ∷ [])) ≡ log v xs ++ (performed (ran v xs) a ∷ [])
log_push v [] a = refl
log_push v (x ∷ xs) a = ap (λ l. performed v x ∷ l) (log_push (next v x) xs a)

pub ran_push : (v : View) (xs : List Asked) (a : Asked) → ran v (xs ++ (a ∷ [])) ≡ next (ran v xs) a
ran_push v [] a = refl
ran_push v (x ∷ xs) a = ran_push (next v x) xs a
