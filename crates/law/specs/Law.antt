-- What holds of every list of calls on a unit, from its making. Assumes nothing.
--
--   Readings    each accepted reading gave the block that the book then had for its lane
--   Charged     the gates at the making are those left, and those of the accepted plans
--   Alike       two calls that differ at most in bytes, not their number, that a placing brings to another lane
--   Agree       two lines that differ at most in the bytes that a reading gave from another lane
--   Lawful      the law of one run; Isolated, the law of two
use Rattle.std.specs.Prelude.{◌≡◌, ℕ, ◌+◌, ◌*◌, Bool, true, false, cond, ◌&&◌, ◌⊎◌, List, [], ◌∷◌, ◌++◌, length, Some, ◌≢◌}
use Rattle.unit.specs.Works.{K, S, O}
use Rattle.law.specs.Calls.{Asked, place_key, place_block, schedule, seal, unseal, read, Line, Answer, accepted}
use Rattle.bench.specs.Model.{Model}
use Rattle.law.specs.Book.{book}

-- each accepted reading gave the block that the book then had for its lane
abbrev pub Readings : List Line → Type 0
Readings xs =
    (before after : List Line) (lane : ℕ) (bytes : List ℕ) (a : Answer) →
    xs ≡ before ++ (record { call = read lane bytes; answer = a } ∷ after) →
    accepted a ≡ true →
    (book before lane).block ≡ Some bytes

-- how many accepted calls pass a test
abbrev pub count : (Asked → Bool) → List Line → ℕ
count p [] = 0
count p (x ∷ xs) = cond (accepted x.answer && p x.call) 1 0 + count p xs

abbrev pub is_schedule : Asked → Bool
is_schedule schedule = true
is_schedule _ = false

abbrev pub is_seal : Asked → Bool
is_seal seal = true
is_seal _ = false

abbrev pub is_open : Asked → Bool
is_open unseal = true
is_open _ = false

-- the gates at the making are those left, and those of the accepted plans
abbrev pub Charged : ℕ → List Line → ℕ → Type 0
Charged making xs rest = making ≡ rest + (K * count is_schedule xs + (S * count is_seal xs + O * count is_open xs))

-- two calls that differ at most in the bytes, not their number, that a placing brings to another lane than the chosen one
pub data Alike (chosen : ℕ) : Asked → Asked → Type 0 where
  same : (a : Asked) → Alike chosen a a
  key_elsewhere : (lane : ℕ) (bs cs : List ℕ) → (lane ≢ chosen) → length bs ≡ length cs → Alike chosen (place_key lane bs) (place_key lane cs)
  block_elsewhere : (lane : ℕ) (bs cs : List ℕ) → (lane ≢ chosen) → length bs ≡ length cs → Alike chosen (place_block lane bs) (place_block lane cs)

-- two answers that differ at most in the bytes that a reading gave from another lane than the chosen one
pub record Agree (chosen : ℕ) (x y : Line) : Type 0 where
  pub answer : x.answer ≡ y.answer
  pub buffer : (lane : ℕ) (bs cs : List ℕ) → x.call ≡ read lane bs → y.call ≡ read lane cs → (lane ≡ chosen) ⊎ (accepted x.answer ≡ false) → bs ≡ cs

-- the lists are as long, and R holds at each place
abbrev pub Each : {X : Type 0} → (X → X → Type 0) → List X → List X → Type 0
Each R [] [] = Unit {0}
Each R [] (y ∷ ys) = ⊥
Each R (x ∷ xs) [] = ⊥
Each R (x ∷ xs) (y ∷ ys) = R x y × Each R xs ys

-- one run: the gates at its making, its log, and the gates left
pub record Lawful (making : ℕ) (xs : List Line) (rest : ℕ) : Type 0 where
  pub readings : Readings xs
  pub gates : Charged making xs rest

-- two runs: on benches p and q, of the calls xs and ys, with the logs ls and ms and the gates left
abbrev pub Isolated : (p q : Model) → List Asked → List Asked → List Line → List Line → ℕ → ℕ → Type 0
Isolated p q xs ys ls ms one other =
    p.registers ≡ q.registers →
    p.lanes ≡ q.lanes →
    p.left ≡ q.left →
    (chosen : ℕ) →
    Each (Alike chosen) xs ys →
    Each (Agree chosen) ls ms × (one ≡ other)
