-- The book, kept from the calls and whether each was accepted, and from nothing else. Assumes nothing.
--
--   Page      what the book has for one lane: a key or none, and a block or none
--   wrote     what an accepted call writes into the book
--   book xs   the book after the lines xs
use Rattle.std.specs.Prelude.{ℕ, cond, List, [], ◌∷◌, Some, None, Option, ◌==◌}
use Rattle.standard.specs.Kinds.{encrypted, decrypted}
use Rattle.unit.specs.Works.{kind}
use Rattle.law.specs.Calls.{Asked, place_key, place_block, clear, seal, unseal, Line, accepted}

pub record Page : Type 0 where
  pub key : Option (List ℕ)
  pub block : Option (List ℕ)

abbrev pub Book : Type 0
Book = ℕ → Page

abbrev pub blank : Book
blank l = record { key = None; block = None }

-- the block of a lane with a key and a block, taken through f
abbrev pub through : (List ℕ → List ℕ → List ℕ) → Option (List ℕ) → Option (List ℕ) → Option (List ℕ)
through f (Some k) (Some b) = Some (f k b)
through f (Some k) None = None
through f None (Some b) = Some b
through f None None = None

abbrev pub turned : (List ℕ → List ℕ → List ℕ) → Page → Page
turned f p = record { key = p.key; block = through f p.key p.block }

abbrev pub wrote : Book → Asked → Book
wrote b (place_key lane bs) l = cond (l == lane) (record { key = Some bs; block = (b l).block }) (b l)
wrote b (place_block lane bs) l = cond (l == lane) (record { key = (b l).key; block = Some bs }) (b l)
wrote b (clear lane) l = cond (l == lane) (record { key = None; block = None }) (b l)
wrote b seal l = turned (encrypted kind) (b l)
wrote b unseal l = turned (decrypted kind) (b l)
wrote b _ l = b l

-- a refused call writes nothing
abbrev pub entered : Book → Line → Book
entered b x l = cond (accepted x.answer) (wrote b x.call l) (b l)

abbrev pub kept : Book → List Line → Book
kept b [] = b
kept b (x ∷ xs) = kept (entered b x) xs

abbrev pub book : List Line → Book
book xs = kept blank xs
