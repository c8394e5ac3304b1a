-- What a longer text holds. Assumes nothing.
--
--   Holds parts text           the parts stand in the text, in this order, with anything before, between and behind them
--   Extends parts had all      the text all is had and then more, which holds the parts
--   page_parts inv ps          the listings of the pages of the plays ps, where inv is the inverter
--   every_page, every_play     the listings of all pages, and the lines of all plays of the three plans
--   Reached plan a had all b   all is had and then more, which holds the plan's lines from index a up to index b
--   Listed was now had all     the same of a listing, from where it was to where it now is
use Rattle.std.specs.Prelude.{◌≡◌, ℕ, ◌+◌, ◌≤◌, List, [], ◌∷◌, ◌++◌, map, length, take, drop}
use Rattle.plans.specs.declared.plays.Play.{Play}
use Rattle.archiving.specs.declared.cursors.Listing.{Listing}
use Rattle.plans.specs.Pages.{add_page, enter_page, own_inverter, mix_page, finish_page, copy_page, affine_page, sum_page, leave_page, unaffine_page, unmix_page, rcon_page}
use Rattle.plans.specs.Plays.{page_of}
use Rattle.standard.specs.Kinds.{aes128}
use Rattle.plans.specs.Plans.{schedule_plan, seal_plan, open_plan}
use Rattle.archiving.specs.Lines.{play_line}
use Rattle.archiving.specs.Listings.{gates_text}

abbrev pub Holds : List (List ℕ) → List ℕ → Type 0
Holds [] text = Unit {0}
Holds (x ∷ xs) text = (before : List ℕ) × (behind : List ℕ) × (text ≡ before ++ (x ++ behind)) × Holds xs behind

abbrev pub Extends : List (List ℕ) → List ℕ → List ℕ → Type 0
Extends parts had all = (more : List ℕ) × (all ≡ had ++ more) × Holds parts more

abbrev pub page_part : List ℕ → Play → List ℕ
page_part inv p = gates_text (page_of inv p)

abbrev pub page_parts : List ℕ → List Play → List (List ℕ)
page_parts inv ps = map (page_part inv) ps

-- the listing of every page, in the archive's order
unfoldable pub every_page : List (List ℕ)
every_page = map gates_text (
    add_page ∷ sum_page ∷ copy_page ∷ enter_page ∷ leave_page ∷ own_inverter ∷ affine_page ∷ unaffine_page ∷ finish_page ∷ mix_page ∷ unmix_page
    ∷ rcon_page 1 ∷ rcon_page 2 ∷ rcon_page 3 ∷ rcon_page 4 ∷ rcon_page 5 ∷ rcon_page 6 ∷ rcon_page 7 ∷ rcon_page 8 ∷ rcon_page 9 ∷ rcon_page 10 ∷ [])

-- a line for each play; the first has the index i
abbrev pub lines_of : ℕ → List Play → List (List ℕ)
lines_of i [] = []
lines_of i (p ∷ ps) = play_line i p ∷ lines_of (i + 1) ps

-- the lines of a plan from index a up to index b
unfoldable pub between : List Play → ℕ → ℕ → List (List ℕ)
between plan a b = lines_of a (drop a (take b plan))

-- from had to all a plan was written from index a up to index b
pub record Reached (plan : List Play) (a : ℕ) (had all : List ℕ) (b : ℕ) : Type 0 where
  pub low : a ≤ b
  pub high : b ≤ length plan
  pub lines : Extends (between plan a b) had all

-- from had to all the plays of a listing's plan were written that it did not yet have
pub record Listed (was now_is : Listing) (had all : List ℕ) : Type 0 where
  pub plan : now_is.plan.now ≡ was.plan.now
  pub plays : Reached was.plan.now was.at had all now_is.at

-- every play of the three plans
unfoldable pub every_play : List (List ℕ)
every_play = lines_of 0 (schedule_plan aes128) ++ (lines_of 0 (seal_plan aes128) ++ lines_of 0 (open_plan aes128))
