-- Plays and lists of plays: their pages and bases, and what they do to a bench. Assumes nothing.
--
--   inv             the page that is played as the inverter: the repository's own is own_inverter
--   page_of inv p   the page of a play; bases_of p, its bases
--   planned         a plan's gates, done one after another; plan_gates, how many they are
--   fit inv R ps    every play's bases fit in R registers
--   plays_answer    what a plan answers that is played until the first refusal; carried, what it leaves
use Rattle.std.specs.Prelude.{ℕ, ◌+◌, Bool, true, false, ◌&&◌, List, [], ◌∷◌, Some, None, Ok, Err, Option, Result}
use Rattle.bench.specs.declared.faults.Fault.{Fault}
use Rattle.bench.specs.Model.{Model, Memory, after}
use Rattle.player.specs.Pages.{gates_in, sockets_in, scratch_in}
use Rattle.player.specs.Plays.{play_answer, played, played_in, bases_at}
use Rattle.plans.specs.Pages.{add_page, enter_page, mix_page, finish_page, copy_page, affine_page, sum_page, leave_page, unaffine_page, unmix_page, rcon_page}
use Rattle.plans.specs.declared.plays.Play.{Play}
use Rattle.plans.specs.declared.plays.Play.TheVariants.{Add, Enter, Invert, Mix, Finish, Copy, Affine, Sum, Leave, Unaffine, Unmix, Rcon1, Rcon2, Rcon3, Rcon4, Rcon5, Rcon6, Rcon7, Rcon8, Rcon9, Rcon10}

abbrev pub page_of : List ℕ → Play → List ℕ
page_of inv (Add bs) = add_page
page_of inv (Enter bs) = enter_page
page_of inv (Invert bs) = inv
page_of inv (Mix bs) = mix_page
page_of inv (Finish bs) = finish_page
page_of inv (Copy bs) = copy_page
page_of inv (Affine bs) = affine_page
page_of inv (Sum bs) = sum_page
page_of inv (Leave bs) = leave_page
page_of inv (Unaffine bs) = unaffine_page
page_of inv (Unmix bs) = unmix_page
page_of inv (Rcon1 bs) = rcon_page 1
page_of inv (Rcon2 bs) = rcon_page 2
page_of inv (Rcon3 bs) = rcon_page 3
page_of inv (Rcon4 bs) = rcon_page 4
page_of inv (Rcon5 bs) = rcon_page 5
page_of inv (Rcon6 bs) = rcon_page 6
page_of inv (Rcon7 bs) = rcon_page 7
page_of inv (Rcon8 bs) = rcon_page 8
page_of inv (Rcon9 bs) = rcon_page 9
page_of inv (Rcon10 bs) = rcon_page 10

abbrev pub bases_of : Play → List ℕ
bases_of (Add bs) = bs
bases_of (Enter bs) = bs
bases_of (Invert bs) = bs
bases_of (Mix bs) = bs
bases_of (Finish bs) = bs
bases_of (Copy bs) = bs
bases_of (Affine bs) = bs
bases_of (Sum bs) = bs
bases_of (Leave bs) = bs
bases_of (Unaffine bs) = bs
bases_of (Unmix bs) = bs
bases_of (Rcon1 bs) = bs
bases_of (Rcon2 bs) = bs
bases_of (Rcon3 bs) = bs
bases_of (Rcon4 bs) = bs
bases_of (Rcon5 bs) = bs
bases_of (Rcon6 bs) = bs
bases_of (Rcon7 bs) = bs
bases_of (Rcon8 bs) = bs
bases_of (Rcon9 bs) = bs
bases_of (Rcon10 bs) = bs

abbrev pub ask_play : List ℕ → Play → Model → Result (Unit {0}) Fault
ask_play inv p m = play_answer m (page_of inv p) (bases_of p)

abbrev pub do_play : List ℕ → Play → Model → Model
do_play inv p m = played (page_of inv p) (bases_of p) m

-- the same on the bottom benches beneath
abbrev pub do_play_in : List ℕ → Play → Memory → Memory
do_play_in inv p x = played_in (page_of inv p) (bases_of p) x

-- ---- a plan of which no play is refused

-- y taken by f through each play
abbrev pub through : {Y : Type 0} → (Play → Y → Y) → List Play → Y → Y
through f [] y = y
through f (p ∷ ps) y = through f ps (f p y)

unfoldable pub planned : List ℕ → List Play → Model → Model
planned inv ps m = through (do_play inv) ps m

unfoldable pub planned_in : List ℕ → List Play → Memory → Memory
planned_in inv ps x = through (do_play_in inv) ps x

unfoldable pub plan_gates : List ℕ → List Play → ℕ
unfolding add_page enter_page mix_page finish_page copy_page affine_page sum_page leave_page unaffine_page unmix_page rcon_page
plan_gates inv [] = 0
plan_gates inv (p ∷ ps) = gates_in (page_of inv p) + plan_gates inv ps

abbrev pub none : Option ℕ → Bool
none (Some i) = false
none None = true

unfoldable pub fit : List ℕ → ℕ → List Play → Bool
unfolding add_page enter_page mix_page finish_page copy_page affine_page sum_page leave_page unaffine_page unmix_page rcon_page bases_at
fit inv R [] = true
fit inv R (p ∷ ps) = none (bases_at R (sockets_in (page_of inv p)) (scratch_in (page_of inv p)) (bases_of p)) && fit inv R ps

-- ---- any plan, played until the first refusal

abbrev pub and_then : Result (Unit {0}) Fault → Result (Unit {0}) Fault → Result (Unit {0}) Fault
and_then (Ok x) r = r
and_then (Err e) r = Err e

unfoldable pub plays_answer : List ℕ → List Play → Model → Result (Unit {0}) Fault
plays_answer inv [] m = Ok tt
plays_answer inv (p ∷ ps) m = and_then (ask_play inv p m) (plays_answer inv ps (do_play inv p m))

-- y taken by f through the plays that are done, where m is the meaning
unfoldable pub carried : {Y : Type 0} → List ℕ → (Play → Y → Y) → List Play → Model → Y → Y
carried inv f [] m y = y
carried inv f (p ∷ ps) m y = after (ask_play inv p m) (carried inv f ps (do_play inv p m) (f p y)) y
