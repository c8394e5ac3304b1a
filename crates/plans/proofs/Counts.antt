-- What is computed of the plans: their gates, that their bases fit, that their pages are whole. Assumes nothing.
use Rattle.std.proofs.Common.{◌≡◌, ℕ, true, List, refl}
use Rattle.standard.specs.Kinds.{KeyKind, aes128}
use Rattle.player.specs.Pages.{whole, kinds_named, numbers_below}
use Rattle.plans.specs.declared.plays.Play.{Play}
use Rattle.plans.specs.declared.plays.Play.TheVariants.{Add, Enter, Invert, Mix, Finish, Copy, Affine, Sum, Leave, Unaffine, Unmix, Rcon1, Rcon2, Rcon3, Rcon4, Rcon5, Rcon6, Rcon7, Rcon8, Rcon9, Rcon10}
use Rattle.plans.specs.declared.tables.Plan.{Plan}
use Rattle.plans.specs.declared.tables.Plan.TheVariants.{Schedule, Seal, Open}
use Rattle.plans.specs.Layout.{room}
use Rattle.plans.specs.Pages.{add_page, enter_page, mix_page, finish_page, copy_page, affine_page, sum_page, leave_page, unaffine_page, unmix_page, rcon_page, own_inverter}
use Rattle.plans.specs.Plays.{page_of, plan_gates, fit}
use Rattle.plans.specs.Plans.{stages_to, seal_plan, words_to, schedule_plan, open_to, open_plan, plays_of}

pub seal_count : plan_gates own_inverter (seal_plan aes128) ≡ 21552
unfolding plan_gates stages_to own_inverter
seal_count = refl

pub seal_fit : (κ : KeyKind) → fit own_inverter (room κ) (seal_plan κ) ≡ true
unfolding fit stages_to own_inverter
seal_fit aes128 = refl

pub schedule_count : plan_gates own_inverter (schedule_plan aes128) ≡ 6744
unfolding plan_gates words_to own_inverter
schedule_count = refl

pub schedule_fit : (κ : KeyKind) → fit own_inverter (room κ) (schedule_plan κ) ≡ true
unfolding fit words_to own_inverter
schedule_fit aes128 = refl

pub open_count : plan_gates own_inverter (open_plan aes128) ≡ 27324
unfolding plan_gates open_to own_inverter
open_count = refl

pub open_fit : (κ : KeyKind) → fit own_inverter (room κ) (open_plan κ) ≡ true
unfolding fit open_to own_inverter
open_fit aes128 = refl

pub plays_fit : (p : Plan) (κ : KeyKind) → fit own_inverter (room κ) (plays_of p κ) ≡ true
plays_fit Schedule = schedule_fit
plays_fit Seal = seal_fit
plays_fit Open = open_fit

pub own_whole : whole own_inverter ≡ true
unfolding own_inverter kinds_named numbers_below
own_whole = refl

pub page_whole : (inv : List ℕ) → whole inv ≡ true → (p : Play) → whole (page_of inv p) ≡ true
unfolding add_page enter_page mix_page finish_page copy_page affine_page sum_page leave_page unaffine_page unmix_page rcon_page kinds_named numbers_below
page_whole inv w (Add bs) = refl
page_whole inv w (Enter bs) = refl
page_whole inv w (Invert bs) = w
page_whole inv w (Mix bs) = refl
page_whole inv w (Finish bs) = refl
page_whole inv w (Copy bs) = refl
page_whole inv w (Affine bs) = refl
page_whole inv w (Sum bs) = refl
page_whole inv w (Leave bs) = refl
page_whole inv w (Unaffine bs) = refl
page_whole inv w (Unmix bs) = refl
page_whole inv w (Rcon1 bs) = refl
page_whole inv w (Rcon2 bs) = refl
page_whole inv w (Rcon3 bs) = refl
page_whole inv w (Rcon4 bs) = refl
page_whole inv w (Rcon5 bs) = refl
page_whole inv w (Rcon6 bs) = refl
page_whole inv w (Rcon7 bs) = refl
page_whole inv w (Rcon8 bs) = refl
page_whole inv w (Rcon9 bs) = refl
page_whole inv w (Rcon10 bs) = refl
