-- The plans, stage by stage, for each key kind. Assumes nothing.
--
--   stage_plan κ n   stage n of a sealing; stages_to κ n, stages 0 to n; seal_plan κ, all
--   word_plan κ i    word i of a scheduling; words_to κ n, n words behind the key's; schedule_plan κ, all
--   open_stage κ n   stage n of an opening; open_to κ n, stages 0 to n; open_plan κ, all
--   plays_of p κ     the three by name; most_gates p, a bound for how many gates they have
use Rattle.std.specs.Prelude.{ℕ, zero, suc, ◌+◌, ◌-◌, ◌*◌, ◌/◌, ◌%◌, cond, ◌&&◌, List, [], ◌∷◌, ◌++◌, map, ◌==◌, nat_lt, slice_index_or}
use Rattle.std.specs.List.{range_with_len}
use Rattle.standard.specs.Kinds.{KeyKind, rounds, key_words, key_bytes}
use Rattle.plans.specs.Layout.{at, key, free, buffer, scratch}
use Rattle.plans.specs.declared.plays.Play.{Play}
use Rattle.plans.specs.declared.tables.Plan.{Plan}
use Rattle.plans.specs.declared.tables.Plan.TheVariants.{Schedule, Seal, Open}
use Rattle.plans.specs.declared.plays.Play.TheVariants.{Add, Enter, Invert, Mix, Finish, Copy, Affine, Sum, Leave, Unaffine, Unmix, Rcon1, Rcon2, Rcon3, Rcon4, Rcon5, Rcon6, Rcon7, Rcon8, Rcon9, Rcon10}

-- ---- sealing

abbrev pub add_key : KeyKind → ℕ → List Play
add_key κ n = map (λ j. Add (at j ∷ key n j ∷ scratch κ ∷ [])) (range_with_len 0 16)

abbrev pub enter_state : KeyKind → List Play
enter_state κ = map (λ j. Enter (at j ∷ scratch κ ∷ [])) (range_with_len 0 16)

-- ShiftRows and the inverses, from the state to the buffer
abbrev pub invert_all : KeyKind → List Play
invert_all κ = map (λ j. Invert (at ((5 * j) % 16) ∷ buffer κ j ∷ scratch κ ∷ [])) (range_with_len 0 16)

-- the bases of a page from column c of the buffer to column c of the state
abbrev pub column : KeyKind → ℕ → List ℕ
column κ c = buffer κ (4 * c) ∷ buffer κ (1 + 4 * c) ∷ buffer κ (2 + 4 * c) ∷ buffer κ (3 + 4 * c)
    ∷ at (4 * c) ∷ at (1 + 4 * c) ∷ at (2 + 4 * c) ∷ at (3 + 4 * c) ∷ scratch κ ∷ []

-- stage 0 adds round key 0 and goes over to coordinates
abbrev pub first_stage : KeyKind → List Play
first_stage κ = add_key κ 0 ++ enter_state κ

abbrev pub round_stage : KeyKind → ℕ → List Play
round_stage κ n = invert_all κ ++ (map (λ c. Mix (column κ c)) (range_with_len 0 4) ++ add_key κ n)

-- the last stage leaves MixColumns out and goes back to plain bytes
abbrev pub last_stage : KeyKind → List Play
last_stage κ = invert_all κ ++ (map (λ j. Finish (buffer κ j ∷ at j ∷ scratch κ ∷ [])) (range_with_len 0 16) ++ add_key κ (rounds κ))

abbrev pub stage_plan : KeyKind → ℕ → List Play
stage_plan κ n = cond (n == 0) (first_stage κ) (cond (n == rounds κ) (last_stage κ) (round_stage κ n))

unfoldable pub stages_to : KeyKind → ℕ → List Play
stages_to κ zero = stage_plan κ 0
stages_to κ (suc n) = stages_to κ n ++ stage_plan κ (suc n)

abbrev pub seal_plan : KeyKind → List Play
seal_plan κ = stages_to κ (rounds κ)

-- ---- scheduling, word by word

-- how many words the expansion adds
abbrev pub added : KeyKind → ℕ
added κ = 4 * (rounds κ + 1) - key_words κ

-- the byte where word i is in coordinates: words 0 to 3 in the buffer, the others in their round keys
abbrev pub home : KeyKind → ℕ → ℕ
home κ i = cond (nat_lt i 4) (free κ + 4 * i) (16 + 4 * i)

-- the standard's temp, and the pages' scratch behind it
abbrev pub temp : KeyKind → ℕ
temp κ = free κ + 16

abbrev pub rest : KeyKind → ℕ
rest κ = free κ + 24

-- n bytes from byte p on are copied to byte q on, in coordinates
abbrev pub enter_plan : KeyKind → ℕ → ℕ → ℕ → List Play
enter_plan κ p q n =
    map (λ j. Copy (at (p + j) ∷ at (q + j) ∷ at (rest κ) ∷ [])) (range_with_len 0 n)
    ++ map (λ j. Enter (at (q + j) ∷ at (rest κ) ∷ [])) (range_with_len 0 n)

-- round key 0 into the buffer, and the key's other bytes into round key 1
abbrev pub start_plan : KeyKind → List Play
start_plan κ = enter_plan κ 16 (free κ) 16 ++ enter_plan κ (16 * (rounds κ + 2)) 32 (key_bytes κ - 16)

-- SubWord of the word at byte p, turned by so many bytes, into temp
abbrev pub sub_plan : KeyKind → ℕ → ℕ → List Play
sub_plan κ p turn =
    map (λ x. Invert (at (p + (x + turn) % 4) ∷ at (temp κ + x) ∷ at (rest κ) ∷ [])) (range_with_len 0 4)
    ++ map (λ x. Affine (at (temp κ + x) ∷ at (rest κ) ∷ [])) (range_with_len 0 4)

-- round constant n, for n from 1 to 10
abbrev pub rcon_play : ℕ → List ℕ → Play
rcon_play n bs =
    slice_index_or (Rcon1 bs ∷ Rcon2 bs ∷ Rcon3 bs ∷ Rcon4 bs ∷ Rcon5 bs ∷ Rcon6 bs ∷ Rcon7 bs ∷ Rcon8 bs ∷ Rcon9 bs ∷ Rcon10 bs ∷ []) (n - 1) (Rcon10 bs)

-- word i from word i - Nk and the word at byte q
abbrev pub sum_plan : KeyKind → ℕ → ℕ → List Play
sum_plan κ i q = map (λ x. Sum (at (home κ (i - key_words κ) + x) ∷ at (q + x) ∷ at (16 + 4 * i + x) ∷ at (rest κ) ∷ [])) (range_with_len 0 4)

abbrev pub word_plan : KeyKind → ℕ → List Play
word_plan κ i =
    cond (i % key_words κ == 0)
    (sub_plan κ (home κ (i - 1)) 1 ++ (rcon_play (i / key_words κ) (at (temp κ) ∷ at (rest κ) ∷ []) ∷ sum_plan κ i (temp κ)))
    (cond (nat_lt 6 (key_words κ) && i % key_words κ == 4) (sub_plan κ (home κ (i - 1)) 0 ++ sum_plan κ i (temp κ)) (sum_plan κ i (home κ (i - 1))))

-- the last round key goes back to plain bytes
abbrev pub leave_plan : KeyKind → List Play
leave_plan κ = map (λ j. Leave (at (16 * (rounds κ + 1) + j) ∷ at (rest κ) ∷ [])) (range_with_len 0 16)

unfoldable pub words_to : KeyKind → ℕ → List Play
words_to κ zero = start_plan κ
words_to κ (suc n) = words_to κ n ++ word_plan κ (n + key_words κ)

abbrev pub schedule_plan : KeyKind → List Play
schedule_plan κ = words_to κ (added κ) ++ leave_plan κ

-- ---- opening: stage 0 adds the last round key, stage n round key Nr - n

abbrev pub open_first : KeyKind → List Play
open_first κ = add_key κ (rounds κ) ++ enter_state κ

-- InvShiftRows and InvSubBytes, from the state to the buffer
abbrev pub unsub_all : KeyKind → List Play
unsub_all κ =
    map (λ j. Unaffine (at j ∷ scratch κ ∷ [])) (range_with_len 0 16)
    ++ map (λ j. Invert (at ((13 * j) % 16) ∷ buffer κ j ∷ scratch κ ∷ [])) (range_with_len 0 16)

abbrev pub open_round : KeyKind → ℕ → List Play
open_round κ n =
    unsub_all κ
    ++ (map (λ j. Add (buffer κ j ∷ key (rounds κ - n) j ∷ scratch κ ∷ [])) (range_with_len 0 16)
    ++ map (λ c. Unmix (column κ c)) (range_with_len 0 4))

abbrev pub open_last : KeyKind → List Play
open_last κ =
    unsub_all κ
    ++ (map (λ j. Leave (buffer κ j ∷ scratch κ ∷ [])) (range_with_len 0 16)
    ++ map (λ j. Sum (buffer κ j ∷ key 0 j ∷ at j ∷ scratch κ ∷ [])) (range_with_len 0 16))

abbrev pub open_stage : KeyKind → ℕ → List Play
open_stage κ n = cond (n == 0) (open_first κ) (cond (n == rounds κ) (open_last κ) (open_round κ n))

unfoldable pub open_to : KeyKind → ℕ → List Play
open_to κ zero = open_stage κ 0
open_to κ (suc n) = open_to κ n ++ open_stage κ (suc n)

abbrev pub open_plan : KeyKind → List Play
open_plan κ = open_to κ (rounds κ)

-- ---- the three plans by name

abbrev pub plays_of : Plan → KeyKind → List Play
plays_of Schedule κ = schedule_plan κ
plays_of Seal κ = seal_plan κ
plays_of Open κ = open_plan κ

-- no plan has more gates than this
abbrev pub most_gates : Plan → ℕ
most_gates Schedule = 20000
most_gates Seal = 40000
most_gates Open = 60000
