-- The claim about the scheduling. Assumes nothing.
use Rattle.std.proofs.Common.{◌≡◌, ℕ, zero, suc, ◌+◌, ◌-◌, ◌*◌, ◌/◌, ◌%◌, ◌<◌, ◌≤◌, Bool, true, false, cond, ltb, leb, ◌⊎◌, List, [], ◌∷◌, map, get_or, sym, refl, ap, ◌∙◌, subst, ap₂, inl, inr, arith}
use mathlib.Core.Option.{some}
use lib.Lanes.{zip2}
use Rattle.std.specs.List.{range_with_len}
use Rattle.std.proofs.lemmas.Bool.{le-leb, lt-leb, lt-ltb, le-ltb, cases_lt, cases_eq, and_left, and_right, and_from}
use Rattle.std.proofs.lemmas.List.FromFn.{get_or-map-range_with_len}
use Rattle.standard.specs.KeyExpansion.{Word, key_word, temp, word_at, round_key_byte}
use Rattle.standard.specs.Kinds.{KeyKind, aes128, rounds, key_bytes, key_words, sixteen}
use Rattle.coordinates.specs.Coordinates.{to_coordinates, from_coordinates}
use Rattle.plans.specs.declared.plays.Play.{Play}
use Rattle.plans.specs.Layout.{free, key}
use Rattle.plans.specs.Plans.{added, home, start_plan, word_plan, leave_plan, words_to, schedule_plan}
use Rattle.circuit.specs.Lanes.{Lane, run_plan}
use Rattle.standard.specs.Bits.{byte_of}
use Rattle.circuit.specs.Claims.{key_value, keys_of, key_in, ScheduleStands, Inverts}
use Rattle.circuit.proofs.Files.{Shows}
use Rattle.circuit.proofs.PlanLaws.{Step}
use Rattle.circuit.proofs.FileViews.{Shown}
use Rattle.coordinates.proofs.CoordinateLaws.{from_to}
use Rattle.standard.proofs.ByteLaws.{byte_of_small, map_below}
use Rattle.circuit.proofs.Staged.{stage, run_append, raw_shown, byte_read, bit_kept}
use Rattle.circuit.proofs.Keys.{last_value, between_value}
use Rattle.circuit.proofs.KeyMath.{add2}
use Rattle.standard.proofs.Words.{first_words, later_words}
use Rattle.circuit.proofs.UnderKeys.{key_listed}
use Rattle.circuit.proofs.Words.{Four, four, by_four, coordinates, cons4, xor_four, xor_coordinates, temp_four, temp_coordinates}
use Rattle.circuit.proofs.KeyStages.{KeysOk, start_ok, word_ok, leave_ok, start_steps, word_steps, leave_steps, word_of, temp_out, word_out, within, start_upd, word_upd, leave_upd}

-- a stage that leaves the state
key_stage : (inv : List ℕ) (κ : KeyKind) (plan : List Play) (steps : List (Step inv)) (upd : (ℕ → ℕ) → ℕ → ℕ) → KeysOk inv κ plan steps upd
    → (σ : Lane) (s k : ℕ → ℕ) → Shown (free κ) σ s k → Shown (free κ) (run_plan inv plan σ) s (upd k)
key_stage inv κ plan steps upd ok σ s k shown =
    let parts = stage inv (free κ) plan steps (λ s k. map s (range_with_len 0 16)) upd ok σ s k shown in (
      (λ j h. subst (λ (v : ℕ). Shows (run_plan inv plan σ) j (some v)) (get_or-map-range_with_len s 0 16 j j 0 h (omega arith)) (parts.0 j h)),
      parts.1,
    )

-- ---- the tests of a range
in_range : (a b j : ℕ) → a ≤ j → j < b → within a b j ≡ true
in_range a b j lo hi = and_from (leb a j) (ltb j b) (le-leb a j lo) (lt-ltb j b hi)

off_range : (a b j : ℕ) → (j < a) ⊎ (b ≤ j) → within a b j ≡ false
off_range a b j (inl h) = and_left (leb a j) (ltb j b) (lt-leb a j h)
off_range a b j (inr h) = and_right (leb a j) (ltb j b) (le-ltb j b h)

-- ---- what the layout gives
pub record Layout (κ : KeyKind) : Type 0 where
  pub words : 4 ≤ key_words κ
  pub bytes : key_bytes κ ≡ 4 * key_words κ
  pub few : key_words κ ≤ 8
  pub all : key_words κ + added κ ≡ 4 * (rounds κ + 1)
  pub room : free κ ≡ 16 * (rounds κ + 2) + (key_bytes κ - 16)
  pub many : 10 ≤ rounds κ

layout : (κ : KeyKind) → Layout κ
layout aes128 = record { words = omega arith; bytes = refl; few = omega arith; all = refl; room = refl; many = omega arith }

-- ---- one word
module _ (κ : KeyKind) (n : ℕ) (hn : n < added κ) (k : ℕ → ℕ) where
  abbrev i : ℕ
  i = n + key_words κ

  upd_off : (j : ℕ) → (j < 16 + 4 * i) ⊎ (20 + 4 * i ≤ j) → word_upd κ i k j ≡ k j
  upd_off j h = ap (λ (q : Bool). cond q (get_or (word_out κ i k) (j - (16 + 4 * i)) 0) (k j)) (off_range (16 + 4 * i) (20 + 4 * i) j h)

  upd_on : (x : ℕ) → x < 4 → word_upd κ i k (16 + 4 * i + x) ≡ get_or (word_out κ i k) x 0
  upd_on x h =
      ap (λ (q : Bool). cond q (get_or (word_out κ i k) (16 + 4 * i + x - (16 + 4 * i)) 0) (k (16 + 4 * i + x))) (in_range (16 + 4 * i) (20 + 4 * i) (16 + 4 * i + x) (omega arith) (omega arith))
      ∙ ap (λ (y : ℕ). get_or (word_out κ i k) y 0) (back x)
    where
      back : (x : ℕ) → 16 + 4 * i + x - (16 + 4 * i) ≡ x
      back x = omega arith

-- a word at byte p is as it was if all its four bytes are
same_word : (k k' : ℕ → ℕ) (p : ℕ) → ((x : ℕ) → x < 4 → k (p + x) ≡ k' (p + x)) → word_of k p ≡ word_of k' p
same_word k k' p e = cons4 (ap k (nothing p) ∙ e 0 (omega arith) ∙ ap k' (sym (nothing p))) (e 1 (omega arith)) (e 2 (omega arith)) (e 3 (omega arith))
  where
    nothing : (p : ℕ) → p ≡ p + 0
    nothing p = omega arith

home_low : (κ : KeyKind) (m : ℕ) → m < 4 → home κ m ≡ free κ + 4 * m
home_low κ m h = ap (λ (q : Bool). cond q (free κ + 4 * m) (16 + 4 * m)) (lt-ltb m 4 h)

home_high : (κ : KeyKind) (m : ℕ) → 4 ≤ m → home κ m ≡ 16 + 4 * m
home_high κ m h = ap (λ (q : Bool). cond q (free κ + 4 * m) (16 + 4 * m)) (le-ltb m 4 h)

byte_in_lem : (f : ℕ → ℕ) (p : ℕ) (w : Word) → Four w → word_of f p ≡ coordinates w → (x : ℕ) → x < 4 → f (p + x) ≡ to_coordinates (get_or w x 0)
byte_in_lem f p w q = by_four (λ w. word_of f p ≡ coordinates w → (x : ℕ) → x < 4 → f (p + x) ≡ to_coordinates (get_or w x 0))
    (λ a b c d ha hb hc hd e. elim [
      | zero ↦ (λ h. ap f (nothing p) ∙ ap (λ (xs : List ℕ). get_or xs 0 0) e)
      | suc zero ↦ (λ h. ap (λ (xs : List ℕ). get_or xs 1 0) e)
      | suc (suc zero) ↦ (λ h. ap (λ (xs : List ℕ). get_or xs 2 0) e)
      | suc (suc (suc zero)) ↦ (λ h. ap (λ (xs : List ℕ). get_or xs 3 0) e)
      | suc (suc (suc (suc x))) ↦ (λ h. absurd (omega arith))
    ]) w q
  where
    nothing : (p : ℕ) → p + 0 ≡ p
    nothing p = omega arith

key_byte_lem : (k : ℕ → ℕ) (m x : ℕ) → x < 4 → get_or (key_word k m) x 0 ≡ k (4 * m + x)
key_byte_lem k m zero h = ap k (nothing m)
  where
    nothing : (m : ℕ) → 4 * m ≡ 4 * m + 0
    nothing m = omega arith
key_byte_lem k m (suc zero) h = refl
key_byte_lem k m (suc (suc zero)) h = refl
key_byte_lem k m (suc (suc (suc zero))) h = refl
key_byte_lem k m (suc (suc (suc (suc x)))) h = absurd (omega arith)

module _ (inv : List ℕ) (E : Inverts inv) (κ : KeyKind) (σ : Lane) where
  abbrev shows : ℕ → ℕ
  shows j = byte_of σ (8 * j)

  abbrev k : ℕ → ℕ
  k = key_in κ σ

  hk : (j : ℕ) → k j < 256
  hk j = byte_of_small σ _

  -- what the bytes show after so many words
  keys : ℕ → ℕ → ℕ
  keys zero j = start_upd κ shows j
  keys (suc n) j = word_upd κ (n + key_words κ) (keys n) j

  abbrev W : ℕ → Word
  W m = word_at (key_words κ) k m

  L : Layout κ
  L = layout κ

  shown_after : (n : ℕ) → n ≤ added κ → Shown (free κ) (run_plan inv (words_to κ n) σ) shows (keys n)
  unfolding words_to keys
  shown_after zero h = key_stage inv κ (start_plan κ) (start_steps E κ) (start_upd κ) (start_ok E κ) σ shows shows (raw_shown (free κ) σ)
  shown_after (suc n) h =
      subst (λ τ. Shown (free κ) τ shows (keys (suc n))) (sym (run_append inv (words_to κ n) (word_plan κ (n + key_words κ)) σ))
      (key_stage inv κ (word_plan κ (n + key_words κ)) (word_steps E κ (n + key_words κ)) (word_upd κ (n + key_words κ)) (word_ok E κ (n + key_words κ) (omega arith) (omega arith))
      (run_plan inv (words_to κ n) σ) shows (keys n) (shown_after n (omega arith)))

  raw_low : (j : ℕ) → j < 16 → shows (16 + j) ≡ k j
  raw_low j h = ap (λ (q : Bool). shows (cond q (16 + j) (16 * (rounds κ + 2) + (j - 16)))) (sym (lt-ltb j 16 h))

  raw_more : (j : ℕ) → j < key_bytes κ - 16 → shows (16 * (rounds κ + 2) + j) ≡ k (16 + j)
  raw_more j h =
      ap (λ (x : ℕ). shows (16 * (rounds κ + 2) + x)) (past j)
      ∙ ap (λ (q : Bool). shows (cond q (16 + (16 + j)) (16 * (rounds κ + 2) + (16 + j - 16)))) (sym (le-ltb (16 + j) 16 (omega arith)))
    where
      past : (j : ℕ) → j ≡ 16 + j - 16
      past j = omega arith

  fours : (b m : ℕ) → m < b → Four (W m)
  fours zero m h = absurd (omega arith)
  fours (suc b) m h = go (fours b) (cases_lt m (key_words κ))
    where
      go : ((m : ℕ) → m < b → Four (W m)) → (m < key_words κ) ⊎ (key_words κ ≤ m) → Four (W m)
      go before (inl l) = subst Four (sym (first_words (key_words κ) (omega (arith, L.words)) k m l)) (four _ _ _ _ (hk (4 * m)) (hk (4 * m + 1)) (hk (4 * m + 2)) (hk (4 * m + 3)))
      go before (inr l) =
          let n = m - key_words κ in
          let there : m ≡ n + key_words κ = omega arith in
          subst (λ (x : ℕ). Four (W x)) (sym there)
          (subst Four (sym (later_words (key_words κ) (omega (arith, L.words)) k n))
          (xor_four (W n) (before n (omega (arith, L.words))) (temp (key_words κ) (n + key_words κ) (W (n + key_words κ - 1)))
          (temp_four (key_words κ) (n + key_words κ) (W (n + key_words κ - 1)) (before (n + key_words κ - 1) (omega (arith, L.words))))))

  four_at : (m : ℕ) → Four (W m)
  four_at m = fours (suc m) m (omega arith)

  start_byte : (m : ℕ) → m < key_words κ → (x : ℕ) → x < 4 → start_upd κ shows (home κ m + x) ≡ to_coordinates (k (4 * m + x))
  start_byte m hm x hx = go (cases_lt m 4)
    where
      go : (m < 4) ⊎ (4 ≤ m) → start_upd κ shows (home κ m + x) ≡ to_coordinates (k (4 * m + x))
      go (inl l) =
          ap (λ (p : ℕ). start_upd κ shows (p + x)) (home_low κ m l)
          ∙ ap (λ (q : Bool). cond q (to_coordinates (shows (free κ + 4 * m + x - free κ + 16))) (cond (within 32 (16 + key_bytes κ) (free κ + 4 * m + x)) (to_coordinates (shows (free κ + 4 * m + x - 32 + 16 * (rounds κ + 2)))) (shows (free κ + 4 * m + x))))
          (in_range (free κ) (free κ + 16) (free κ + 4 * m + x) (omega arith) (omega arith))
          ∙ ap (λ (p : ℕ). to_coordinates (shows p)) (there (free κ) m x)
          ∙ ap to_coordinates (raw_low (4 * m + x) (omega arith))
        where
          there : (f m x : ℕ) → f + 4 * m + x - f + 16 ≡ 16 + (4 * m + x)
          there f m x = omega arith
      go (inr l) =
          ap (λ (p : ℕ). start_upd κ shows (p + x)) (home_high κ m l)
          ∙ ap (λ (q : Bool). cond q (to_coordinates (shows (16 + 4 * m + x - free κ + 16))) (cond (within 32 (16 + key_bytes κ) (16 + 4 * m + x)) (to_coordinates (shows (16 + 4 * m + x - 32 + 16 * (rounds κ + 2)))) (shows (16 + 4 * m + x))))
          (off_range (free κ) (free κ + 16) (16 + 4 * m + x) (inl (omega (arith, L.few, L.room, L.many))))
          ∙ ap (λ (q : Bool). cond q (to_coordinates (shows (16 + 4 * m + x - 32 + 16 * (rounds κ + 2)))) (shows (16 + 4 * m + x)))
          (in_range 32 (16 + key_bytes κ) (16 + 4 * m + x) (omega arith) (omega (arith, L.bytes)))
          ∙ ap (λ (p : ℕ). to_coordinates (shows p)) there
          ∙ ap to_coordinates (raw_more (4 * m + x - 16) (omega (arith, L.bytes)))
          ∙ ap (λ (p : ℕ). to_coordinates (k p)) back
        where
          there : 16 + 4 * m + x - 32 + 16 * (rounds κ + 2) ≡ 16 * (rounds κ + 2) + (4 * m + x - 16)
          there = omega arith

          back : 16 + (4 * m + x - 16) ≡ 4 * m + x
          back = omega arith

  -- the words that are there after n more
  there_after : (n : ℕ) → n ≤ added κ → (m : ℕ) → m < n + key_words κ → word_of (keys n) (home κ m) ≡ coordinates (W m)
  unfolding keys
  there_after zero hn m hm =
      cons4 (ap (start_upd κ shows) (nothing (home κ m)) ∙ start_byte m (omega arith) 0 (omega arith) ∙ ap (λ (p : ℕ). to_coordinates (k p)) (sym (nothing (4 * m))))
      (start_byte m (omega arith) 1 (omega arith)) (start_byte m (omega arith) 2 (omega arith)) (start_byte m (omega arith) 3 (omega arith))
      ∙ ap coordinates (sym (first_words (key_words κ) (omega (arith, L.words)) k m (omega arith)))
    where
      nothing : (p : ℕ) → p ≡ p + 0
      nothing p = omega arith
  there_after (suc n) hn m hm = go (there_after n (omega arith)) (cases_lt m (n + key_words κ)) (cases_lt m 4)
    where
      kept : (p : ℕ) → ((x : ℕ) → x < 4 → (p + x < 16 + 4 * (n + key_words κ)) ⊎ (20 + 4 * (n + key_words κ) ≤ p + x)) → word_of (keys (suc n)) p ≡ word_of (keys n) p
      kept p off = same_word (keys (suc n)) (keys n) p (λ x hx. upd_off κ n (omega arith) (keys n) (p + x) (off x hx))

      go : ((m : ℕ) → m < n + key_words κ → word_of (keys n) (home κ m) ≡ coordinates (W m)) → (m < n + key_words κ) ⊎ (n + key_words κ ≤ m) → (m < 4) ⊎ (4 ≤ m) → word_of (keys (suc n)) (home κ m) ≡ coordinates (W m)
      go before (inl l) (inl low) =
          kept (home κ m) (λ x hx. inr (omega (arith, home_low κ m low, L.all, L.room))) ∙ before m l
      go before (inl l) (inr high) =
          kept (home κ m) (λ x hx. inl (omega (arith, home_high κ m high))) ∙ before m l
      go before (inr l) (inl low) = absurd (omega (arith, L.words))
      go before (inr l) (inr high) =
          let is : m ≡ n + key_words κ = omega arith in
          subst (λ (y : ℕ). word_of (keys (suc n)) (home κ y) ≡ coordinates (W y)) (sym is) new
        where
          back : n + key_words κ - key_words κ ≡ n
          back = omega arith

          nothing : (p : ℕ) → p ≡ p + 0
          nothing p = omega arith

          out : word_out κ (n + key_words κ) (keys n) ≡ coordinates (W (n + key_words κ))
          out =
              ap₂ (λ (v w : List ℕ). zip2 add2 v (temp_out (key_words κ) (n + key_words κ) w))
              (ap (λ (y : ℕ). word_of (keys n) (home κ y)) back ∙ before n (omega (arith, L.words)))
              (before (n + key_words κ - 1) (omega (arith, L.words)))
              ∙ ap (zip2 add2 (coordinates (W n))) (temp_coordinates (key_words κ) (n + key_words κ) (W (n + key_words κ - 1)) (four_at (n + key_words κ - 1)))
              ∙ xor_coordinates (W n) (four_at n) (temp (key_words κ) (n + key_words κ) (W (n + key_words κ - 1))) (temp_four (key_words κ) (n + key_words κ) (W (n + key_words κ - 1)) (four_at (n + key_words κ - 1)))
              ∙ ap coordinates (sym (later_words (key_words κ) (omega (arith, L.words)) k n))

          listed : (xs : List ℕ) → xs ≡ coordinates (W (n + key_words κ)) → ◌≡◌ {A = List ℕ} (get_or xs 0 0 ∷ get_or xs 1 0 ∷ get_or xs 2 0 ∷ get_or xs 3 0 ∷ []) (coordinates (W (n + key_words κ)))
          listed xs e = ap (λ (ys : List ℕ). get_or ys 0 0 ∷ get_or ys 1 0 ∷ get_or ys 2 0 ∷ get_or ys 3 0 ∷ []) e
              ∙ by_four (λ w. ◌≡◌ {A = List ℕ} (get_or (coordinates w) 0 0 ∷ get_or (coordinates w) 1 0 ∷ get_or (coordinates w) 2 0 ∷ get_or (coordinates w) 3 0 ∷ []) (coordinates w)) (λ a b c d ha hb hc hd. refl) (W (n + key_words κ)) (four_at (n + key_words κ))

          new : word_of (keys (suc n)) (home κ (n + key_words κ)) ≡ coordinates (W (n + key_words κ))
          new =
              ap (word_of (keys (suc n))) (home_high κ (n + key_words κ) (omega arith))
              ∙ cons4 (ap (keys (suc n)) (nothing (16 + 4 * (n + key_words κ))) ∙ upd_on κ n (omega arith) (keys n) 0 (omega arith)) (upd_on κ n (omega arith) (keys n) 1 (omega arith))
              (upd_on κ n (omega arith) (keys n) 2 (omega arith)) (upd_on κ n (omega arith) (keys n) 3 (omega arith))
              ∙ listed (word_out κ (n + key_words κ) (keys n)) out

  -- ---- the ends
  abbrev final : ℕ → ℕ
  final = leave_upd κ (keys (added κ))

  abbrev end : Lane
  end = run_plan inv (schedule_plan κ) σ

  shown_final : Shown (free κ) end shows final
  shown_final =
      subst (λ τ. Shown (free κ) τ shows final) (sym (run_append inv (words_to κ (added κ)) (leave_plan κ) σ))
      (key_stage inv κ (leave_plan κ) (leave_steps E κ) (leave_upd κ) (leave_ok E κ) (run_plan inv (words_to κ (added κ)) σ) shows (keys (added κ)) (shown_after (added κ) (omega arith)))

  leave_off : (j : ℕ) → (j < 16 * (rounds κ + 1)) ⊎ (16 * (rounds κ + 2) ≤ j) → final j ≡ keys (added κ) j
  leave_off j h = ap (λ (q : Bool). cond q (from_coordinates (keys (added κ) j)) (keys (added κ) j)) (off_range (16 * (rounds κ + 1)) (16 * (rounds κ + 2)) j h)

  leave_on : (j : ℕ) → 16 * (rounds κ + 1) ≤ j → j < 16 * (rounds κ + 2) → final j ≡ from_coordinates (keys (added κ) j)
  leave_on j lo hi = ap (λ (q : Bool). cond q (from_coordinates (keys (added κ) j)) (keys (added κ) j)) (in_range (16 * (rounds κ + 1)) (16 * (rounds κ + 2)) j lo hi)

  -- the bytes that no word is written to
  untouched : (n : ℕ) → n ≤ added κ → (j : ℕ) → (j < 32) ⊎ (16 * (rounds κ + 2) ≤ j) → j < free κ → keys n j ≡ shows j
  unfolding keys
  untouched zero hn j far low =
      ap (λ (q : Bool). cond q (to_coordinates (shows (j - free κ + 16))) (cond (within 32 (16 + key_bytes κ) j) (to_coordinates (shows (j - 32 + 16 * (rounds κ + 2)))) (shows j)))
      (off_range (free κ) (free κ + 16) j (inl low))
      ∙ ap (λ (q : Bool). cond q (to_coordinates (shows (j - 32 + 16 * (rounds κ + 2)))) (shows j)) (off_range 32 (16 + key_bytes κ) j (away far))
    where
      away : (j < 32) ⊎ (16 * (rounds κ + 2) ≤ j) → (j < 32) ⊎ (16 + key_bytes κ ≤ j)
      away (inl h) = inl h
      away (inr h) = inr (omega (arith, L.few, L.bytes, L.many))
  untouched (suc n) hn j far low = upd_off κ n (omega arith) (keys n) j (away far) ∙ untouched n (omega arith) j far low
    where
      away : (j < 32) ⊎ (16 * (rounds κ + 2) ≤ j) → (j < 16 + 4 * (n + key_words κ)) ⊎ (20 + 4 * (n + key_words κ) ≤ j)
      away (inl h) = inl (omega (arith, L.words))
      away (inr h) = inr (omega (arith, L.all))

  kept_byte : (j : ℕ) → (j < 32) ⊎ (16 * (rounds κ + 2) ≤ j) → j < free κ → final j ≡ shows j
  kept_byte j far low = leave_off j (away far) ∙ untouched (added κ) (omega arith) j far low
    where
      away : (j < 32) ⊎ (16 * (rounds κ + 2) ≤ j) → (j < 16 * (rounds κ + 1)) ⊎ (16 * (rounds κ + 2) ≤ j)
      away (inl h) = inl (omega (arith, L.many))
      away (inr h) = inr h

  -- byte j of round key n, in coordinates
  key_there : (n j : ℕ) → 1 ≤ n → n ≤ rounds κ → j < 16 → keys (added κ) (16 * (n + 1) + j) ≡ to_coordinates (round_key_byte (key_words κ) k n j)
  key_there n j lo hi hj =
      ap (keys (added κ)) (sum (home_high κ (4 * n + j / 4) (omega arith)))
      ∙ byte_in_lem (keys (added κ)) (home κ (4 * n + j / 4)) (W (4 * n + j / 4)) (four_at (4 * n + j / 4)) (there_after (added κ) (omega arith) (4 * n + j / 4) (omega (arith, L.all))) (j % 4) (omega arith)
    where
      sum : home κ (4 * n + j / 4) ≡ 16 + 4 * (4 * n + j / 4) → 16 * (n + 1) + j ≡ home κ (4 * n + j / 4) + j % 4
      sum e = omega arith

  key_small : (n j : ℕ) → j < 16 → round_key_byte (key_words κ) k n j < 256
  key_small n j h = (four_at (4 * n + j / 4)).small (j % 4) (omega arith)

  key_zero : (j : ℕ) → j < 16 → k j ≡ round_key_byte (key_words κ) k 0 j
  key_zero j h = sym (ap (λ (w : Word). get_or w (j % 4) 0) (first_words (key_words κ) (omega (arith, L.words)) k (4 * 0 + j / 4) (omega (arith, L.words)))
      ∙ key_byte_lem k (4 * 0 + j / 4) (j % 4) (omega arith) ∙ ap k (there j))
    where
      there : (j : ℕ) → 4 * (4 * 0 + j / 4) + j % 4 ≡ j
      there j = omega arith

  read : (n j : ℕ) → n ≤ rounds κ → j < 16 → byte_of end (key n j) ≡ final (16 * (n + 1) + j)
  read n j hn hj = byte_read (free κ) end shows final shown_final (16 * (n + 1) + j) (omega arith) (omega (arith, L.room))

  byte_of_lem : (n j : ℕ) → n ≤ rounds κ → j < 16 → (n ≡ 0) ⊎ (n ≡ 0 → ⊥) → (n ≡ rounds κ) ⊎ (n ≡ rounds κ → ⊥) → key_value κ n (byte_of end (key n j)) ≡ round_key_byte (key_words κ) k n j
  byte_of_lem n j hn hj (inl first) q =
      subst (λ (x : ℕ). key_value κ x (byte_of end (key x j)) ≡ round_key_byte (key_words κ) k x j) (sym first)
      (read 0 j (omega arith) hj ∙ kept_byte (16 + j) (inl (omega arith)) (omega (arith, L.room)) ∙ raw_low j hj ∙ key_zero j hj)
  byte_of_lem n j hn hj (inr p) (inl last) =
      subst (λ (x : ℕ). key_value κ x (byte_of end (key x j)) ≡ round_key_byte (key_words κ) k x j) (sym last)
      (last_value κ (byte_of end (key (rounds κ) j))
      ∙ read (rounds κ) j (omega arith) hj ∙ leave_on (16 * (rounds κ + 1) + j) (omega arith) (omega arith)
      ∙ ap from_coordinates (key_there (rounds κ) j (omega (arith, L.many)) (omega arith) hj) ∙ from_to (round_key_byte (key_words κ) k (rounds κ) j) (key_small (rounds κ) j hj))
  byte_of_lem n j hn hj (inr p) (inr q) =
      between_value κ n (byte_of end (key n j)) (omega arith) (omega arith)
      ∙ ap from_coordinates (read n j hn hj ∙ leave_off (16 * (n + 1) + j) (inl (omega arith)) ∙ key_there n j (omega arith) hn hj)
      ∙ from_to (round_key_byte (key_words κ) k n j) (key_small n j hj)

  keys_are : (n : ℕ) → n ≤ rounds κ → keys_of κ end n ≡ sixteen (round_key_byte (key_words κ) k n)
  keys_are n hn = map_below (λ j. key_value κ n (byte_of end (key n j))) (round_key_byte (key_words κ) k n) 0 16 (λ j lo hi. byte_of_lem n j hn (omega arith) (cases_eq n 0) (cases_eq n (rounds κ)))

  same_bit : (r : ℕ) → (r < 256) ⊎ (128 * (rounds κ + 2) ≤ r) → r < 8 * free κ → end r ≡ σ r
  same_bit r far low = bit_kept σ end r (go (cases_lt (r / 8) 16))
    where
      away : (r < 256) ⊎ (128 * (rounds κ + 2) ≤ r) → (r / 8 < 32) ⊎ (16 * (rounds κ + 2) ≤ r / 8)
      away (inl h) = inl (omega arith)
      away (inr h) = inr (omega arith)

      go : (r / 8 < 16) ⊎ (16 ≤ r / 8) → Shows end (r / 8) (some (shows (r / 8)))
      go (inl h) = shown_final.0 (r / 8) h
      go (inr h) = subst (λ (v : ℕ). Shows end (r / 8) (some v)) (kept_byte (r / 8) (away far) (omega arith)) (shown_final.1 (r / 8) h (omega arith))

pub schedule_stands_lem : (inv : List ℕ) → Inverts inv → (κ : KeyKind) → ScheduleStands inv κ
schedule_stands_lem inv E κ σ = (
  (λ n hn. keys_are inv E κ σ n hn ∙ key_listed κ σ n),
  (λ r h. same_bit inv E κ σ r (inl h) (let room = (layout κ).room in let many = (layout κ).many in omega arith)),
  (λ r lo hi. same_bit inv E κ σ r (inr (omega arith)) hi),
)
