-- The gates of a page, the first before the others. Assumes nothing.
use Rattle.std.proofs.Common.{◌≡◌, ℕ, zero, suc, ◌+◌, ◌*◌, ◌<◌, ◌≤◌, Bool, true, ◌&&◌, ltb, List, [], ◌∷◌, map, length, drop, get_or, sym, refl, ap, ◌∙◌, subst, ap₂, arith}
use Rattle.std.proofs.lemmas.List.{get_or-drop}
use Rattle.std.proofs.lemmas.Bool.{and_parts, ltb-true}
use Rattle.std.specs.Int.{from_be_bytes}
use Rattle.std.specs.Simd.{first_chunks}
use mir.Syntax.{w16}
use Rattle.std.specs.List.{range_with_len, list_all, AllByRecursion as All}
use Rattle.bench.specs.declared.gates.Gate.{Gate}
use Rattle.player.specs.Pages.{kind_at, pair, numbers_in, numbers_below, gate_at, gates_from}
use Rattle.player.specs.Plays.{Within}

module _ (k t1 t0 a1 a0 b1 b0 : ℕ) (ks ps : List ℕ) where
  abbrev kinds : List ℕ
  kinds = k ∷ ks

  abbrev places : List ℕ
  places = t1 ∷ t0 ∷ a1 ∷ a0 ∷ b1 ∷ b0 ∷ ps

  byte_past : (n m : ℕ) → n ≡ 6 + m → get_or places n 0 ≡ get_or ps m 0
  byte_past n m e = ap (λ i. get_or places i 0) e ∙ sym (get_or-drop 6 places m 0)

  pair_past : (n m : ℕ) → n ≡ 6 + m → pair places n ≡ pair ps m
  pair_past n m e = ap₂ (λ x y. x * 256 + y) (byte_past n m e) (byte_past (n + 1) (m + 1) (omega (arith, e)))

  kind_past : (i : ℕ) → get_or kinds (i + 1) 0 ≡ get_or ks i 0
  kind_past i = ap (λ n. get_or kinds n 0) (omega arith) ∙ sym (get_or-drop 1 kinds i 0)

  gate_past : (i : ℕ) → gate_at kinds places (i + 1) ≡ gate_at ks ps i
  gate_past i = λ j. record {
    kind = kind_at (kind_past i j);
    target = pair_past (6 * (i + 1)) (6 * i) (omega arith) j;
    first = pair_past (6 * (i + 1) + 2) (6 * i + 2) (omega arith) j;
    second = pair_past (6 * (i + 1) + 4) (6 * i + 4) (omega arith) j;
  }

  gates_past : (n i : ℕ) → map (gate_at kinds places) (range_with_len (i + 1) n) ≡ map (gate_at ks ps) (range_with_len i n)
  gates_past zero i = refl
  gates_past (suc n) i = ap₂ (λ g gs. g ∷ gs) (gate_past i) (gates_past n (i + 1))

  abbrev pub first_gate : Gate
  first_gate = record { kind = kind_at k; target = t1 * 256 + t0; first = a1 * 256 + a0; second = b1 * 256 + b0 }

  pub gates_more : gates_from kinds places ≡ first_gate ∷ gates_from ks ps
  unfolding gates_from
  gates_more = ap (λ gs. first_gate ∷ gs) (gates_past (length ks) 0)

pub gates_none : (kinds places : List ℕ) → length kinds < 1 → gates_from kinds places ≡ []
unfolding gates_from
gates_none [] places h = refl
gates_none (k ∷ ks) places h = absurd (omega arith)

-- the first gate, by the bytes at the front of both arrays
abbrev pub gate_in_front : List ℕ → List ℕ → Gate
gate_in_front kinds places = record {
  kind = kind_at (get_or kinds 0 0);
  target = get_or places 0 0 * 256 + get_or places 1 0;
  first = get_or places 2 0 * 256 + get_or places 3 0;
  second = get_or places 4 0 * 256 + get_or places 5 0;
}

pub gates_split : (kinds places : List ℕ) → 1 ≤ length kinds → 6 ≤ length places → gates_from kinds places ≡ gate_in_front kinds places ∷ gates_from (drop 1 kinds) (drop 6 places)
gates_split (k ∷ ks) (t1 ∷ t0 ∷ a1 ∷ a0 ∷ b1 ∷ b0 ∷ ps) p q = gates_more k t1 t0 a1 a0 b1 b0 ks ps
gates_split [] places p q = absurd (omega arith)
gates_split (k ∷ ks) [] p q = absurd (omega arith)
gates_split (k ∷ ks) (x ∷ []) p q = absurd (omega arith)
gates_split (k ∷ ks) (x ∷ y ∷ []) p q = absurd (omega arith)
gates_split (k ∷ ks) (x ∷ y ∷ z ∷ []) p q = absurd (omega arith)
gates_split (k ∷ ks) (x ∷ y ∷ z ∷ u ∷ []) p q = absurd (omega arith)
gates_split (k ∷ ks) (x ∷ y ∷ z ∷ u ∷ v ∷ []) p q = absurd (omega arith)

-- where all numbers are below a bound, so are those of each gate
module _ (bound : ℕ) where
  abbrev low : ℕ → Bool
  low n = ltb n bound

  pub gates_within : (kinds places : List ℕ) → length places ≡ 6 * length kinds → numbers_below places bound ≡ true → All (Within bound) (gates_from kinds places)
  unfolding numbers_below
  gates_within [] places p h = subst (All (Within bound)) (sym (gates_none [] places (omega arith))) tt
  gates_within (k ∷ ks) (t1 ∷ t0 ∷ a1 ∷ a0 ∷ b1 ∷ b0 ∷ ps) p h =
      let others = numbers_in ps in
      let t = and_parts (low (t1 * 256 + t0)) (low (a1 * 256 + a0) && (low (b1 * 256 + b0) && list_all low others)) h in
      let a = and_parts (low (a1 * 256 + a0)) (low (b1 * 256 + b0) && list_all low others) t.1 in
      let b = and_parts (low (b1 * 256 + b0)) (list_all low others) a.1 in
      subst (All (Within bound)) (sym (gates_more k t1 t0 a1 a0 b1 b0 ks ps)) (
        (ltb-true (t1 * 256 + t0) bound t.0, (ltb-true (a1 * 256 + a0) bound a.0, ltb-true (b1 * 256 + b0) bound b.0)),
        gates_within ks ps (omega (arith, p)) b.1,
      )
  gates_within (k ∷ ks) [] p h = absurd (omega (arith, p))
  gates_within (k ∷ ks) (x ∷ []) p h = absurd (omega (arith, p))
  gates_within (k ∷ ks) (x ∷ y ∷ []) p h = absurd (omega (arith, p))
  gates_within (k ∷ ks) (x ∷ y ∷ z ∷ []) p h = absurd (omega (arith, p))
  gates_within (k ∷ ks) (x ∷ y ∷ z ∷ u ∷ []) p h = absurd (omega (arith, p))
  gates_within (k ∷ ks) (x ∷ y ∷ z ∷ u ∷ v ∷ []) p h = absurd (omega (arith, p))

-- the numbers, in chunks of two bytes
pub chunks_below : (bound n : ℕ) (places : List ℕ) → 2 * n ≤ length places → length places < 2 * n + 2
    → list_all (λ number. ltb (from_be_bytes w16 number) bound) (first_chunks 2 n places) ≡ list_all (λ number. ltb number bound) (numbers_in places)
chunks_below bound zero [] p q = refl
chunks_below bound zero (x ∷ []) p q = refl
chunks_below bound zero (x ∷ y ∷ rest) p q = absurd (omega arith)
chunks_below bound (suc n) [] p q = absurd (omega arith)
chunks_below bound (suc n) (x ∷ []) p q = absurd (omega arith)
chunks_below bound (suc n) (x ∷ y ∷ rest) p q = ap (λ b. ltb (x * 256 + y) bound && b) (chunks_below bound n rest (omega (arith, p)) (omega (arith, q)))
