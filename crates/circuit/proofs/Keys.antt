-- The round keys that a lane shows. Assumes nothing.
use Rattle.std.proofs.Common.{◌≡◌, ℕ, suc, ◌+◌, ◌-◌, ◌*◌, ◌<◌, ◌≤◌, Bool, true, false, cond, ◌||◌, eqb, map, sym, refl, ap, ◌∙◌, ap₂, arith}
use Rattle.std.proofs.lemmas.Bool.{ne_eqb, eq-eqb}
use Rattle.standard.specs.Kinds.{KeyKind, aes128, rounds}
use Rattle.coordinates.specs.Coordinates.{to_coordinates, from_coordinates}
use Rattle.plans.specs.Layout.{key}
use Rattle.circuit.specs.Lanes.{Lane}
use Rattle.standard.specs.Bits.{byte_of}
use Rattle.circuit.specs.Claims.{key_value, keys_of}
use Rattle.standard.proofs.Tests.{tests, small_below}
use Rattle.circuit.proofs.Round.{key_bytes_at}
use Rattle.coordinates.proofs.CoordinateLaws.{to_from}
use Rattle.standard.proofs.ByteLaws.{byte_of_small, map_below}
use Rattle.circuit.proofs.Staged.{raw}

from_byte : (v : ℕ) → v < 256 → from_coordinates v < 256
unfolding tests from_coordinates
from_byte = small_below from_coordinates 256 256 tt

or_same : (x : Bool) → (x || true) ≡ true
or_same true = refl
or_same false = refl

pub last_value : (κ : KeyKind) (v : ℕ) → key_value κ (rounds κ) v ≡ v
last_value κ v = ap (λ (q : Bool). cond (eqb (rounds κ) 0 || q) v (from_coordinates v)) (eq-eqb (rounds κ) (rounds κ) refl) ∙ ap (λ (q : Bool). cond q v (from_coordinates v)) (or_same (eqb (rounds κ) 0))

pub between_value : (κ : KeyKind) (n v : ℕ) → 1 ≤ n → n < rounds κ → key_value κ n v ≡ from_coordinates v
between_value κ n v lo hi =
    ap₂ (λ (p q : Bool). cond (p || q) v (from_coordinates v)) (ne_eqb n 0 (λ e. omega arith)) (ne_eqb n (rounds κ) (λ e. omega arith))

module _ (κ : KeyKind) (σ : Lane) where
  abbrev pub key_byte : ℕ → ℕ → ℕ
  key_byte n j = key_value κ n (byte_of σ (key n j))

  pub key_small : (n j : ℕ) → key_byte n j < 256
  key_small n j = go (eqb n 0 || eqb n (rounds κ)) (byte_of σ (key n j)) (byte_of_small σ (key n j))
    where
      go : (q : Bool) (v : ℕ) → v < 256 → cond q v (from_coordinates v) < 256
      go true v h = h
      go false v h = from_byte v h

  pub key_last : key_bytes_at (raw σ) (rounds κ) ≡ keys_of κ σ (rounds κ)
  key_last = map_below (λ j. raw σ (16 * (rounds κ + 1) + j)) (key_byte (rounds κ)) 0 16 (λ j lo hi. sym (last_value κ (raw σ (16 * (rounds κ + 1) + j))))

  pub key_between : (n : ℕ) → 1 ≤ n → n < rounds κ → key_bytes_at (raw σ) n ≡ map to_coordinates (keys_of κ σ n)
  key_between n lo hi =
      map_below (λ j. raw σ (16 * (n + 1) + j)) (λ j. to_coordinates (key_byte n j)) 0 16
      (λ j l h. sym (ap to_coordinates (between_value κ n (raw σ (16 * (n + 1) + j)) lo hi) ∙ to_from (raw σ (16 * (n + 1) + j)) (byte_of_small σ (8 * (16 * (n + 1) + j)))))

pub some_rounds : (κ : KeyKind) → rounds κ ≡ suc (rounds κ - 1)
some_rounds aes128 = refl
