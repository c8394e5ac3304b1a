-- What the three plans do to the bytes of every lane. Assumes nothing.
use Rattle.std.proofs.Common.{◌≡◌, ℕ, ◌+◌, ◌<◌, ◌≤◌, true, List, [], ◌∷◌, map, Some, None, Ok, Option, sym, refl, ap, ◌∙◌, subst, arith}
use Rattle.std.proofs.lemmas.Bool.{le-ltb, cond_both}
use Rattle.standard.specs.Cipher.{Cipher, InvCipher}
use Rattle.standard.specs.Kinds.{rounds}
use Rattle.standard.specs.States.{State, RoundKeys}
use Rattle.standard.proofs.StateLaws.{sixteen_state}
use Rattle.standard.proofs.Rounds.{inv_cipher_cipher, cipher_inv_cipher}
use Rattle.coordinates.specs.Coordinates.{from_coordinates}
use Rattle.coordinates.proofs.CoordinateLaws.{from_byte}
use Rattle.bench.specs.declared.faults.Fault.{Fault}
use Rattle.bench.specs.declared.gates.Gate.{Gate}
use Rattle.bench.specs.Model.{Model, gated}
use Rattle.bench.specs.Gates.{ran}
use Rattle.player.specs.Pages.{sockets_in, gates_of}
use Rattle.player.specs.Plays.{played, placed}
use Rattle.plans.specs.declared.plays.Play.{Play}
use Rattle.plans.specs.Layout.{at, key}
use Rattle.plans.specs.Pages.{own_inverter}
use Rattle.plans.specs.Plays.{page_of, bases_of, do_play, planned}
use Rattle.plans.specs.Plans.{schedule_plan, seal_plan, open_plan}
use Rattle.plans.proofs.Accepted.{registers_after, plan_falls}
use Rattle.plans.proofs.Counts.{own_whole}
use Rattle.circuit.specs.Lanes.{lane_of}
use Rattle.standard.specs.Bits.{byte_of}
use Rattle.circuit.specs.Claims.{key_value}
use Rattle.standard.proofs.ByteLaws.{byte_of_small}
use Rattle.circuit.proofs.Inverter.{own_inverts}
use Rattle.cipher.specs.Claims.{plan_answer}
use Rattle.cipher.proofs.Stood.{schedules, seals, opens, stages_stand}
use Rattle.unit.specs.View.{Shape}
use Rattle.unit.specs.Works.{kind, worked, gates_of_plan}
use Rattle.unit.specs.Lanes.{state_of, round_shown, KeysStay, Expanded, Enciphered, Deciphered, Staged, EveryLane}
use Rattle.unit.specs.Answers.{fits}
use Rattle.unit.proofs.Bytes.{same_state, same_rounds, same_key}
use Rattle.standard.proofs.Loops.{same_cipher, same_inv_cipher}

-- ---- the size of a bench, and its gates, after a plan

ran_lanes : (gs : List Gate) (m : Model) → (ran gs m).lanes ≡ m.lanes
unfolding gated
ran_lanes [] m = refl
ran_lanes (g ∷ gs) m = ran_lanes gs (gated g.kind g.target g.first g.second m)

lanes_after : (inv : List ℕ) (p : Play) (m : Model) → (do_play inv p m).lanes ≡ m.lanes
unfolding played
lanes_after inv p m = ran_lanes (map (placed (sockets_in (page_of inv p)) (bases_of p)) (gates_of (page_of inv p))) m

pub planned_registers : (inv : List ℕ) (ps : List Play) (m : Model) → (planned inv ps m).registers ≡ m.registers
unfolding planned
planned_registers inv [] m = refl
planned_registers inv (p ∷ ps) m = planned_registers inv ps (do_play inv p m) ∙ registers_after (page_of inv p) (bases_of p) m

pub planned_lanes : (inv : List ℕ) (ps : List Play) (m : Model) → (planned inv ps m).lanes ≡ m.lanes
unfolding planned
planned_lanes inv [] m = refl
planned_lanes inv (p ∷ ps) m = planned_lanes inv ps (do_play inv p m) ∙ lanes_after inv p m

pub worked_falls : (plan : List Play) (m : Model) → gates_of_plan plan ≤ m.left → (worked plan m).left + gates_of_plan plan ≡ m.left
worked_falls plan m h = plan_falls own_inverter own_whole plan m h

-- ---- what a lane shows are bytes

pub state_bytes : (m : Model) (l : ℕ) → State (state_of m l)
state_bytes m l = sixteen_state (λ j. byte_of (lane_of m l) (at j)) (λ j. byte_of_small (lane_of m l) (at j))

key_byte_lem : (n v : ℕ) → v < 256 → key_value kind n v < 256
key_byte_lem n v h = cond_both _ v (from_coordinates v) (λ x. x < 256) (λ e. h) (λ e. from_byte v h)

pub round_bytes : (m : Model) (l : ℕ) → RoundKeys (round_shown m l)
round_bytes m l n = sixteen_state (λ j. key_value kind n (byte_of (lane_of m l) (key n j))) (λ j. key_byte_lem n (byte_of (lane_of m l) (key n j)) (byte_of_small (lane_of m l) (key n j)))

-- ---- the plans

keys_stay : (m m' : Model) (l : ℕ) → ((r : ℕ) → 128 ≤ r → r < 1536 → m'.bit r l ≡ m.bit r l) → KeysStay m m' l
keys_stay m m' l e = record { key = same_key m' m l (λ r lo hi. e r lo (omega arith)); all = same_rounds m' m l e }

pub plan_expands : (m : Model) (l : ℕ) → l < m.lanes → Expanded m (worked (schedule_plan kind) m) l
plan_expands m l h =
    let m' : Model = worked (schedule_plan kind) m in
    let d = schedules own_inverter own_inverts kind m m' refl l h in
    record {
      all = d.0;
      state = same_state m' m l (λ r hi. d.1 r (omega arith));
      key = same_key m' m l (λ r lo hi. d.1 r hi);
    }

seal_does : (m : Model) (l : ℕ) → l < m.lanes → (state_of (worked (seal_plan kind) m) l ≡ Cipher (rounds kind) (state_of m l) (round_shown m l)) × KeysStay m (worked (seal_plan kind) m) l
seal_does m l h =
    let d = seals own_inverter own_inverts kind m (worked (seal_plan kind) m) refl l h in
    (d.0, keys_stay m (worked (seal_plan kind) m) l d.1)

open_does : (m : Model) (l : ℕ) → l < m.lanes → (state_of (worked (open_plan kind) m) l ≡ InvCipher (rounds kind) (state_of m l) (round_shown m l)) × KeysStay m (worked (open_plan kind) m) l
open_does m l h =
    let d = opens own_inverter own_inverts kind m (worked (open_plan kind) m) refl l h in
    (d.0, keys_stay m (worked (open_plan kind) m) l d.1)

after_plan : (plan : List Play) (m : Model) (l : ℕ) → l < m.lanes → l < (worked plan m).lanes
after_plan plan m l h = subst (λ n. l < n) (sym (planned_lanes own_inverter plan m)) h

pub plan_enciphers : (m : Model) (l : ℕ) → l < m.lanes → Enciphered m (worked (seal_plan kind) m) l
plan_enciphers m l h =
    let m' : Model = worked (seal_plan kind) m in
    let d = seal_does m l h in
    record {
      state = d.0;
      keys = d.1;
      undone = (open_does m' l (after_plan (seal_plan kind) m l h)).0
          ∙ ap (λ (x : List ℕ). InvCipher (rounds kind) x (round_shown m' l)) d.0
          ∙ same_inv_cipher (rounds kind) (Cipher (rounds kind) (state_of m l) (round_shown m l)) (round_shown m' l) (round_shown m l) d.1.all
          ∙ inv_cipher_cipher (rounds kind) (omega arith) (state_of m l) (round_shown m l) (state_bytes m l) (round_bytes m l);
    }

pub plan_deciphers : (m : Model) (l : ℕ) → l < m.lanes → Deciphered m (worked (open_plan kind) m) l
plan_deciphers m l h =
    let m' : Model = worked (open_plan kind) m in
    let d = open_does m l h in
    record {
      state = d.0;
      keys = d.1;
      undone = (seal_does m' l (after_plan (open_plan kind) m l h)).0
          ∙ ap (λ (x : List ℕ). Cipher (rounds kind) x (round_shown m' l)) d.0
          ∙ same_cipher (rounds kind) (InvCipher (rounds kind) (state_of m l) (round_shown m l)) (round_shown m' l) (round_shown m l) d.1.all
          ∙ cipher_inv_cipher (rounds kind) (omega arith) (state_of m l) (round_shown m l) (state_bytes m l) (round_bytes m l);
    }

pub plan_stages : (m : Model) (l : ℕ) → l < m.lanes → Staged m l
plan_stages m l h n le = stages_stand own_inverter own_inverts kind m l n h le

-- ---- where the unit's questions are answered yes the plan is accepted, and every lane has what it gives

pub plan_accepted : (s : Shape) (m : Model) (plan : List Play) → m.registers ≡ s.registers → m.lanes ≡ s.lanes → fits s ≡ true → gates_of_plan plan ≤ m.left → plan_answer own_inverter kind plan m ≡ Ok tt
plan_accepted s m plan r l f h =
    let t = le-ltb m.left (gates_of_plan plan) h in
    let q = (λ i. fits (record { registers = r i; lanes = l i; left = s.left; records = s.records })) ∙ f in
    rw (q, t)

pub every_lane : (o : Option Fault) (m m' done : Model) (P : Model → ℕ → Type 0) → o ≡ None → m' ≡ done → ((l : ℕ) → l < m.lanes → P done l) → EveryLane o m (P m')
every_lane None m m' done P e d h = λ l lt. subst (λ (x : Model). P x l) (sym d) (h l lt)
every_lane (Some f) m m' done P e d h = tt

pub no_lane : (o : Option Fault) (f : Fault) (m : Model) (P : ℕ → Type 0) → o ≡ Some f → EveryLane o m P
no_lane None f m P e = let z : ◌≡◌ {A = ℕ} 0 1 = cc in absurd (omega arith)
no_lane (Some g) f m P e = tt
