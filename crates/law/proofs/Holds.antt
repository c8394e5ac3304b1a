-- A unit beside the book: what the registers of a lane show, by its record. Assumes nothing.
use Rattle.std.proofs.Common.{◌≡◌, ℕ, zero, suc, ◌+◌, ◌*◌, ◌<◌, ◌≤◌, Bool, true, false, cond, not, ◌&&◌, eqb, List, [], ◌∷◌, length, get_or, set, replicate, Some, None, Option, sym, refl, ap, ◌∙◌, subst, ap₂, inl, inr, ⊎_elim, arith}
use Rattle.std.proofs.lemmas.List.{length-set, length-map, length-replicate, get_or-replicate, get_or_past, get_or-set_same, get_or-set_other, get_or-map}
use Rattle.std.proofs.lemmas.Bool.{eq-eqb, ne_eqb, cases_eq, cases_lt, true≢false}
use Rattle.standard.specs.Cipher.{Cipher, InvCipher}
use Rattle.standard.specs.Kinds.{rounds, round_key, encrypted, decrypted, key_bytes}
use Rattle.bench.specs.declared.faults.Fault.{Fault}
use Rattle.bench.specs.Model.{Model, Memory}
use Rattle.lane.specs.Spans.{shown_at, laid, bits_of, zeroed}
use Rattle.lane.proofs.Shown.{laid_other, laid_outside, laid_shown}
use Rattle.plans.specs.Plans.{schedule_plan, seal_plan, open_plan}
use Rattle.plans.specs.Pages.{own_inverter}
use Rattle.lanetable.specs.declared.records.KeyState.{KeyState}
use Rattle.lanetable.specs.declared.records.KeyState.TheVariants.{Absent, Placed, Scheduled}
use Rattle.lanetable.specs.declared.records.LaneRecord.{LaneRecord}
use Rattle.lanetable.specs.Records.{empty, promoted, promotes, is_scheduled, unready, lowest_from}
use Rattle.unit.specs.Works.{kind, worked, S, O}
use Rattle.unit.specs.View.{View, Shape, shape, made}
use Rattle.unit.specs.Lanes.{state_of, key_of, round_shown}
use Rattle.unit.specs.Answers.{given, settled}
use Rattle.unit.proofs.Bytes.{shown_state, shown_key, same_state, same_key, same_rounds}
use Rattle.standard.proofs.Loops.{same_cipher, same_inv_cipher}
use Rattle.unit.proofs.Planned.{planned_lanes, plan_expands, plan_enciphers, plan_deciphers}
use Rattle.unit.proofs.Settled.{naming_tells, placing_tells, scheduling_tells, working_tells}
use Rattle.law.specs.Calls.{Asked, place_key, place_block, clear, schedule, seal, unseal, read, accepted, told, refusal, performed, next, done, filled}
pub use Rattle.law.specs.Sound.{Sound, AllSound}
use Rattle.law.specs.Book.{Page, Book, blank, through, wrote, entered}

-- ---- the invariant

abbrev pub HoldsKey : KeyState → List ℕ → (ℕ → List ℕ) → Option (List ℕ) → Type 0
HoldsKey Absent k w p = Unit {0}
HoldsKey Placed k w p = p ≡ Some k
HoldsKey Scheduled k w p = (p ≡ Some k) × ((n : ℕ) → n ≤ rounds kind → w n ≡ round_key kind k n)

abbrev pub HoldsBlock : Bool → List ℕ → Option (List ℕ) → Type 0
HoldsBlock true st p = p ≡ Some st
HoldsBlock false st p = Unit {0}

abbrev pub HoldsAt : LaneRecord → Model → ℕ → Page → Type 0
HoldsAt r m l p = HoldsKey r.key (key_of m l) (round_shown m l) p.key × HoldsBlock r.block (state_of m l) p.block

pub record Holds (v : View) (b : Book) : Type 0 where
  pub size : length v.records ≡ 128
  pub lane : (l : ℕ) → l < v.model.lanes → HoldsAt (get_or v.records l empty) v.model l (b l)

-- at the making
empty_at : (l : ℕ) → get_or (replicate 128 empty) l empty ≡ empty
empty_at l =
    ⊎_elim (λ lt. get_or-replicate 128 l empty empty lt) (λ le. get_or_past (replicate 128 empty) l empty (subst (λ n. n ≤ l) (sym (length-replicate 128 empty)) le)) (cases_lt l 128)

pub made_holds : (m : Model) (x : Memory) → Holds (made m x) blank
made_holds m x = record {
  size = length-replicate 128 empty;
  lane = λ l lt.
      let P : LaneRecord → Type 0 = λ r. HoldsAt r m l (blank l) in
      subst P (sym (empty_at l)) (tt, tt);
}

-- ---- records

none_else : {X : Type 0} (t : Bool) (x : X) (o : Option X) → cond t (Some x) o ≡ None → (t ≡ false) × (o ≡ None)
none_else true x o e = let z : ◌≡◌ {A = ℕ} 0 1 = cc in absurd (omega arith)
none_else false x o e = (refl, e)

all_ready : (n : ℕ) (rs : List LaneRecord) (l : ℕ) → lowest_from n rs ≡ None → unready (get_or rs l empty) ≡ false
all_ready n [] l e = refl
all_ready n (r ∷ rs) zero e = (none_else (unready r) n _ e).0
all_ready n (r ∷ rs) (suc l) e = all_ready (n + 1) rs l (none_else (unready r) n _ e).1

-- one lane's record changed
changed : (rs : List LaneRecord) (lane l : ℕ) (r : LaneRecord) (P : LaneRecord → Bool → Type 0) → lane < length rs → (l ≡ lane → P r true) → ((l ≡ lane → ⊥) → P (get_or rs l empty) false)
    → P (get_or (set rs lane r) l empty) (eqb l lane)
changed rs lane l r P lt here other =
    ⊎_elim
    (λ e.
    let same : get_or (set rs lane r) l empty ≡ r = ap (λ n. get_or (set rs lane r) n empty) e ∙ get_or-set_same rs lane r empty lt in
    let A : LaneRecord → Type 0 = λ x. P x (eqb l lane) in
    subst A (sym same) (subst (P r) (sym (eq-eqb l lane e)) (here e)))
    (λ ne.
    let A : LaneRecord → Type 0 = λ x. P x (eqb l lane) in
    subst A (sym (get_or-set_other rs lane l r empty ne)) (subst (P (get_or rs l empty)) (sym (ne_eqb l lane ne)) (other ne)))
    (cases_eq l lane)

-- ---- what one lane holds is a matter of its bytes

key_moved : (k : KeyState) (key key' : List ℕ) (w w' : ℕ → List ℕ) (p : Option (List ℕ)) → key ≡ key' → ((n : ℕ) → n ≤ rounds kind → w n ≡ w' n) → HoldsKey k key w p → HoldsKey k key' w' p
key_moved Absent key key' w w' p e f h = tt
key_moved Placed key key' w w' p e f h = h ∙ ap Some e
key_moved Scheduled key key' w w' p e f h = (h.0 ∙ ap Some e, λ n le. sym (f n le) ∙ h.1 n le ∙ ap (λ x. round_key kind x n) e)

block_moved : (t : Bool) (st st' : List ℕ) (p : Option (List ℕ)) → st ≡ st' → HoldsBlock t st p → HoldsBlock t st' p
block_moved true st st' p e h = h ∙ ap Some e
block_moved false st st' p e h = tt

-- a lane whose key registers show the same
key_kept : (k : KeyState) (m m' : Model) (l : ℕ) (p : Option (List ℕ)) → ((r : ℕ) → 128 ≤ r → r < 1536 → m.bit r l ≡ m'.bit r l) → HoldsKey k (key_of m l) (round_shown m l) p → HoldsKey k (key_of m' l) (round_shown m' l) p
key_kept k m m' l p e h =
    key_moved k (key_of m l) (key_of m' l) (round_shown m l) (round_shown m' l) p (same_key m m' l (λ r lo hi. e r lo (omega arith))) (same_rounds m m' l e) h

block_kept : (t : Bool) (m m' : Model) (l : ℕ) (p : Option (List ℕ)) → ((r : ℕ) → r < 128 → m.bit r l ≡ m'.bit r l) → HoldsBlock t (state_of m l) p → HoldsBlock t (state_of m' l) p
block_kept t m m' l p e h = block_moved t (state_of m l) (state_of m' l) p (same_state m m' l e) h

-- another lane than the one laid
lane_kept : (base n lane : ℕ) (f : ℕ → Bool) (r : LaneRecord) (m : Model) (l : ℕ) (p : Page) → (l ≡ lane → ⊥) → HoldsAt r m l p → HoldsAt r (laid base n lane f m) l p
lane_kept base n lane f r m l p ne h =
    let e : (r : ℕ) → m.bit r l ≡ (laid base n lane f m).bit r l = λ r. sym (laid_other base n lane f m r l ne) in
    (key_kept r.key m (laid base n lane f m) l p.key (λ r lo hi. e r) h.0, block_kept r.block m (laid base n lane f m) l p.block (λ r hi. e r) h.1)

-- ---- one call

promote_holds : (k : KeyState) (key key' : List ℕ) (w w' : ℕ → List ℕ) (p : Option (List ℕ)) → key ≡ key' → ((n : ℕ) → n ≤ rounds kind → w' n ≡ round_key kind key n) → HoldsKey k key w p → HoldsKey (promoted k) key' w' p
promote_holds Absent key key' w w' p e f h = tt
promote_holds Placed key key' w w' p e f h = (h ∙ ap Some e, λ n le. f n le ∙ ap (λ x. round_key kind x n) e)
promote_holds Scheduled key key' w w' p e f h = (h.0 ∙ ap Some e, λ n le. f n le ∙ ap (λ x. round_key kind x n) e)

-- f is by the round keys, and F by the key
turned_block : (f : List ℕ → (ℕ → List ℕ) → List ℕ) (F : List ℕ → List ℕ → List ℕ)
    → ((k b : List ℕ) (w : ℕ → List ℕ) → ((n : ℕ) → n ≤ rounds kind → w n ≡ round_key kind k n) → F k b ≡ f b w)
    → (k : KeyState) (t : Bool) (st key : List ℕ) (w : ℕ → List ℕ) (p q : Option (List ℕ)) → (t && not (is_scheduled k)) ≡ false → HoldsKey k key w p → HoldsBlock t st q
    → HoldsBlock t (f st w) (through F p q)
turned_block f F is k false st key w p q ready h b = tt
turned_block f F is Absent true st key w p q ready h b = absurd (true≢false ready)
turned_block f F is Placed true st key w p q ready h b = absurd (true≢false ready)
turned_block f F is Scheduled true st key w p q ready h b = (λ i. through F (h.0 i) (b i)) ∙ ap Some (is key st w h.1)

by_cipher : (k b : List ℕ) (w : ℕ → List ℕ) → ((n : ℕ) → n ≤ rounds kind → w n ≡ round_key kind k n) → encrypted kind k b ≡ Cipher (rounds kind) b w
unfolding encrypted
by_cipher k b w e = sym (same_cipher (rounds kind) b w (round_key kind k) e)

by_inv_cipher : (k b : List ℕ) (w : ℕ → List ℕ) → ((n : ℕ) → n ≤ rounds kind → w n ≡ round_key kind k n) → decrypted kind k b ≡ InvCipher (rounds kind) b w
unfolding decrypted
by_inv_cipher k b w e = sym (same_inv_cipher (rounds kind) b w (round_key kind k) e)

within : (v : View) (b : Book) (l : ℕ) → Holds v b → l < v.model.lanes → v.model.lanes ≤ 128 → l < length v.records
within v b l h lt le = let s = h.size in omega arith

-- a lane that shows the bytes laid in it
laid_sixteen : (base lane l : ℕ) (bs : List ℕ) (m : Model) → l ≡ lane → length bs ≡ 16 → ((j : ℕ) → get_or bs j 0 < 256) → shown_at (laid base (8 * length bs) lane (bits_of bs) m) base l 16 ≡ bs
laid_sixteen base lane l bs m e n small =
    ap₂ (λ x k. shown_at (laid base (8 * length bs) lane (bits_of bs) m) base x k) e (sym n) ∙ laid_shown base lane bs m small

-- ---- what the book enters of a performed call

enter_done : (bs : List ℕ) (a : Asked) (b : Book) (l : ℕ) → wrote b (filled None bs a) l ≡ wrote b a l
enter_done bs (read lane cs) b l = refl
enter_done bs _ b l = refl

enter_one : (o : Option Fault) (s : Shape) (bs : List ℕ) (a : Asked) (b : Book) (l : ℕ) → cond (accepted (Some (given (told s a) o))) (wrote b (filled o bs a) l) (b l) ≡ settled o (wrote b a l) (b l)
enter_one None s bs a b l = enter_done bs a b l
enter_one (Some f) s bs a b l = refl

pub entered_is : (v : View) (a : Asked) (b : Book) (l : ℕ) → entered b (performed v a) l ≡ settled (refusal (shape v) a) (wrote b a l) (b l)
entered_is v a b l = enter_one (refusal (shape v) a) (shape v) _ a b l

pub done_holds : (v : View) (b : Book) (a : Asked) → Sound a → refusal (shape v) a ≡ None → Holds v b → Holds (done v a) (wrote b a)
unfolding laid
done_holds v b (place_key lane bs) sound e h =
    let t = placing_tells (key_bytes kind) (shape v) lane (length bs) e in
    let m' : Model = laid 128 (8 * length bs) lane (bits_of bs) v.model in
    let n : 8 * length bs ≡ 128 = omega (arith, t.2) in
    record {
      size = length-set v.records lane _ ∙ h.size;
      lane = λ l lt.
          let P : LaneRecord → Bool → Type 0 = λ r y. HoldsAt r m' l (cond y (record { key = Some bs; block = (b l).block }) (b l)) in
          changed v.records lane l _ P (within v b lane h t.1 t.0.few)
          (λ q. (
            ap Some (sym (sym (shown_key m' l) ∙ laid_sixteen 128 lane l bs v.model q t.2 sound)),
            block_kept (get_or v.records lane empty).block v.model m' l (b l).block (λ r hi. sym (laid_outside 128 (8 * length bs) lane (bits_of bs) v.model r l (inl hi)))
                (subst (λ (r : LaneRecord). HoldsBlock r.block (state_of v.model l) (b l).block) (ap (λ n. get_or v.records n empty) q) (h.lane l lt).1),
          ))
          (λ ne. lane_kept 128 (8 * length bs) lane (bits_of bs) _ v.model l (b l) ne (h.lane l lt));
    }
done_holds v b (place_block lane bs) sound e h =
    let t = placing_tells 16 (shape v) lane (length bs) e in
    let m' : Model = laid 0 (8 * length bs) lane (bits_of bs) v.model in
    record {
      size = length-set v.records lane _ ∙ h.size;
      lane = λ l lt.
          let P : LaneRecord → Bool → Type 0 = λ r y. HoldsAt r m' l (cond y (record { key = (b l).key; block = Some bs }) (b l)) in
          changed v.records lane l _ P (within v b lane h t.1 t.0.few)
          (λ q. (
            key_kept (get_or v.records lane empty).key v.model m' l (b l).key (λ r lo hi. sym (laid_outside 0 (8 * length bs) lane (bits_of bs) v.model r l (inr (omega (arith, t.2)))))
                (subst (λ (r : LaneRecord). HoldsKey r.key (key_of v.model l) (round_shown v.model l) (b l).key) (ap (λ n. get_or v.records n empty) q) (h.lane l lt).0),
            ap Some (sym (sym (shown_state m' l) ∙ laid_sixteen 0 lane l bs v.model q t.2 sound)),
          ))
          (λ ne. lane_kept 0 (8 * length bs) lane (bits_of bs) _ v.model l (b l) ne (h.lane l lt));
    }
done_holds v b (clear lane) sound e h =
    let t = naming_tells (shape v) lane e in
    record {
      size = length-set v.records lane _ ∙ h.size;
      lane = λ l lt.
          let P : LaneRecord → Bool → Type 0 = λ r y. HoldsAt r (zeroed 1536 lane v.model) l (cond y (record { key = None; block = None }) (b l)) in
          changed v.records lane l _ P (within v b lane h t.1 t.0.few) (λ q. (tt, tt)) (λ ne. lane_kept 0 1536 lane (λ i. false) _ v.model l (b l) ne (h.lane l lt));
    }
done_holds v b schedule sound e h =
    let t = scheduling_tells (shape v) e in
    let m' : Model = worked (schedule_plan kind) v.model in
    record {
      size = length-map v.records promotes ∙ h.size;
      lane = λ l lt'.
          let lt : l < v.model.lanes = subst (λ n. l < n) (planned_lanes own_inverter (schedule_plan kind) v.model) lt' in
          let d = plan_expands v.model l lt in
          let P : LaneRecord → Type 0 = λ r. HoldsAt r m' l (b l) in
          subst P (sym (get_or-map promotes v.records l empty empty (within v b l h lt t.0.few))) (
            promote_holds (get_or v.records l empty).key _ _ _ _ _ (sym d.key) d.all (h.lane l lt).0,
            block_moved (get_or v.records l empty).block _ _ _ (sym d.state) (h.lane l lt).1,
          );
    }
done_holds v b seal sound e h =
    let t = working_tells (shape v) S e in
    record {
      size = h.size;
      lane = λ l lt'.
          let lt : l < v.model.lanes = subst (λ n. l < n) (planned_lanes own_inverter (seal_plan kind) v.model) lt' in
          let d = plan_enciphers v.model l lt in
          let r : LaneRecord = get_or v.records l empty in (
            key_moved r.key _ _ _ _ _ (sym d.keys.key) (λ n le. sym (d.keys.all n le)) (h.lane l lt).0,
            block_moved r.block _ _ _ (sym d.state)
                (turned_block (Cipher (rounds kind)) (encrypted kind) by_cipher r.key r.block _ _ _ _ _ (all_ready 0 v.records l t.1) (h.lane l lt).0 (h.lane l lt).1),
          );
    }
done_holds v b unseal sound e h =
    let t = working_tells (shape v) O e in
    record {
      size = h.size;
      lane = λ l lt'.
          let lt : l < v.model.lanes = subst (λ n. l < n) (planned_lanes own_inverter (open_plan kind) v.model) lt' in
          let d = plan_deciphers v.model l lt in
          let r : LaneRecord = get_or v.records l empty in (
            key_moved r.key _ _ _ _ _ (sym d.keys.key) (λ n le. sym (d.keys.all n le)) (h.lane l lt).0,
            block_moved r.block _ _ _ (sym d.state)
                (turned_block (InvCipher (rounds kind)) (decrypted kind) by_inv_cipher r.key r.block _ _ _ _ _ (all_ready 0 v.records l t.1) (h.lane l lt).0 (h.lane l lt).1),
          );
    }
done_holds v b _ sound e h = record { size = h.size; lane = h.lane }

settled_holds : (o : Option Fault) (v w : View) (b c : Book) → (o ≡ None → Holds w c) → Holds v b → Holds (settled o w v) (λ l. settled o (c l) (b l))
settled_holds None v w b c h k = let g = h refl in record { size = g.size; lane = g.lane }
settled_holds (Some f) v w b c h k = record { size = k.size; lane = k.lane }

pub next_holds : (v : View) (b : Book) (a : Asked) → Sound a → Holds v b → Holds (next v a) (entered b (performed v a))
next_holds v b a sound h =
    let P : Book → Type 0 = λ c. Holds (next v a) c in
    subst P (λ i l. sym (entered_is v a b l) i) (settled_holds (refusal (shape v) a) v (done v a) b (wrote b a) (λ e. done_holds v b a sound e h) h)
