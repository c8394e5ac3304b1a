-- No answer of a unit hangs on where the memory of its bench lies. Assumes nothing.
use Rattle.std.proofs.Common.{◌≡◌, List, [], ◌∷◌, Some, None, Option, refl, ap, ◌∙◌, ap₂}
use Rattle.bench.specs.Model.{Model, Memory}
use Rattle.bench.specs.declared.faults.Fault.{Fault}
use Rattle.lanetable.specs.declared.records.LaneRecord.{LaneRecord}
use Rattle.unit.specs.Answers.{settled}
use Rattle.unit.specs.View.{View, shape, made}
use Rattle.law.specs.Calls.{Asked, place_key, place_block, clear, schedule, seal, unseal, read, counts, left, record_of, unready, Line, refusal, done, next, performed, log, ran}
use Rattle.consoling.specs.Runs.{unit_over, left_after}

-- two units that differ at most in where the memory lies
pub record Same (v w : View) : Type 0 where
  pub model : v.model ≡ w.model
  pub records : v.records ≡ w.records

at : View → Memory → View
at v x = record { model = v.model; beneath = x; records = v.records }

settled_same : (o : Option Fault) (p q p' q' : View) → Same p p' → Same q q' → Same (settled o p q) (settled o p' q')
settled_same None p q p' q' a b = a
settled_same (Some f) p q p' q' a b = b

done_same : (v : View) (x : Memory) (a : Asked) → Same (done v a) (done (at v x) a)
unfolding at
done_same v x (place_key l bs) = record { model = refl; records = refl }
done_same v x (place_block l bs) = record { model = refl; records = refl }
done_same v x (clear l) = record { model = refl; records = refl }
done_same v x schedule = record { model = refl; records = refl }
done_same v x seal = record { model = refl; records = refl }
done_same v x unseal = record { model = refl; records = refl }
done_same v x (read l bs) = record { model = refl; records = refl }
done_same v x counts = record { model = refl; records = refl }
done_same v x left = record { model = refl; records = refl }
done_same v x (record_of l) = record { model = refl; records = refl }
done_same v x unready = record { model = refl; records = refl }

at_is : (v w : View) → Same v w → at v w.beneath ≡ w
unfolding at
at_is v w s = ap₂ (λ (m : Model) (rs : List LaneRecord). record { model = m; beneath = w.beneath; records = rs }) s.model s.records

next_same : (v w : View) → Same v w → (a : Asked) → Same (next v a) (next w a)
unfolding at
next_same v w s a =
    let x = w.beneath in
    let here : Same (next v a) (next (at v x) a) = settled_same (refusal (shape v) a) (done v a) v (done (at v x) a) (at v x) (done_same v x a) (record { model = refl; records = refl }) in
    record {
      model = here.model ∙ ap (λ (u : View). (next u a).model) (at_is v w s);
      records = here.records ∙ ap (λ (u : View). (next u a).records) (at_is v w s);
    }

performed_same : (v w : View) → Same v w → (a : Asked) → performed v a ≡ performed w a
unfolding at
performed_same v w s a = ap (λ (u : View). performed u a) (at_is v w s)

log_same : (v w : View) → Same v w → (cs : List Asked) → log v cs ≡ log w cs
log_same v w s [] = refl
log_same v w s (a ∷ cs) = ap₂ (λ (x : Line) (xs : List Line). x ∷ xs) (performed_same v w s a) (log_same (next v a) (next w a) (next_same v w s a) cs)

pub log_over : (m : Model) (x : Memory) (cs : List Asked) → log (made m x) cs ≡ log (unit_over m) cs
log_over m x cs = log_same (made m x) (unit_over m) (record { model = refl; records = refl }) cs

ran_same : (v w : View) → Same v w → (cs : List Asked) → Same (ran v cs) (ran w cs)
ran_same v w s [] = s
ran_same v w s (a ∷ cs) = ran_same (next v a) (next w a) (next_same v w s a) cs

pub left_over : (m : Model) (x : Memory) (cs : List Asked) → (ran (made m x) cs).model.left ≡ left_after m cs
left_over m x cs = ap (λ (n : Model). n.left) (ran_same (made m x) (unit_over m) (record { model = refl; records = refl }) cs).model
