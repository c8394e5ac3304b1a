use Rattle.std.proofs.Common.{◌≤◌, ◌<◌, length, get_or, vec_items, sym, refl, ap, ◌∙◌, arith}
use Rattle.std.proofs.lemmas.List.{with_items_is}
use Rattle.std.proofs.lemmas.Simd.{map-map}
use Rattle.archiving.specs.Traces.{made_by, stepped}
use Rattle.archiving.proofs.Quarters.{one_done, all_made, all_stepped}
use Rattle.archiving.proofs.listings.do_in_quarters.Goals as goal

pub loop-k-init : goal.loop-k-init
loop-k-init c = record { now_size = refl; made_size = sym c.told-quarters; made_is = refl; now_is = refl; left = refl }

pub loop-k-preserved : goal.loop-k-preserved
loop-k-preserved c =
    let k = c.loop-k.k in
    let words = c.do_gate.new.words in
    let within : k < length c.args.quarters.now = omega (arith, c.told-quarters) in
    one_done vec_items c.args.gate k c.args.quarters.now c.loop-k.quarters c.loop-k.column c.index-quarters-k.result _ _ within c.loop-k.invariant
    (c.do_gate.ensures.value ∙ ap (made_by c.args.gate) c.as_mut_slice.ensures.value)
    (with_items_is (get_or c.loop-k.quarters k c.index-quarters-k.result) words (c.do_gate.auto.words ∙ c.as_mut_slice.ensures.len) ∙ c.do_gate.ensures.leaves ∙ ap (stepped c.args.gate) c.as_mut_slice.ensures.value)

pub returns : goal.returns
returns c =
    let g = c.args.gate in
    let qs = c.args.quarters.now in
    let end : length qs ≤ c.loop-k.k = omega (arith, c.told-quarters) in
    record {
      value = all_made vec_items g c.loop-k.k qs c.loop-k.quarters c.loop-k.column end c.loop-k.invariant ∙ sym (map-map (made_by g) vec_items qs);
      leaves = all_stepped vec_items g c.loop-k.k qs c.loop-k.quarters c.loop-k.column end c.loop-k.invariant ∙ sym (map-map (stepped g) vec_items qs);
    }
