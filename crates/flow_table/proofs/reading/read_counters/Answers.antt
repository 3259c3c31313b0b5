use Rattle.std.proofs.Common.{◌≡◌, ◌+◌, ◌-◌, ◌^◌, ◌<◌, min, List, ℕ, get_or, length, set, take, sym, ap, ◌∙◌, subst, arith, is_none}
use Rattle.std.proofs.lemmas.Grind.{common_steps}
use Rattle.std.proofs.lemmas.List.{length-map, length-take-le}
use Rattle.flow_table.specs.Reading.{counter_of}
use Rattle.flow_table.specs.Readings.{Notes}
use Rattle.flow_table.proofs.Lacking.{absent_noted, none_is, there_noted}
use Rattle.flow_table.proofs.reading.read_counters.Goals as goal
use Rattle.flow_table.proofs.reading.read_counters.Goals.{then-is_none, else-is_none}

pub loop-element-preserved : goal.loop-element-preserved
loop-element-preserved c =
    let inv = c.loop-element.invariant in
    let i = c.loop-element.element-index in
    let r = c.args.data_record.now in
    let es = c.args.elements.now in
    let before = c.args.missing.now in
    let missing = c.loop-element.missing in
    let lacks = ap (λ o. is_none o) (sym c.counter-counter.ensures) ∙ none_is c.counter-counter.result c.is_none.result c.is_none.ensures in
    let inside : i < length es = omega arith in
    record {
      counters = grind (arith, common_steps);
      missing = elim c.if-is_none.branch as (λ _. Notes before (take (i + 1) es) r c.if-is_none.missing) [
        | then-is_none w ↦
            let many : length c.loop-element.counters.items ≡ i = ap length inv.counters ∙ length-map (take i es) (λ e. counter_of e r) ∙ length-take-le i es (omega arith) in
            let place : w.len-place.result ≡ i = omega (arith, many, w.len-place.ensures) in
            let within : i < length missing = omega (arith, inv.missing.long) in
            let noted = w.missing-is ∙ ap (λ n. set missing w.len-place.result n) w.saturating_add.ensures ∙ ap (λ (k : ℕ). set missing k (min (get_or missing k 0 + 1) (2 ^ 64 - 1))) place in
            absent_noted before missing c.if-is_none.missing es r i _ inside within (lacks ∙ w.if-is_none.true) noted inv.missing
        | else-is_none w ↦
            subst (λ (l : List ℕ). Notes before (take (i + 1) es) r l) (sym w.missing-is)
            (there_noted before missing es r i _ inside (lacks ∙ w.if-is_none.false) inv.missing)
      ];
    }
