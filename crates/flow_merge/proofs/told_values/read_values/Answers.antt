use Rattle.std.proofs.Common.{◌≡◌, List, [], sym, subst, rules}
use Rattle.ipfix_message.specs.Fields.{Field}
use Rattle.ipfix_wire.specs.declared.specifier.ElementId.{ElementId}
use Rattle.ipfix_elements.specs.Elements.{iana}
use Rattle.flow_merge.specs.InnerReading.{Refuses, TellsCells, TellsNumber, TellsNumbers}
use Rattle.flow_merge.specs.RowFaults.{FieldValues, Tell}
use Rattle.flow_merge.proofs.Telling.{refuse, same_after, flows_on, sums_on, keys_follow, sums_follow, flows_follow, values_read}
use Rattle.flow_merge.proofs.told_values.read_values.Goals as goal

pub returns-in_err-key-clause-fault : goal.returns-in_err-key-clause-fault
returns-in_err-key-clause-fault c =
    let plan = c.args.plan.now in
    let moved : Refuses ((v : FieldValues) × Tell plan c.args.fields v) c.in_err-key.field-0.0 =
    refuse
    (λ t. (
      t.0.key,
      sums_on plan t.0,
      rw (c.keys.ensures.value, c.kinds.ensures.value)
          (keys_follow plan c.args.fields c.read_number.new.fields c.read_number-2.new.fields c.in_ok-start.start c.in_ok-end.end t.0 t.1 c.in_ok-start.ensures.ok c.in_ok-end.ensures.ok),
    ))
    c.in_err-key.field-0.0 c.in_err-key.ensures.fault in
    search rules

pub returns-in_err-sums-clause-fault : goal.returns-in_err-sums-clause-fault
returns-in_err-sums-clause-fault c =
    let plan = c.args.plan.now in
    let keys : TellsCells plan.keys plan.kinds c.read_number-2.new.fields c.in_ok-key.key.items c.next_cells.new.fields =
    rw (c.keys.ensures.value, c.kinds.ensures.value) at c.in_ok-key.ensures.ok in
    let moved : Refuses ((v : FieldValues) × Tell plan c.args.fields v) c.in_err-sums.field-0.0 =
    refuse
    (λ t. (
      t.0.sums,
      flows_on t.0,
      subst (λ (es : List ElementId). TellsNumbers es c.next_cells.new.fields t.0.sums (flows_on t.0)) (sym c.counters.ensures.value)
          (sums_follow plan c.args.fields c.read_number.new.fields c.read_number-2.new.fields c.next_cells.new.fields c.in_ok-start.start c.in_ok-end.end c.in_ok-key.key.items t.0 t.1 c.in_ok-start.ensures.ok c.in_ok-end.ensures.ok keys),
    ))
    c.in_err-sums.field-0.0 c.in_err-sums.ensures.fault in
    search rules

pub returns-in_err-flows-clause-fault : goal.returns-in_err-flows-clause-fault
returns-in_err-flows-clause-fault c =
    let plan = c.args.plan.now in
    let keys : TellsCells plan.keys plan.kinds c.read_number-2.new.fields c.in_ok-key.key.items c.next_cells.new.fields =
    rw (c.keys.ensures.value, c.kinds.ensures.value) at c.in_ok-key.ensures.ok in
    let counters : TellsNumbers plan.counters c.next_cells.new.fields c.in_ok-sums.sums.items c.next_numbers.new.fields =
    subst (λ (es : List ElementId). TellsNumbers es c.next_cells.new.fields c.in_ok-sums.sums.items c.next_numbers.new.fields) c.counters.ensures.value c.in_ok-sums.ensures.ok in
    let moved : Refuses ((v : FieldValues) × Tell plan c.args.fields v) c.in_err-flows.field-0.0 =
    refuse
    (λ t. (
      t.0.flows,
      [],
      flows_follow plan c.args.fields c.read_number.new.fields c.read_number-2.new.fields c.next_cells.new.fields c.next_numbers.new.fields c.in_ok-start.start c.in_ok-end.end c.in_ok-key.key.items c.in_ok-sums.sums.items t.0 t.1
          c.in_ok-start.ensures.ok c.in_ok-end.ensures.ok keys counters,
    ))
    c.in_err-flows.field-0.0 c.in_err-flows.ensures.fault in
    search rules

pub returns-then-is_some-clause-fault : goal.returns-then-is_some-clause-fault
returns-then-is_some-clause-fault c t =
    let plan = c.args.plan.now in
    let keys : TellsCells plan.keys plan.kinds c.read_number-2.new.fields c.in_ok-key.key.items c.next_cells.new.fields =
    rw (c.keys.ensures.value, c.kinds.ensures.value) at c.in_ok-key.ensures.ok in
    let counters : TellsNumbers plan.counters c.next_cells.new.fields c.in_ok-sums.sums.items c.next_numbers.new.fields =
    subst (λ (es : List ElementId). TellsNumbers es c.next_cells.new.fields c.in_ok-sums.sums.items c.next_numbers.new.fields) c.counters.ensures.value c.in_ok-sums.ensures.ok in
    let last =
    flows_follow plan c.args.fields c.read_number.new.fields c.read_number-2.new.fields c.next_cells.new.fields c.next_numbers.new.fields c.in_ok-start.start c.in_ok-end.end c.in_ok-key.key.items c.in_ok-sums.sums.items t.0 t.1
    c.in_ok-start.ensures.ok c.in_ok-end.ensures.ok keys counters in
    let none : c.read_number-3.new.fields ≡ [] = same_after (iana 375) c.next_numbers.new.fields c.read_number-3.new.fields [] c.in_ok-flows.flows t.0.flows c.in_ok-flows.ensures.ok last in
    search rules

pub returns-clause-ok : goal.returns-clause-ok
returns-clause-ok c =
    let plan = c.args.plan.now in
    let keys : TellsCells plan.keys plan.kinds c.read_number-2.new.fields c.in_ok-key.key.items c.next_cells.new.fields =
    rw (c.keys.ensures.value, c.kinds.ensures.value) at c.in_ok-key.ensures.ok in
    let counters : TellsNumbers plan.counters c.next_cells.new.fields c.in_ok-sums.sums.items c.next_numbers.new.fields =
    subst (λ (es : List ElementId). TellsNumbers es c.next_cells.new.fields c.in_ok-sums.sums.items c.next_numbers.new.fields) c.counters.ensures.value c.in_ok-sums.ensures.ok in
    let none : c.read_number-3.new.fields ≡ [] = search rules in
    let last : TellsNumber (iana 375) c.next_numbers.new.fields c.in_ok-flows.flows [] = subst (λ (rest : List Field). TellsNumber (iana 375) c.next_numbers.new.fields c.in_ok-flows.flows rest) none c.in_ok-flows.ensures.ok in
    values_read plan c.args.fields c.read_number.new.fields c.read_number-2.new.fields c.next_cells.new.fields c.next_numbers.new.fields c.in_ok-start.start c.in_ok-end.end c.in_ok-flows.flows c.in_ok-key.key.items c.in_ok-sums.sums.items
    c.counters.ensures.sound.beside c.in_ok-start.ensures.ok c.in_ok-end.ensures.ok keys counters last
