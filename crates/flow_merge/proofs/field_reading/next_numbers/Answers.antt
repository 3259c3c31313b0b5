use Rattle.flow_export.specs.IpfixText.{number_field}
use Rattle.flow_merge.specs.InnerReading.{FitsNumber}
use Rattle.flow_merge.proofs.Beginnings.{one_more, one_less, none_left}
use Rattle.flow_merge.proofs.field_reading.next_numbers.Goals as goal

pub returns-in_default-clause-fault : goal.returns-in_default-clause-fault
returns-in_default-clause-fault c =
    none_left number_field FitsNumber c.args.elements.now c.loop-element.element-index _ c.args.fields.now c.loop-element.fields c.loop-element-test.true c.loop-element.invariant.left (c.next_number.ensures.none c.in_default.is)

pub loop-element-preserved : goal.loop-element-preserved
loop-element-preserved c = record {
  found = one_more number_field FitsNumber c.args.elements.now c.loop-element.element-index _ c.loop-element.numbers.items c.push.new.self.items c.in-Some.number c.args.fields.now c.loop-element.fields c.next_number.new.fields
      c.loop-element-test.true c.loop-element.invariant.found c.in-Some.ensures.some c.in_ok-push.ensures.items;
  left = one_less number_field FitsNumber c.args.elements.now c.loop-element.element-index _ c.in-Some.number c.args.fields.now c.loop-element.fields c.next_number.new.fields
      c.loop-element-test.true c.loop-element.invariant.left c.in-Some.ensures.some;
}
