use Rattle.std.proofs.Common.{◌≡◌, ◌∷◌, [], true, subst, rules}
use Rattle.ipfix_message.specs.FieldViews.{field_of}
use Rattle.recording_files.specs.RecordOctets.{Appended, value_octets}
use Rattle.recording_files.proofs.RecordsAppended.{RecordSoFar, all_appended, record_goes_on}
use Rattle.recording_files.proofs.record_octets.append_record.Goals as goal

pub loop-field-preserved : goal.loop-field-preserved
loop-field-preserved c =
    let split : c.loop-field.left.now ≡ c.in-Some-split_first.spec.now ∷ c.in-Some-split_first.others.now = search rules in
    let step : c.loop-field.field-iterator ≡ field_of c.in-Some.field ∷ c.next.new.self = c.in-Some.ensures.steps in
    let same : c.in-Some.field.element ≡ c.in-Some-split_first.spec.now.element = search rules in
    let yes : c.in_ok-append_value.field-0 ≡ true = search rules in
    let appended : Appended (value_octets c.in-Some-split_first.spec.now.width c.in-Some.field.octets.now) c.loop-field.out.items c.append_value.new.out.items true =
    subst (λ b. Appended (value_octets c.in-Some-split_first.spec.now.width c.in-Some.field.octets.now) c.loop-field.out.items c.append_value.new.out.items b) yes c.in_ok-append_value.ensures in
    record_goes_on c.args.specs.now c.args.fields.now c.loop-field.left.now c.in-Some-split_first.others.now c.loop-field.field-iterator c.next.new.self c.in-Some-split_first.spec.now (field_of c.in-Some.field) c.args.out.now.items c.loop-field.out.items c.append_value.new.out.items
    split step same appended c.loop-field.invariant

pub returns : goal.returns
returns c =
    let none : c.loop-field.field-iterator ≡ [] = search rules in
    all_appended c.args.specs.now c.args.fields.now c.loop-field.left.now c.args.out.now.items c.loop-field.out.items c.is_empty.result
    (subst (λ rest. RecordSoFar c.args.specs.now c.args.fields.now c.loop-field.left.now rest c.args.out.now.items c.loop-field.out.items) none c.loop-field.invariant) c.is_empty.ensures
