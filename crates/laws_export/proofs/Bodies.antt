-- The bodies of the two sets, and what they give.
use Rattle.std.proofs.Common.{◌≡◌, ℕ, ◌+◌, ◌*◌, ◌≤◌, false, List, [], ◌∷◌, length, map, All, Result, Ok, refl, sym, ap, ◌∙◌, arith}
use Rattle.std.specs.Prelude.{flat_map}
use Rattle.std.proofs.lemmas.List.{append-nil, length-append}
use Rattle.std.proofs.lemmas.List.Elements.{All-head, All-tail}
use Rattle.ipfix_wire.specs.InTurn.{InTurn}
use Rattle.ipfix_wire.specs.FieldSpecifier.{SpellsSpec, spec_octets}
use Rattle.ipfix_wire.specs.declared.header.Header.{Header}
use Rattle.ipfix_wire.specs.declared.specifier.Spec.{Spec}
use Rattle.ipfix_wire.proofs.Written.{spec_spelled}
use Rattle.ipfix_message.specs.Outcome.{◌>>=◌}
use Rattle.ipfix_message.specs.Fields.{Field}
use Rattle.ipfix_message.specs.DataRecords.{Spells, IsBody, record_of}
use Rattle.ipfix_message.specs.declared.fault.MessageFault.{MessageFault}
use Rattle.ipfix_message.specs.declared.template_record.TemplateKind.TheVariants.{Plain}
use Rattle.ipfix_message.specs.declared.template_record.Event.{Event}
use Rattle.ipfix_message.specs.declared.template_record.Event.TheVariants.{Define}
use Rattle.ipfix_message.specs.TemplateRecords.{SpellsTemplate, event_at}
use Rattle.ipfix_message.specs.TemplatesInForce.{in_force, event_gives, template_set_gives}
use Rattle.ipfix_message.specs.Messages.{Decoding, before, more_ignored, templates_in, data_in, set_gives}
use Rattle.ipfix_message.proofs.Bodies.{records_of_body-only}
use Rattle.ipfix_message.proofs.TemplateRecords.{events_read}
use Rattle.ipfix_message.proofs.TemplateSets.{template_set_gives-next, template_set_gives-done}
use Rattle.flow_table.specs.Plans.{PlanValue}
use Rattle.flow_table.specs.SameTables.{RowValue}
use Rattle.flow_export.specs.IpfixText.{field_specs, row_fields, row_octets, template, template_octets}
use Rattle.flow_export.specs.Fitting.{FitsValue}
use Rattle.flow_export.proofs.Room.{IsSpec, HasRoom}
use Rattle.flow_export.proofs.RowFields.{row_spelled, length-row_octets}
use Rattle.laws_export.proofs.OneMessage.{set}

-- ---- the template

specs_spelled : (ss : List Spec) → All IsSpec ss → InTurn SpellsSpec ss (flat_map spec_octets ss)
specs_spelled [] all = refl
specs_spelled (s ∷ ss) all =
    let one = All-head IsSpec s ss all in
    (spec_octets s, flat_map spec_octets ss, refl, spec_spelled s one.pen one.number one.width, specs_spelled ss (All-tail IsSpec s ss all))

template_spelled : (plan : PlanValue) → HasRoom plan → SpellsTemplate Plain (template plan) (template_octets (template plan))
template_spelled plan room =
    record {
      fields = flat_map spec_octets (field_specs plan);
      octets = refl;
      in_turn = specs_spelled (field_specs plan) room.specs;
      lowest = omega arith;
      highest = omega arith;
      some = omega arith;
      many = omega (arith, room.few);
      scoped = refl;
      positive = omega arith;
    }

abbrev pub defined : PlanValue → Event
defined plan = Define (template plan)

abbrev pub after_template : PlanValue → Decoding
after_template plan = before (defined plan ∷ [])

first_event : (plan : PlanValue) → HasRoom plan → event_at Plain (template_octets (template plan)) ≡ Ok (defined plan, [])
first_event plan room =
    ap (event_at Plain) (sym (append-nil (template_octets (template plan)))) ∙ (events_read Plain).only (defined plan) (template_octets (template plan)) [] (template_spelled plan room)

changes_nothing : (plan : PlanValue) → event_gives [] (defined plan) ≡ Ok false
unfolding event_gives in_force
changes_nothing plan = refl

template_events : (plan : PlanValue) → HasRoom plan → template_set_gives Plain [] (template_octets (template plan)) ≡ Ok (defined plan ∷ [], 0)
template_events plan room =
    template_set_gives-next Plain [] (template_octets (template plan)) (defined plan) [] false (first_event plan room) (changes_nothing plan)
    ∙ ap (λ (r : Result (List Event × ℕ) MessageFault). r >>= λ x. Ok (x.0, 0 + x.1)) (template_set_gives-done Plain (defined plan ∷ []) [] refl)

pub template_gives : (plan : PlanValue) (h : Header) → HasRoom plan → set_gives h (before []) (set 2 (template_octets (template plan))) ≡ Ok (after_template plan)
unfolding set_gives templates_in
template_gives plan h room = ap (λ (r : Result (List Event × ℕ) MessageFault). r >>= λ x. Ok (record (before []) { events = x.0; passed_over = more_ignored x.1 (before []).passed_over })) (template_events plan room)

-- ---- the rows

rows_spelled : (plan : PlanValue) (rows : List RowValue) → All (FitsValue plan) rows → InTurn (Spells (field_specs plan)) (map (row_fields plan) rows) (flat_map (row_octets plan) rows)
rows_spelled plan [] all = refl
rows_spelled plan (row ∷ rows) all =
    (row_octets plan row, flat_map (row_octets plan) rows, refl, row_spelled plan row (All-head (FitsValue plan) row rows all), rows_spelled plan rows (All-tail (FitsValue plan) row rows all))

pub length-rows : (plan : PlanValue) (rows : List RowValue) → HasRoom plan → All (FitsValue plan) rows → length (flat_map (row_octets plan) rows) ≤ 184 * length rows
length-rows plan [] room all = omega arith
length-rows plan (row ∷ rows) room all =
    let both = length-append (row_octets plan row) (flat_map (row_octets plan) rows) in
    let first = length-row_octets plan row (All-head (FitsValue plan) row rows all) in
    let others = length-rows plan rows room (All-tail (FitsValue plan) row rows all) in
    omega (arith, both, first, room.short, others)

body_is : (plan : PlanValue) (rows : List RowValue) → All (FitsValue plan) rows → IsBody (field_specs plan) (map (row_fields plan) rows) (flat_map (row_octets plan) rows)
body_is plan rows all =
    record {
      octets = flat_map (row_octets plan) rows;
      padding = [];
      whole = sym (append-nil (flat_map (row_octets plan) rows));
      spelled = rows_spelled plan rows all;
      short = omega arith;
    }

-- the records of rows, in a message with this header
abbrev pub with_rows : PlanValue → Header → List RowValue → Decoding
with_rows plan h rows = record (after_template plan) { records = map (record_of h (template plan)) (map (row_fields plan) rows) }

pub rows_give : (plan : PlanValue) (h : Header) (rows : List RowValue) → All (FitsValue plan) rows → set_gives h (after_template plan) (set 256 (flat_map (row_octets plan) rows)) ≡ Ok (with_rows plan h rows)
unfolding set_gives data_in in_force
rows_give plan h rows all =
    ap (λ (r : Result (List (List Field)) MessageFault). r >>= λ rs. Ok (record (after_template plan) { records = map (record_of h (template plan)) rs }))
    (records_of_body-only (field_specs plan) (flat_map (row_octets plan) rows) (map (row_fields plan) rows) (omega arith) (body_is plan rows all))
