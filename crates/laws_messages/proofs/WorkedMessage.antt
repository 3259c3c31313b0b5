-- The worked example, part by part.
use Rattle.std.proofs.Common.{ℕ, ◌<◌, List, [], ◌∷◌, ◌++◌, refl, arith, inl}
use Rattle.std.specs.Prelude.{◌≢◌}
use Rattle.ipfix_wire.specs.FieldSpecifier.{SpellsSpec}
use Rattle.ipfix_wire.specs.MessageHeader.{IsHeader}
use Rattle.ipfix_message.specs.DataRecords.{IsBody}
use Rattle.ipfix_message.specs.Domains.{admit}
use Rattle.ipfix_message.specs.Sets.{Set, SpellsSet}
use Rattle.ipfix_message.specs.SpelledFields.{Spells}
use Rattle.ipfix_message.specs.TemplateRecords.{IsTemplateSet, SpellsTemplate}
use Rattle.ipfix_message.specs.TemplatesInForce.{IsInForce, in_force}
use Rattle.ipfix_message.specs.declared.template_record.Event.TheVariants.{Define}
use Rattle.ipfix_message.specs.declared.template_record.TemplateKind.TheVariants.{Plain}
use Rattle.ipfix_message.proofs.LastDefinition.{in_force-only}
use Rattle.laws_messages.specs.WholeMessages.{Content, template_records, data_records, KeepsTemplate, IsMessage, IsReadAs}
use Rattle.laws_messages.specs.WorkedExample.{template_set_text, template_text, data_set_text, start_octets, end_octets, address_octets, count_octets, padding_octets, spec, example_template, example_fields, example_header, example_message, example_octets}

abbrev record_text : List ℕ
record_text = start_octets ++ end_octets ++ address_octets ++ count_octets

abbrev template_set : Set
template_set = record { id = 2; body = template_text }

abbrev data_set : Set
data_set = record { id = 256; body = record_text ++ padding_octets }

abbrev sets : List (Set × Content)
sets = (template_set, template_records Plain (Define example_template ∷ [])) ∷ (data_set, data_records example_template (example_fields ∷ [])) ∷ []

-- ---- the template set

start_spec : SpellsSpec (spec 152 8) (0 ∷ 152 ∷ 0 ∷ 8 ∷ [])
start_spec = record { number = omega arith; pen = omega arith; width = omega arith; octets = inl (refl, refl) }

end_spec : SpellsSpec (spec 153 8) (0 ∷ 153 ∷ 0 ∷ 8 ∷ [])
end_spec = record { number = omega arith; pen = omega arith; width = omega arith; octets = inl (refl, refl) }

address_spec : SpellsSpec (spec 8 4) (0 ∷ 8 ∷ 0 ∷ 4 ∷ [])
address_spec = record { number = omega arith; pen = omega arith; width = omega arith; octets = inl (refl, refl) }

count_spec : SpellsSpec (spec 1 4) (0 ∷ 1 ∷ 0 ∷ 4 ∷ [])
count_spec = record { number = omega arith; pen = omega arith; width = omega arith; octets = inl (refl, refl) }

specs_text : List ℕ
specs_text = 0 ∷ 152 ∷ 0 ∷ 8 ∷ 0 ∷ 153 ∷ 0 ∷ 8 ∷ 0 ∷ 8 ∷ 0 ∷ 4 ∷ 0 ∷ 1 ∷ 0 ∷ 4 ∷ []

template_spelled : SpellsTemplate Plain example_template template_text
unfolding specs_text
template_spelled = record {
  fields = specs_text;
  octets = refl;
  in_turn = (0 ∷ 152 ∷ 0 ∷ 8 ∷ [], 0 ∷ 153 ∷ 0 ∷ 8 ∷ 0 ∷ 8 ∷ 0 ∷ 4 ∷ 0 ∷ 1 ∷ 0 ∷ 4 ∷ [], refl, start_spec, (0 ∷ 153 ∷ 0 ∷ 8 ∷ [], 0 ∷ 8 ∷ 0 ∷ 4 ∷ 0 ∷ 1 ∷ 0 ∷ 4 ∷ [], refl, end_spec, (0 ∷ 8 ∷ 0 ∷ 4 ∷ [], 0 ∷ 1 ∷ 0 ∷ 4 ∷ [], refl, address_spec, (0 ∷ 1 ∷ 0 ∷ 4 ∷ [], [], refl, count_spec, refl))));
  lowest = omega arith;
  highest = omega arith;
  some = omega arith;
  many = omega arith;
  scoped = refl;
  positive = omega arith;
}

template_set_is : IsTemplateSet Plain (Define example_template ∷ []) template_text
template_set_is = record { octets = template_text; padding = []; whole = refl; spelled = (template_text, [], refl, template_spelled, refl); padded = inl (omega arith) }

keeps : KeepsTemplate [] (Define example_template)
unfolding in_force
keeps = λ u same in_it. absurd (let at = in_force-only [] 256 u same in_it in cc)

-- ---- the data set

fixed : (width : ℕ) → width < 65535 → width ≢ 65535
fixed width below = λ e. omega (arith, e, below)

record_spelled : Spells example_template.specs example_fields record_text
record_spelled = (start_octets, end_octets ++ address_octets ++ count_octets, refl, refl, inl (fixed 8 (omega arith), refl, refl), (end_octets, address_octets ++ count_octets, refl, refl, inl (fixed 8 (omega arith), refl, refl), (address_octets, count_octets, refl, refl, inl (fixed 4 (omega arith), refl, refl), (count_octets, [], refl, refl, inl (fixed 4 (omega arith), refl, refl), refl))))

body_is : IsBody example_template.specs (example_fields ∷ []) (record_text ++ padding_octets)
body_is = record { octets = record_text; padding = padding_octets; whole = refl; spelled = (record_text, [], refl, record_spelled, refl); short = omega arith }

in_it : IsInForce example_template (Define example_template ∷ [])
in_it = record { later = []; earlier = []; order = refl; lasts = tt }

-- ---- the message

template_set_spelled : SpellsSet template_set (template_set_text ++ template_text)
template_set_spelled = record { id = omega arith; size = omega arith; octets = refl }

data_set_spelled : SpellsSet data_set (data_set_text ++ record_text ++ padding_octets)
data_set_spelled = record { id = omega arith; size = omega arith; octets = refl }

is_header : IsHeader example_header
is_header = record { length = omega arith; covers = omega arith; export_time = omega arith; sequence = omega arith; domain = omega arith }

is_message : IsMessage [] example_header sets example_octets
is_message = record {
  text = template_set_text ++ template_text ++ data_set_text ++ record_text ++ padding_octets;
  octets = refl;
  header = is_header;
  whole = refl;
  in_turn = (template_set_text ++ template_text, data_set_text ++ record_text ++ padding_octets, refl, template_set_spelled, (data_set_text ++ record_text ++ padding_octets, [], refl, data_set_spelled, refl));
  contents = ((refl, template_set_is, (keeps, tt)), ((omega arith, refl, in_it, body_is), tt));
}

pub example_is_read : IsReadAs [] example_octets example_message
unfolding admit
example_is_read = record {
  known = (1, []) ∷ [];
  admitted = refl;
  sets = sets;
  message = is_message;
  records = refl;
  events = refl;
  passed = refl;
  domains = refl;
}
