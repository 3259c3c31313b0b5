use Rattle.std.proofs.Common.{◌≡◌, ◌-◌, All, vec_len}
use Rattle.std.specs.List.{flat_map}
use Rattle.ipfix_wire.specs.FieldSpecifier.{spec_octets}
use Rattle.ipfix_message.specs.WrittenTemplates.{HaveRoom, IsSpec}
use Rattle.ipfix_message.specs.TemplateRecords.{specs_at}
use Rattle.ipfix_message.proofs.Reading.{with_front}
use Rattle.ipfix_message.proofs.template_record.specs_of.Given as goal

abbrev pub invariant-loop : goal.invariant-loop
invariant-loop l = record {
  so_far : with_front l.specs.items (specs_at (l.count - l.counter) l.rest) ≡ specs_at l.count l.octets;
  count : vec_len l.specs ≡ l.counter;
  each : All IsSpec l.specs.items;
  room : HaveRoom (flat_map spec_octets l.specs.items) l.rest l.octets;
}
