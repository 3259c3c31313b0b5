use Rattle.std.proofs.Common.{◌≡◌, ◌++◌}
use Rattle.std.specs.Prelude.{All, flat_map, option_copied}
use Rattle.std.specs.BTreeMap.{values}
use Rattle.ipfix_message.specs.WrittenTemplates.{IsTemplate}
use Rattle.ipfix_datagrams.specs.Datagrams.{replaced_by, template_in}
use Rattle.ipfix_datagrams.proofs.changes.changes.Given as goal

abbrev pub invariant-loop-known : goal.invariant-loop-known
invariant-loop-known l = record {
  items : l.withdrawn.items ++ flat_map (λ t. replaced_by t (template_in (option_copied l.before) t.id)) l.known-iterator
      ≡ flat_map (λ t. replaced_by t (template_in (option_copied l.before) t.id)) (values l.first);
  each : All IsTemplate l.known-iterator → All IsTemplate (values l.first);
}
