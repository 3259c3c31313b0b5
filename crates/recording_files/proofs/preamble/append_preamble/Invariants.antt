use Rattle.std.proofs.Common.{◌≡◌, [], ◌∷◌, ◌++◌, map, All}
use Rattle.std.specs.BTreeMap.{values}
use Rattle.ipfix_message.specs.WrittenTemplates.{IsTemplate}
use Rattle.recording_files.specs.Preambles.{templates_message, preamble}
use Rattle.ipfix_session.specs.Given.{octets_of}
use Rattle.recording_files.proofs.preamble.append_preamble.Given as goal

abbrev pub invariant-loop-known : goal.invariant-loop-known
invariant-loop-known l = record {
  octets : l.out.items ++ octets_of (map (λ t. templates_message l.stamp (t ∷ [])) l.known-iterator) ≡ l.fn.out.items ++ octets_of (preamble l.stamp (values l.templates));
  each : All IsTemplate l.known-iterator → All IsTemplate (values l.templates);
}
