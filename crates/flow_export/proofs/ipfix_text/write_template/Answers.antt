use Rattle.std.proofs.Common.{◌∙◌, ◌++◌, ap, List, ℕ}
use Rattle.flow_export.specs.IpfixText.{template, template_octets}
use Rattle.flow_export.proofs.MessageParts.{message_written}
use Rattle.flow_export.proofs.ipfix_text.write_template.Goals as goal

pub returns-clause-ok : goal.returns-clause-ok
returns-clause-ok g c =
    let octets = template_octets (template c.args.plan.now) in
    message_written c.args.time 0 2 _ _ c.as_slice-2.result.now c.set_message.new.message.items c.as_slice.result.now octets c.as_slice-2.ensures.value c.in_ok-set_message.ensures
    (c.as_slice.ensures.value ∙ c.in_ok-append_template.ensures.octets ∙ ap (λ (t : List ℕ). t ++ octets) c.new-template.ensures.items) c.in_ok-write_all.ensures.bytes
