use Rattle.std.proofs.Common.{List, sym, subst, ◌∙◌}
use Rattle.std.specs.Prelude.{All, option_copied}
use Rattle.std.specs.BTreeMap.{values}
use Rattle.std.proofs.lemmas.List.Elements.{All-append}
use Rattle.ipfix_datagrams.specs.declared.withdrawn_template.WithdrawnTemplate.{WithdrawnTemplate}
use Rattle.ipfix_datagrams.specs.Withdrawals.{HasTemplateId}
use Rattle.ipfix_datagrams.specs.Datagrams.{template_in}
use Rattle.ipfix_datagrams.proofs.Replacing.{ids_low}
use Rattle.ipfix_datagrams.proofs.changes.with_changes.Goals as goal

pub returns-clause-ids : goal.returns-clause-ids
returns-clause-ids c =
    subst (λ (ws : List WithdrawnTemplate). All HasTemplateId ws) (sym c.in_ok-extend_from_slice.ensures.items)
    (All-append HasTemplateId c.args.dropped.items c.deref.result.now c.requires
    (subst (λ (ws : List WithdrawnTemplate). All HasTemplateId ws) (sym (c.deref.ensures.value ∙ c.in_ok-replaced.ensures.items))
    (ids_low (λ t. template_in (option_copied c.args.before) t.id) (values c.args.first.now) c.in_ok-replaced.ensures.writable)))
