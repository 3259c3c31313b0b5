use Rattle.std.specs.BTreeMap.{get}
use Rattle.std.specs.Ordering.{nat_cmp}
use Rattle.ipfix_datagrams.specs.Datagrams.{template_at}
use Rattle.ipfix_datagrams.proofs.Times.{empty_gets}
use Rattle.ipfix_datagrams.proofs.WithdrawnKept.{none_put}
use Rattle.ipfix_datagrams.proofs.withdrawn_templates.put_back.Goals as goal

pub returns-then-is_empty : goal.returns-then-is_empty
returns-then-is_empty c = none_put c.args.domain (template_at c.args.withdrawn.now) (get nat_cmp c.args.templates) c.requires (λ id. empty_gets c.args.templates id (c.is_empty.ensures.0 c.if-is_empty.true))
