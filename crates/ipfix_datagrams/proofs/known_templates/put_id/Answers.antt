use Rattle.std.proofs.Common.{◌≡◌, false, eqb, sym, subst, rules}
use Rattle.std.specs.List.{IsDistinct, list_any}
use Rattle.ipfix_datagrams.proofs.Once.{once_push}
use Rattle.ipfix_datagrams.proofs.known_templates.put_id.Goals as goal

pub returns-clause-once : goal.returns-clause-once
returns-clause-once c = λ once.
    let out : list_any (λ b. eqb b c.args.id) c.args.all.now.items ≡ false = search rules in
    subst (IsDistinct eqb) (sym c.in_ok-push.ensures.items) (once_push c.args.all.now.items c.args.id once out)
