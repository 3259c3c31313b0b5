use Rattle.std.proofs.Common.{◌≡◌, Some, None, inr, rules}
use Rattle.std.specs.Prelude.{nat_eq}
use Rattle.std.specs.Map.{lookup}
use Rattle.ipfix_message.proofs.History.{checked_message, new_domain}
use Rattle.ipfix_message.proofs.domains.Domains.check_data.Goals as goal

pub returns-in_default-clause-checked : goal.returns-in_default-clause-checked
returns-in_default-clause-checked c = λ fresh ds stands.
    let none : lookup (nat_eq c.args.header.now.domain) c.args.self.now.domains ≡ None = search rules in
    inr (new_domain c.args.self.now.domains ds c.args.header.now.domain stands none)

pub returns-clause-checked : goal.returns-clause-checked
returns-clause-checked c = λ fresh ds stands.
    let some : lookup (nat_eq c.args.header.now.domain) c.args.self.now.domains ≡ Some c.in-Some.templates.now.entries = search rules in
    checked_message c.args.self.now.domains ds c.args.message.now c.args.header.now c.in-Some.templates.now.entries c.check_sets.result c.requires stands some
    (λ h d agrees. rw c.after_header.ensures.octets at (c.check_sets.ensures.sets h d agrees))
    (rw c.after_header.ensures.octets at c.check_sets.ensures.data)
