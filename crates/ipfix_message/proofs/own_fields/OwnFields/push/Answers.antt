use Rattle.ipfix_message.proofs.SpelledFields.{pushed}
use Rattle.ipfix_message.proofs.own_fields.OwnFields.push.Goals as goal

pub invariant_of-self-2 : goal.invariant_of-self-2
invariant_of-self-2 c =
    let spelled = c.in_ok-append_spelled.ensures.ok in
    rw (c.push_reserved.ensures.items, c.reserve.ensures.items, spelled.2)
    (pushed c.self.inside.specs.items c.self.inside.octets.items c.args.element c.args.octets.now spelled.0 c.self.invariant spelled.1).spelled

pub returns-clause-ok : goal.returns-clause-ok
returns-clause-ok c =
    let spelled = c.in_ok-append_spelled.ensures.ok in
    rw (c.push_reserved.ensures.items, c.reserve.ensures.items, spelled.2, ← c.self.view_is)
    (pushed c.self.inside.specs.items c.self.inside.octets.items c.args.element c.args.octets.now spelled.0 c.self.invariant spelled.1).is
