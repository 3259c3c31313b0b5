use Rattle.std.proofs.Common.{◌≡◌, Some, rules}
use Rattle.std.specs.Prelude.{option_copied}
use Rattle.ipfix_datagrams.proofs.Times.{known_is}
use Rattle.ipfix_datagrams.proofs.definition_times.is_known.Goals as goal

pub returns-in-Some : goal.returns-in-Some
returns-in-Some c =
    let found : option_copied c.args.known ≡ Some c.template.result.now = search rules in
    known_is c.args.template.now c.template.result.now (option_copied c.args.known) c.is_same_template.result found c.is_same_template.ensures
