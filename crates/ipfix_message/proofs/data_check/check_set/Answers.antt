use Rattle.std.proofs.Common.{◌≡◌, ◌<◌, ◌≤◌, Some, None, sym, ◌∙◌, arith, rules}
use Rattle.std.specs.Ordering.{nat_cmp}
use Rattle.std.specs.BTreeMap.{get}
use Rattle.ipfix_message.proofs.DataChecks.{skipped, unknown, known, no_plain, no_options}
use Rattle.ipfix_message.proofs.data_check.check_set.Goals as goal

pub returns-then-id-lt-FIRST_TEMPLATE_ID : goal.returns-then-id-lt-FIRST_TEMPLATE_ID
returns-then-id-lt-FIRST_TEMPLATE_ID c = λ h d agrees.
    let below : c.args.id < 256 = omega arith in
    skipped h d c.args.id c.args.body.now (no_plain c.args.id c.args.body.now c.requires) (no_options c.args.id c.args.body.now c.requires) below

pub returns-in-None : goal.returns-in-None
returns-in-None c = λ h d agrees.
    let above : 256 ≤ c.args.id = omega arith in
    let found : get nat_cmp c.args.templates.now c.args.id ≡ None = search rules in
    unknown h d c.args.id c.args.body.now (no_plain c.args.id c.args.body.now c.requires) (no_options c.args.id c.args.body.now c.requires) above (sym (agrees.at c.args.id) ∙ found)

pub returns-in-Some : goal.returns-in-Some
returns-in-Some c = λ h d agrees.
    let above : 256 ≤ c.args.id = omega arith in
    let found : get nat_cmp c.args.templates.now c.args.id ≡ Some c.in-Some.known.now = search rules in
    known h d c.args.id c.args.body.now c.in-Some.known.now c.check_body.result (no_plain c.args.id c.args.body.now c.requires) (no_options c.args.id c.args.body.now c.requires) above (sym (agrees.at c.args.id) ∙ found) c.check_body.ensures
