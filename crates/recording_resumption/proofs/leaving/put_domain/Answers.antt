use Rattle.std.proofs.Common.{◌≡◌, ℕ, cond, eqb, Option, Some, rules}
use Rattle.std.specs.Prelude.{nat_eq}
use Rattle.std.specs.Ordering.{nat_cmp}
use Rattle.std.specs.BTreeMap.{get}
use Rattle.indexmap.specs.IndexMap.{get as index_get}
use Rattle.recording_resumption.specs.declared.earlier_domain.EarlierDomain.{EarlierDomain}
use Rattle.recording_resumption.specs.declared.last_message.LastMessage.{LastMessage}
use Rattle.recording_resumption.proofs.LeftDomains.{one_more_left}
use Rattle.recording_resumption.proofs.leaving.put_domain.Goals as goal

pub returns-clause-only : goal.returns-clause-only
returns-clause-only c = λ before.
    let last : ℕ → Option LastMessage = index_get nat_eq c.args.last.now in
    let found : index_get nat_eq c.args.last.now c.args.domain ≡ Some c.in-Some.message.now = search rules in
    let e : EarlierDomain = record { state = c.new-state.result; templates = c.in_ok-templates.templates } in
    let puts : (q : ℕ) → get nat_cmp c.insert.new.self q ≡ cond (eqb q c.args.domain) (Some e) (get nat_cmp c.args.left.now q) = λ q. search rules in
    one_more_left last c.args.domains.now c.args.left.now c.insert.new.self c.args.domain e before (record { message = c.in-Some.message.now; is_last = found; waits = c.new-state.ensures; templates = c.in_ok-templates.ensures }) puts
