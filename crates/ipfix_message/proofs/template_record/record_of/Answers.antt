use Rattle.std.proofs.Common.{◌≡◌, ℕ, ◌≤◌, ◌<◌, ◌^◌, length, sym, ap, subst, ◌∙◌, arith}
use Rattle.ipfix_message.specs.WrittenTemplates.{IsScope}
use Rattle.ipfix_message.specs.SpelledFields.{least}
use Rattle.ipfix_message.proofs.WritableTemplates.{is_template}
use Rattle.ipfix_message.proofs.template_record.record_of.Goals as goal

pub new-requires-clause-writable : goal.new-requires-clause-writable
new-requires-clause-writable c =
    let ss = c.in_ok-specs.specs.items in
    let count : length ss ≡ c.args.count = ap length (sym c.deref.ensures.value) ∙ c.deref.ensures.len ∙ c.in_ok-specs.ensures.count in
    let small : c.args.count < 2 ^ 16 = omega (arith, c.ranges.count) in
    let id : c.args.id < 2 ^ 16 = omega (arith, c.ranges.id) in
    let some : 1 ≤ length ss = omega (arith, count, c.if-count-eq0.false) in
    let octet : c.least_of-least.result ≡ least ss = c.least_of-least.ensures ∙ ap least c.deref.ensures.value in
    rw c.from_vec.ensures (is_template c.args.kind c.args.id c.in_ok-scope.scope ss (omega (arith, c.if-id-lt-FIRST_TEMPLATE_ID-2.false)) id some (omega (arith, count, small))
    (subst (λ (n : ℕ). IsScope c.args.kind c.in_ok-scope.scope n) (sym count) c.in_ok-scope.ensures.scoped) (omega (arith, octet, c.if-least-eq0.false)) c.in_ok-specs.ensures.each
    (omega (arith, c.in_ok-specs.ensures.room, c.in_ok-scope.ensures.room, c.requires)))
