use Rattle.std.proofs.Common.{rules, ◌≡◌, ◌∷◌, ℕ, List, [], subst, sym}
use Rattle.std.specs.BTreeMap.{BTreeMap}
use Rattle.ipfix_message.specs.declared.record.Template.{Template}
use Rattle.ipfix_message.proofs.TemplateLimits.{Counting, counting_above, counting_first, counting_last, counting_more}
use Rattle.ipfix_message.proofs.template_limit.are_within.Goals as goal

pub loop-templates-init : goal.loop-templates-init
loop-templates-init c =
    let all : c.into_iter-templates-iterator.result ≡ c.args.known.now.entries = search rules in
    record {
      counting = subst (λ (rest : List (ℕ × BTreeMap ℕ Template)). Counting c.args.known.now.entries rest c.args.limit c.args.limit) (sym all) (counting_first c.args.known.now.entries c.args.limit);
      distinct = c.iter-templates-items.ensures.unique;
    }

pub loop-templates-preserved : goal.loop-templates-preserved
loop-templates-preserved c =
    let next : c.loop-templates.templates-iterator ≡ (c.in-Some.field-0-0.now, c.in-Some.templates.now) ∷ c.next.new.self = search rules in
    let so_far = subst (λ (rest : List (ℕ × BTreeMap ℕ Template)). Counting c.args.known.now.entries rest c.args.limit c.loop-templates.left) next c.loop-templates.invariant.counting in
    record {
      counting = counting_more c.args.known.now.entries c.next.new.self c.in-Some.field-0-0.now c.in-Some.templates.now c.args.limit c.loop-templates.left c.in-Some-left_beside.less
          c.loop-templates.invariant.distinct c.left_beside.ensures.ordered c.in-Some-left_beside.ensures.left so_far;
      distinct = c.loop-templates.invariant.distinct;
    }

pub returns-in-None-left_beside : goal.returns-in-None-left_beside
returns-in-None-left_beside c = λ ds stands.
    let next : c.loop-templates.templates-iterator ≡ (c.in-Some.field-0-0.now, c.in-Some.templates.now) ∷ c.next.new.self = search rules in
    let so_far = subst (λ (rest : List (ℕ × BTreeMap ℕ Template)). Counting c.args.known.now.entries rest c.args.limit c.loop-templates.left) next c.loop-templates.invariant.counting in
    counting_above c.args.known.now.entries c.next.new.self c.in-Some.field-0-0.now c.in-Some.templates.now c.args.limit c.loop-templates.left ds
    c.loop-templates.invariant.distinct c.left_beside.ensures.ordered c.in-None-left_beside.ensures.above so_far stands

pub returns : goal.returns
returns c = λ ds stands.
    let none : c.loop-templates.templates-iterator ≡ [] = search rules in
    counting_last c.args.known.now.entries c.loop-templates.templates-iterator c.args.limit c.loop-templates.left ds none c.loop-templates.invariant.counting stands
