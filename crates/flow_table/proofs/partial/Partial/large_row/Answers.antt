use Rattle.std.proofs.Common.{rules, List, Option, ℕ, ◌∙◌, ap, subst, sym}
use Rattle.ipfix_elements.specs.declared.cell.Cell.{Cell}
use Rattle.ipfix_elements.specs.declared.kind.Kind.{Kind}
use Rattle.flow_table.specs.Partials.{fault_of, plan_of, IsNamed, StandsFor}
use Rattle.flow_table.specs.Tables.{IsTooLargeAt}
use Rattle.flow_table.specs.Words.{key_from}
use Rattle.flow_table.proofs.partial.Partial.large_row.Goals as goal

pub returns-then-ne-clause-none : goal.returns-then-ne-clause-none
unfolding fault_of
returns-then-ne-clause-none c = search rules

pub returns-in_default-clause-none : goal.returns-in_default-clause-none
unfolding StandsFor plan_of fault_of
returns-in_default-clause-none c = λ rs stands none large.
    subst (λ (o : Option ℕ). IsNamed c.args.self.now.plan o c.args.self.now.room.words.items rs) c.in_default.is (stands.2 large)

pub returns-clause-row : goal.returns-clause-row
unfolding StandsFor plan_of
returns-clause-row c = λ rs stands.
    let named = subst (λ (o : Option ℕ). IsNamed c.args.self.now.plan o c.args.self.now.room.words.items rs) c.in-Some.is (stands.2 (search rules)) in
    let cells = c.in_ok-write_cells.ensures ∙ ap (λ (ks : List Kind). key_from ks c.deref.result.now) c.kinds.ensures.value ∙ ap (λ (ws : List ℕ). key_from c.args.self.now.plan.kinds ws) c.deref.ensures.value in
    subst (λ (key : List Cell). IsTooLargeAt c.args.self.now.plan rs c.in-Some.interval key) (sym cells) named
