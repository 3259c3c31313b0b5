use Rattle.std.proofs.Common.{◌≡◌, ◌∙◌, ℕ, ◌+◌, List, ap, arith, rules, subst, sym}
use Rattle.std.proofs.lemmas.List.{with_items_is}
use Rattle.std.specs.Global.{Vec}
use Rattle.std.specs.Vec.{with_items}
use Rattle.flow_rows.specs.Rows.{Row}
use Rattle.flow_rows.specs.Stacks.{AreRuns, held_total, stack_total}
use Rattle.flow_rows.proofs.Totals.{seen, total_all}
use Rattle.flow_rows.proofs.pile.Pile.shed.Goals as goal

pub returns-in_err-flush-clause-total : goal.returns-in_err-flush-clause-total
returns-in_err-flush-clause-total g c = λ q i.
    ap (λ (n : ℕ). n + stack_total c.args.apart.now.items q i)
    (total_all c.flush.new.buffer.items c.flush.new.runs.items q i ∙ c.in_err-flush.ensures.total q i ∙ seen c.self.inside.buffer.items c.self.inside.runs.items c.args.self.now q i c.self.view_is)

pub shed_runs-shed-requires : goal.shed_runs-shed-requires
shed_runs-shed-requires g c = (
  search rules,
  (
    λ q i. omega (arith, ap (λ (rs : List (Vec Row)). stack_total rs q i) c.deref_mut.ensures.value, c.in_ok-flush.ensures.total q i, c.requires.small q i, seen c.self.inside.buffer.items c.self.inside.runs.items c.args.self.now q i c.self.view_is),
    (subst AreRuns (sym c.deref_mut.ensures.value) c.in_ok-flush.ensures.runs, c.requires.runs),
  ),
)

pub returns-clause-total : goal.returns-clause-total
returns-clause-total g c = λ q i.
    let b = c.flush.new.buffer.items in
    let r = (with_items c.flush.new.runs c.shed_runs-shed.new.runs).items in
    let w = with_items_is c.flush.new.runs c.shed_runs-shed.new.runs (c.shed_runs-shed.auto.runs ∙ c.deref_mut.ensures.len) in
    let n : held_total b r q i + stack_total c.shed_runs-shed.new.apart.items q i ≡ held_total c.args.self.now c.args.apart.now.items q i = omega (
      arith,
      ap (λ (rs : List (Vec Row)). stack_total rs q i) w,
      ap (λ (rs : List (Vec Row)). stack_total rs q i) c.deref_mut.ensures.value,
      c.shed_runs-shed.ensures.total q i,
      c.in_ok-flush.ensures.total q i,
      seen c.self.inside.buffer.items c.self.inside.runs.items c.args.self.now q i c.self.view_is,
    ) in
    ap (λ (m : ℕ). m + stack_total c.shed_runs-shed.new.apart.items q i) (total_all b r q i) ∙ n
