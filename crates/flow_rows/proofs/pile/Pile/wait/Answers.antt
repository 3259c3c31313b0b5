use Rattle.std.proofs.Common.{◌∙◌, ℕ, ◌+◌, ◌<◌, ◌^◌, ap, arith, rules, subst, sym}
use Rattle.std.proofs.lemmas.Result.{err_from_is_err_and}
use Rattle.flow_rows.specs.Rows.{part}
use Rattle.flow_rows.specs.Stacks.{held_total}
use Rattle.flow_rows.proofs.Totals.{part_within, seen, total_all}
use Rattle.flow_rows.proofs.pile.Pile.wait.Goals as goal

pub returns-in_default-clause-small : goal.returns-in_default-clause-small
returns-in_default-clause-small g c = λ q i. omega (arith, c.self.invariant.within q i, c.self.invariant.small, seen c.self.inside.buffer.items c.self.inside.runs.items c.args.self.now q i c.self.view_is)

pub returns-in_err-put-clause-err : goal.returns-in_err-put-clause-err
returns-in_err-put-clause-err g c =
    let p = err_from_is_err_and c.from_residual.result c.from_residual.ensures.1 in
    rw p.1 (λ q i. total_all c.put.new.buffer.items c.put.new.runs.items q i ∙ c.in_err-put.ensures.err q i ∙ seen c.self.inside.buffer.items c.self.inside.runs.items c.args.self.now q i c.self.view_is)

pub returns-in_err-put-clause-small : goal.returns-in_err-put-clause-small
returns-in_err-put-clause-small g c = λ q i.
    let b = c.put.new.buffer.items in
    let r = c.put.new.runs.items in
    let n : held_total b r q i < 2 ^ 64 = omega (arith, c.in_err-put.ensures.err q i, c.self.invariant.within q i, c.self.invariant.small) in
    subst (λ (m : ℕ). m < 2 ^ 64) (sym (total_all b r q i)) n

pub invariant_of-self-2 : goal.invariant_of-self-2
invariant_of-self-2 g c = record {
  runs_are = c.in_ok-put.ensures.runs;
  counted = c.in_ok-put.ensures.counted;
  small = search rules;
  within = λ q i. omega (arith, c.in_ok-put.ensures.total q i, c.self.invariant.within q i, part_within c.args.piece.now c.args.most c.requires.most q i, c.in-Some.ensures);
}

pub returns-clause-total : goal.returns-clause-total
returns-clause-total g c = λ q i.
    total_all c.put.new.buffer.items c.put.new.runs.items q i ∙ c.in_ok-put.ensures.total q i
    ∙ ap (λ (n : ℕ). n + part q i c.args.piece.now) (seen c.self.inside.buffer.items c.self.inside.runs.items c.args.self.now q i c.self.view_is)

pub returns-clause-small : goal.returns-clause-small
returns-clause-small g c = λ q i.
    let b = c.put.new.buffer.items in
    let r = c.put.new.runs.items in
    let n : held_total b r q i < 2 ^ 64 = omega (arith, c.in_ok-put.ensures.total q i, c.self.invariant.within q i, part_within c.args.piece.now c.args.most c.requires.most q i, c.in-Some.ensures) in
    subst (λ (m : ℕ). m < 2 ^ 64) (sym (total_all b r q i)) n
