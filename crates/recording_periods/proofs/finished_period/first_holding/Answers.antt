use Rattle.std.proofs.Common.{◌≡◌, ℕ, List, ◌∷◌, length, arith, rules}
use Rattle.std.specs.Prelude.{string_bytes}
use Rattle.recording_periods.specs.FinishedPeriods.{HoldsUp}
use Rattle.recording_periods.proofs.Loops.{all_at_end, first_here, first_later, more_all}
use Rattle.recording_periods.proofs.finished_period.first_holding.Goals as goal

pub returns-then-holds_up-clause-first : goal.returns-then-holds_up-clause-first
returns-then-holds_up-clause-first c =
    let split : c.loop-name.left.now ≡ c.in-Some.name.now ∷ c.in-Some.rest.now = search rules in
    first_here (λ name. ¬ HoldsUp c.args.period.begins (string_bytes name)) (λ name. HoldsUp c.args.period.begins (string_bytes name)) c.args.unfinished.now c.loop-name.left.now c.in-Some.rest.now c.in-Some.name.now c.as_str-name.result.now split
    (c.loop-name.invariant.first c.as_str-name.result.now) (search rules) (search rules)

pub loop-name-preserved : goal.loop-name-preserved
loop-name-preserved c =
    let split : c.loop-name.left.now ≡ c.in-Some.name.now ∷ c.in-Some.rest.now = search rules in
    record {
      all = more_all (λ name. ¬ HoldsUp c.args.period.begins (string_bytes name)) c.args.unfinished.now c.loop-name.left.now c.in-Some.rest.now c.in-Some.name.now split c.loop-name.invariant.all (search rules);
      first = λ (text : List ℕ). first_later (λ name. ¬ HoldsUp c.args.period.begins (string_bytes name)) (λ name. HoldsUp c.args.period.begins (string_bytes name)) c.args.unfinished.now c.loop-name.left.now c.in-Some.rest.now c.in-Some.name.now text split
          (c.loop-name.invariant.first text) (search rules);
    }

pub returns-clause-none : goal.returns-clause-none
returns-clause-none c =
    let empty : length c.loop-name.left.now ≡ 0 = grind (arith, c.split_first.ensures.variant) in
    all_at_end (λ name. ¬ HoldsUp c.args.period.begins (string_bytes name)) c.args.unfinished.now c.loop-name.left.now c.loop-name.invariant.all empty
