use Rattle.std.proofs.Common.{◌≡◌, ◌∷◌, length, arith, rules}
use Rattle.std.specs.Prelude.{string_bytes}
use Rattle.recording_names.specs.FinishedNames.{IsFinishedName}
use Rattle.recording_periods.proofs.Loops.{all_at_end, more_all, not_later, not_this}
use Rattle.recording_periods.proofs.removable.are_finished_names.Goals as goal

pub returns-then-not-is_finished_name : goal.returns-then-not-is_finished_name
returns-then-not-is_finished_name c =
    let split : c.loop-name.left.now ≡ c.in-Some.name.now ∷ c.in-Some.rest.now = search rules in
    not_this (λ name. IsFinishedName (string_bytes name)) c.args.names.now c.loop-name.left.now c.in-Some.rest.now c.in-Some.name.now split c.loop-name.invariant.none (search rules)

pub loop-name-preserved : goal.loop-name-preserved
loop-name-preserved c =
    let split : c.loop-name.left.now ≡ c.in-Some.name.now ∷ c.in-Some.rest.now = search rules in
    record {
      all = more_all (λ name. IsFinishedName (string_bytes name)) c.args.names.now c.loop-name.left.now c.in-Some.rest.now c.in-Some.name.now split c.loop-name.invariant.all (search rules);
      none = not_later (λ name. IsFinishedName (string_bytes name)) c.args.names.now c.loop-name.left.now c.in-Some.rest.now c.in-Some.name.now split c.loop-name.invariant.none;
    }

pub returns : goal.returns
returns c =
    let empty : length c.loop-name.left.now ≡ 0 = grind (arith, c.split_first.ensures.variant) in
    all_at_end (λ name. IsFinishedName (string_bytes name)) c.args.names.now c.loop-name.left.now c.loop-name.invariant.all empty
