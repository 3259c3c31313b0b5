use Rattle.std.proofs.Common.{◌≡◌, ◌∷◌, length, arith, rules}
use Rattle.std.specs.Prelude.{string_bytes}
use Rattle.recording_periods.specs.TableStates.{IsPathTo}
use Rattle.recording_periods.proofs.Loops.{all_at_end, more_all, more_some, some_here}
use Rattle.recording_periods.proofs.due_tables.is_listed.Goals as goal

pub returns-then-is_path_to : goal.returns-then-is_path_to
returns-then-is_path_to c =
    let split : c.loop-name.left.now ≡ c.in-Some.name.now ∷ c.in-Some.rest.now = search rules in
    some_here (λ name. IsPathTo (string_bytes name) (string_bytes c.args.path.now)) c.args.files.now c.loop-name.left.now c.in-Some.rest.now c.in-Some.name.now split c.loop-name.invariant.some (search rules)

pub loop-name-preserved : goal.loop-name-preserved
loop-name-preserved c =
    let split : c.loop-name.left.now ≡ c.in-Some.name.now ∷ c.in-Some.rest.now = search rules in
    record {
      all = more_all (λ name. ¬ IsPathTo (string_bytes name) (string_bytes c.args.path.now)) c.args.files.now c.loop-name.left.now c.in-Some.rest.now c.in-Some.name.now split c.loop-name.invariant.all (search rules);
      some = more_some (λ name. IsPathTo (string_bytes name) (string_bytes c.args.path.now)) c.args.files.now c.loop-name.left.now c.in-Some.rest.now c.in-Some.name.now split c.loop-name.invariant.some;
    }

pub returns : goal.returns
returns c =
    let empty : length c.loop-name.left.now ≡ 0 = grind (arith, c.split_first.ensures.variant) in
    all_at_end (λ name. ¬ IsPathTo (string_bytes name) (string_bytes c.args.path.now)) c.args.files.now c.loop-name.left.now c.loop-name.invariant.all empty
