use Rattle.std.proofs.Common.{◌≡◌, ◌∷◌, length, arith, rules}
use Rattle.std.specs.Prelude.{string_bytes}
use Rattle.recording_periods.specs.TableStates.{IsPathTo}
use Rattle.recording_periods.proofs.Loops.{all_at_end, more_all, more_some, some_here}
use Rattle.recording_periods.proofs.due_tables.is_named.Goals as goal

pub returns-then-is_path_to : goal.returns-then-is_path_to
returns-then-is_path_to c =
    let split : c.loop-path.left.now ≡ c.in-Some.path.now ∷ c.in-Some.rest.now = search rules in
    some_here (λ path. IsPathTo (string_bytes c.args.name.now) (string_bytes path)) c.args.paths.now c.loop-path.left.now c.in-Some.rest.now c.in-Some.path.now split c.loop-path.invariant.some (search rules)

pub loop-path-preserved : goal.loop-path-preserved
loop-path-preserved c =
    let split : c.loop-path.left.now ≡ c.in-Some.path.now ∷ c.in-Some.rest.now = search rules in
    record {
      all = more_all (λ path. ¬ IsPathTo (string_bytes c.args.name.now) (string_bytes path)) c.args.paths.now c.loop-path.left.now c.in-Some.rest.now c.in-Some.path.now split c.loop-path.invariant.all (search rules);
      some = more_some (λ path. IsPathTo (string_bytes c.args.name.now) (string_bytes path)) c.args.paths.now c.loop-path.left.now c.in-Some.rest.now c.in-Some.path.now split c.loop-path.invariant.some;
    }

pub returns : goal.returns
returns c =
    let empty : length c.loop-path.left.now ≡ 0 = grind (arith, c.split_first.ensures.variant) in
    all_at_end (λ path. ¬ IsPathTo (string_bytes c.args.name.now) (string_bytes path)) c.args.paths.now c.loop-path.left.now c.loop-path.invariant.all empty
