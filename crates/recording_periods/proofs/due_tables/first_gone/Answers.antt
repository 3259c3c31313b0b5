use Rattle.std.proofs.Common.{◌≡◌, ℕ, List, ◌∷◌, length, sym, arith, rules}
use Rattle.std.specs.Prelude.{string_bytes}
use Rattle.recording_periods.specs.TableStates.{IsGone, IsListed}
use Rattle.recording_periods.proofs.Loops.{all_at_end, first_here, first_later, more_all}
use Rattle.recording_periods.proofs.due_tables.first_gone.Goals as goal

pub returns-then-not-is_listed-clause-first : goal.returns-then-not-is_listed-clause-first
returns-then-not-is_listed-clause-first c =
    let split : c.loop-path.left.now ≡ c.in-Some.path.now ∷ c.in-Some.rest.now = search rules in
    let is : c.as_str.result.now ≡ string_bytes c.in-Some.path.now = search rules in
    let gone : IsGone c.args.files.now c.in-Some.path.now = search rules in
    first_here (IsListed c.args.files.now) (IsGone c.args.files.now) c.args.paths.now c.loop-path.left.now c.in-Some.rest.now c.in-Some.path.now c.as_str.result.now split
    (c.loop-path.invariant.first c.as_str.result.now) gone (sym is)

pub loop-path-preserved : goal.loop-path-preserved
loop-path-preserved c =
    let split : c.loop-path.left.now ≡ c.in-Some.path.now ∷ c.in-Some.rest.now = search rules in
    record {
      all = more_all (IsListed c.args.files.now) c.args.paths.now c.loop-path.left.now c.in-Some.rest.now c.in-Some.path.now split c.loop-path.invariant.all (search rules);
      first = λ (text : List ℕ). first_later (IsListed c.args.files.now) (IsGone c.args.files.now) c.args.paths.now c.loop-path.left.now c.in-Some.rest.now c.in-Some.path.now text split
          (c.loop-path.invariant.first text) (search rules);
    }

pub returns-clause-none : goal.returns-clause-none
returns-clause-none c =
    let empty : length c.loop-path.left.now ≡ 0 = grind (arith, c.split_first.ensures.variant) in
    all_at_end (IsListed c.args.files.now) c.args.paths.now c.loop-path.left.now c.loop-path.invariant.all empty
