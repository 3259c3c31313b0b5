use Rattle.std.proofs.Common.{ℕ, eqb, is_some, Bool, Option, List, refl, ap}
use Rattle.std.specs.Map.{lookup}
use Rattle.recording_files.proofs.Keeping.{none_fit}
use Rattle.recording_files.proofs.recorder.Recorder.with_limit.Goals as goal

pub returns : goal.returns
returns c = record {
  not_spent = c.new.ensures.fresh;
  known = c.new.ensures.empty;
  has_limit = refl;
  within = none_fit c.args.limit;
  due = λ d. ap (λ (es : List (ℕ × Option ℕ)). lookup (eqb d) es) c.new-2.ensures.empty;
  in_file = λ d. ap (λ (es : List (ℕ × Bool)). is_some (lookup (eqb d) es)) c.new-3.ensures.empty;
  kept = c.new-4.ensures.items;
}
