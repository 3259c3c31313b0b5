use Rattle.std.proofs.Common.{arith, Some, None}
use Rattle.std.proofs.lemmas.Str.Pattern.{strip_prefix_char}
use Rattle.recording_names.proofs.Hyphens.{none_after_letter, none_without_letter}
use Rattle.recording_names.proofs.session_names.read_number.Goals as goal

pub returns-in_err-number-in-Some-clause-none : goal.returns-in_err-number-in-Some-clause-none
returns-in_err-number-in-Some-clause-none c = rw c.from_residual.ensures (λ over n is. none_after_letter c.args.text.now c.in-Some.digits.now (strip_prefix_char 117 c.args.text.now (Some c.in-Some.digits) c.in-Some.ensures.cases (omega arith)) c.in_err-number-in-Some.ensures.none over n is.0 is.1)

pub returns-in_err-number-in-None-clause-none : goal.returns-in_err-number-in-None-clause-none
returns-in_err-number-in-None-clause-none c = rw c.from_residual-in_err-number-in-None.ensures (λ over n is. none_without_letter c.args.text.now (strip_prefix_char 117 c.args.text.now None c.in-None.ensures.cases (omega arith)) c.in_err-number-in-None.ensures.none over n is.0 is.1)
