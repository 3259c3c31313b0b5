use Rattle.std.proofs.Common.{sym, ◌∙◌, arith}
use Rattle.std.proofs.lemmas.Fmt.{decimal_injective}
use Rattle.recording_names.proofs.Hyphens.{not_whole, front_is}
use Rattle.recording_names.proofs.unfinished_names.read_unfinished_name.Goals as goal

pub returns-in_err-digits-clause-none : goal.returns-in_err-digits-clause-none
returns-in_err-digits-clause-none c = rw c.from_residual.ensures (λ u. not_whole u.period u.session c.args.name.now c.split_once.result c.split_once.ensures.cases (omega (arith, u.in_calendar)) c.in_err-digits.was u.named)

pub returns-in_err-begins-clause-none : goal.returns-in_err-begins-clause-none
returns-in_err-begins-clause-none c = rw c.from_residual-in_err-begins.ensures (λ u.
    c.in_err-begins.ensures.none u.period (omega (arith, u.in_calendar)) (front_is u.period u.session c.args.name.now c.split_once.result c.in_ok-digits.digits c.in_ok-digits.session c.split_once.ensures.cases (omega (arith, u.in_calendar)) c.in_ok-digits.was u.named))

pub returns-then-begins-ge-CALENDAR_END-clause-none : goal.returns-then-begins-ge-CALENDAR_END-clause-none
returns-then-begins-ge-CALENDAR_END-clause-none c = λ u.
    let early = u.in_calendar in
    let front = front_is u.period u.session c.args.name.now c.split_once.result c.in_ok-digits.digits c.in_ok-digits.session c.split_once.ensures.cases (omega (arith, early)) c.in_ok-digits.was u.named in
    let same = decimal_injective c.in_ok-begins.begins u.period (omega arith) (omega (arith, early)) (sym c.in_ok-begins.ensures.some ∙ front) in
    omega (arith, same, early, c.if-begins-ge-CALENDAR_END.true)
