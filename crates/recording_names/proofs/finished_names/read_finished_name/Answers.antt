use Rattle.recording_names.specs.FinishedNames.{copy_text}
use Rattle.recording_names.specs.SessionNames.{number_text}
use Rattle.recording_names.proofs.FinishedNames.{at_hyphen, dot_found, dot_parts, has_hyphen, name_is, not_dotted, number_no_dot}
use Rattle.recording_names.proofs.finished_names.read_finished_name.Goals as goal

pub returns-in_err-peer-clause-none : goal.returns-in_err-peer-clause-none
returns-in_err-peer-clause-none c = rw c.from_residual.ensures (λ f. c.in_err-peer.ensures.none _ _ (has_hyphen c.args.name.now f.session f.copy f.in_range f.is_copy f.named))

pub returns-in_err-number-clause-none : goal.returns-in_err-number-clause-none
returns-in_err-number-clause-none c = rw c.from_residual-in_err-number.ensures (λ f.
    let parts = at_hyphen c.args.name.now f.session f.copy f.in_range f.is_copy f.named c.in_ok-peer.peer.now c.in_ok-peer.rest.now (c.in_ok-peer.ensures.parts, c.in_ok-peer.ensures.last) in
    not_dotted c.in_ok-peer.rest.now (number_text f.session.transport f.session.number) (copy_text f.copy) c.split_once.result c.split_once.ensures.cases c.in_err-number.was (number_no_dot f.session.transport f.session.number f.in_range.1) parts.1)

pub returns-in_err-copy-clause-none : goal.returns-in_err-copy-clause-none
returns-in_err-copy-clause-none c = rw c.from_residual-in_err-copy.ensures (λ f.
    let parts = at_hyphen c.args.name.now f.session f.copy f.in_range f.is_copy f.named c.in_ok-peer.peer.now c.in_ok-peer.rest.now (c.in_ok-peer.ensures.parts, c.in_ok-peer.ensures.last) in
    let dot = dot_parts c.in_ok-peer.rest.now (number_text f.session.transport f.session.number) (copy_text f.copy) c.split_once.result c.in_ok-number.number c.in_ok-number.ending c.split_once.ensures.cases c.in_ok-number.was parts.1 (number_no_dot f.session.transport f.session.number f.in_range.1) in
    c.in_err-copy.ensures.none f.copy f.is_copy dot.1)

pub returns-in_err-session-clause-none : goal.returns-in_err-session-clause-none
returns-in_err-session-clause-none c = rw c.from_residual-in_err-session.ensures (λ f.
    let parts = at_hyphen c.args.name.now f.session f.copy f.in_range f.is_copy f.named c.in_ok-peer.peer.now c.in_ok-peer.rest.now (c.in_ok-peer.ensures.parts, c.in_ok-peer.ensures.last) in
    let dot = dot_parts c.in_ok-peer.rest.now (number_text f.session.transport f.session.number) (copy_text f.copy) c.split_once.result c.in_ok-number.number c.in_ok-number.ending c.split_once.ensures.cases c.in_ok-number.was parts.1 (number_no_dot f.session.transport f.session.number f.in_range.1) in
    c.in_err-session.ensures.none f.session f.in_range (parts.0, dot.0))

pub returns-clause-named : goal.returns-clause-named
returns-clause-named c =
    name_is c.args.name.now c.in_ok-peer.peer.now c.in_ok-peer.rest.now c.in_ok-number.number.now c.in_ok-number.ending.now c.in_ok-session.session.address.now c.in_ok-session.session.port c.in_ok-session.session.transport c.in_ok-session.session.number c.in_ok-copy.copy
    c.in_ok-peer.ensures.parts (dot_found c.in_ok-peer.rest.now c.split_once.result c.in_ok-number.number c.in_ok-number.ending c.split_once.ensures.cases c.in_ok-number.was) c.in_ok-copy.ensures.said c.in_ok-session.ensures.some.0 c.in_ok-session.ensures.some.1
