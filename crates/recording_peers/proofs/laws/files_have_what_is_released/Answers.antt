use Rattle.std.proofs.Common.{subst, ap, ◌∙◌}
use Rattle.recording_order.specs.Releases.{released}
use Rattle.recording_peers.specs.Happenings.{datagrams_of, events_of}
use Rattle.recording_peers.specs.Kept.{HasRecorded, says_of}
use Rattle.recording_peers.specs.Standings.{course_of}
use Rattle.recording_peers.proofs.SessionSteps.{release-stands}
use Rattle.recording_peers.proofs.laws.files_have_what_is_released.Goals as goal

pub returns-clause-released : goal.returns-clause-released
returns-clause-released g c = λ old new limits hs s f. release-stands g.F.FileSeries.seen (record { asked = c.only_what_was_handed_on_is_asked.ensures.run; step_alike = c.counts_change_nothing.ensures.step; finish_alike = c.counts_change_nothing.ensures.finish; told = c.counts_change_nothing.ensures.told }) limits old new hs s f

pub returns-clause-off : goal.returns-clause-off
returns-clause-off g c = λ r none.
    let says = says_of r.recording.said in
    let events = events_of r.happened in
    subst (λ xs. HasRecorded g.F.FileSeries.seen r.session r.recording (datagrams_of xs)) (ap (λ n. released says n events) none ∙ c.with_no_seconds_nothing_changes.ensures says events) r.is.1

pub returns-clause-in_order : goal.returns-clause-in_order
returns-clause-in_order g c = λ r next.
    subst (λ xs. HasRecorded g.F.FileSeries.seen r.session r.recording (datagrams_of xs)) (c.in_order_nothing_changes.ensures (course_of r) next) r.is.1
