use Rattle.std.proofs.Common.{◌≡◌, [], ◌++◌, Bool, List, true, false, sym, subst, rules}
use Rattle.std.specs.Prelude.{◌≢◌, MatchBool, not}
use Rattle.ipfix_message.specs.declared.stamp.Stamp.{Stamp}
use Rattle.ipfix_session.specs.Given.{known_after}
use Rattle.recording_files.specs.Heads.{AppendsHead, number_at, stamp_at}
use Rattle.recording_files.specs.KeptOptions.{Kept}
use Rattle.recording_files.specs.Preambles.{IsStamp}
use Rattle.recording_files.specs.Recorders.{Heading, KeepsWithin, State}
use Rattle.recording_files.proofs.Keeping.{begun}
use Rattle.recording_files.proofs.Leading.{heading, no_heading, ok_for, on_ok}
use Rattle.recording_files.proofs.recorder.Recorder.append_head.Goals as goal

pub returns-then-not-is_empty-clause-head : goal.returns-then-not-is_empty-clause-head
returns-then-not-is_empty-clause-head c = λ limit before here keeps.
    let inside : State = record { domains = c.self.inside.domains; limit = c.self.inside.limit; due = c.self.inside.due.entries; here = c.self.inside.here.entries; kept = c.self.inside.kept.items } in
    let now : KeepsWithin limit inside before here = subst (λ (s : State). KeepsWithin limit s before here) (sym c.self.view_is) keeps in
    let has : c.is_empty.result ≡ false = search rules in
    let some : here ≢ [] = subst (λ (b : Bool). MatchBool (not b) (here ≢ []) (here ≡ [])) has (begun inside before here c.is_empty.result now c.is_empty.ensures) in
    no_heading before here c.args.header.now c.args.out.now.items some

pub returns-clause-head : goal.returns-clause-head
returns-clause-head c = ok_for c.args.self.now (Heading c.args.header.now c.args.out.now.items c.append_head.new.out.items) c.append_head.result (λ limit before here keeps.
    let inside : State = record { domains = c.self.inside.domains; limit = c.self.inside.limit; due = c.self.inside.due.entries; here = c.self.inside.here.entries; kept = c.self.inside.kept.items } in
    let now : KeepsWithin limit inside before here = subst (λ (s : State). KeepsWithin limit s before here) (sym c.self.view_is) keeps in
    let yes : c.is_empty.result ≡ true = search rules in
    let none : here ≡ [] = subst (λ (b : Bool). MatchBool (not b) (here ≢ []) (here ≡ [])) yes (begun inside before here c.is_empty.result now c.is_empty.ensures) in
    let ds = known_after [] (before ++ here) in
    let h = c.args.header.now in
    let is : c.stamp_at-start.result ≡ stamp_at h = c.stamp_at-start.ensures.is in
    let fits : IsStamp (stamp_at h) = subst IsStamp is c.stamp_at-start.ensures.fits in
    on_ok c.append_head.result
    (λ appends. heading inside before here h c.args.out.now.items c.append_head.new.out.items now none fits.export_time fits.sequence
    (subst (λ (ks : List Kept). AppendsHead ds (number_at inside.due (stamp_at h)) h.export_time ks c.args.out.now.items c.append_head.new.out.items) c.deref.ensures.value
    (subst (λ (s : Stamp). AppendsHead ds (number_at inside.due s) s.export_time c.deref.result.now c.args.out.now.items c.append_head.new.out.items) is appends)))
    (c.append_head.ensures now.not_spent ds now.known))
