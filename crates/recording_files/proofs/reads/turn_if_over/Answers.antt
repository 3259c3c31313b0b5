use Rattle.std.proofs.Common.{◌≡◌, [], ap, subst, ◌∙◌}
use Rattle.std.specs.Prelude.{◌⊎◌}
use Rattle.recording_files.specs.declared.file_report.FileReport.{FileReport}
use Rattle.recording_files.specs.Files.{failing, with_next}
use Rattle.recording_files.specs.Faithful.{all_given}
use Rattle.recording_files.proofs.Going.{unbegun, has_turned, ends_turning}
use Rattle.recording_files.proofs.reads.turn_if_over.Goals as goal

pub returns-then-not-is_over-clause-turned : goal.returns-then-not-is_over-clause-turned
returns-then-not-is_over-clause-turned g c = λ p left b. rw c.if-not-is_over.true b

pub returns-then-not-has_begun-clause-turned : goal.returns-then-not-has_begun-clause-turned
returns-then-not-has_begun-clause-turned g c = λ p left b.
    let none : b.last.given ≡ [] = rw c.if-not-has_begun.true at (c.has_begun.ensures p.limit (all_given b.finished) b.last.given b.keeps) in
    rw c.if-not-is_over.false (unbegun b none)

pub returns-in-Ok-clause-turned : goal.returns-in-Ok-clause-turned
returns-in-Ok-clause-turned g c = λ p left b.
    let some = rw c.if-not-has_begun.false at (c.has_begun.ensures p.limit (all_given b.finished) b.last.given b.keeps) in
    rw c.if-not-is_over.false (has_turned b some _ _ (c.in-Ok.ensures ∙ ap (with_next (g.F.FileSeries.seen c.args.files.now)) c.file_report-report.ensures)
    (c.turn-in-Ok.ensures p.limit (all_given b.finished) b.last.given b.keeps) (c.turn-in-Ok-2.ensures.told (all_given b.finished) b.last.given b.counted))

pub returns-in-Err-clause-stops : goal.returns-in-Err-clause-stops
returns-in-Err-clause-stops g c = λ p left piece b.
    let some = rw c.if-not-has_begun.false at (c.has_begun.ensures p.limit (all_given b.finished) b.last.given b.keeps) in
    let v = g.F.FileSeries.seen c.args.files.now in
    let after = g.F.FileSeries.seen c.turn.new.self in
    rw c.if-not-is_over.false (tt, ends_turning b some piece after (subst (λ (f : FileReport). (after ≡ failing v) ⊎ (after ≡ failing (with_next v f))) c.file_report-report.ensures c.in-Err.ensures))
