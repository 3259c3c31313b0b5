use Rattle.std.proofs.Common.{◌≡◌, ◌∙◌, ℕ, ◌+◌, List, ◌++◌, ◌∷◌, [], length, take, map, ap, sym, subst, arith, rules}
use Rattle.std.proofs.lemmas.List.{take_all}
use Rattle.std.specs.Io.KnownBytes.{Appends}
use Rattle.std.proofs.KnownBytes.{Appends-nil, Appends-trans}
use Rattle.ipfix_session.specs.declared.report.FullReport.{FullReport}
use Rattle.report_sessions.specs.EndedSessions.{AreEnded, EndedSession}
use Rattle.report_sessions.specs.ToldLines.{origin_of, told_lines, told_session}
use Rattle.report_writing.proofs.Numbering.{numbered-last}
use Rattle.report_writing.specs.declared.origin.Origin.{Origin}
use Rattle.report_sessions.proofs.Ended.{ended_count, ended_more, none_ended, unsaid, without_failure}
use Rattle.report_sessions.proofs.Untold.{told_plain}
use Rattle.report_sessions.proofs.told_reports.write_told_reports.Goals as goal

pub loop-index-init : goal.loop-index-init
loop-index-init g c = record {
  told = record { ended = []; are_ended = none_ended g.S.Source.failure c.args.sources.now; told = Appends-nil _ };
  kept = λ failed. failed;
}

pub loop-index-preserved : goal.loop-index-preserved
loop-index-preserved g c =
    let a = c.args in
    let so_far = c.loop-index.invariant.told in
    let full = c.index-reports-index.result in
    let new : EndedSession = record { full = full; failure = c.failure_of-failure.result } in
    let lines = λ (n : ℕ) (e : EndedSession). told_session a.verbosity a.elements.now n (origin_of a.origins.now n) e.failure e.full in
    let are = ended_more g.S.Source.failure a.sources.now a.reports.now c.loop-index.index full so_far.ended new.failure c.loop-index-test.true c.index-reports-index.is so_far.are_ended c.failure_of-failure.ensures in
    let session : length so_far.ended + 1 ≡ c.loop-index.index + 1 = omega (arith, ended_count g.S.Source.failure a.sources.now a.reports.now c.loop-index.index so_far.ended c.loop-index-test.true so_far.are_ended) in
    let more = numbered-last lines so_far.ended new ∙ ap (λ (n : ℕ). told_lines a.verbosity a.elements.now a.origins.now so_far.ended ++ lines n new) session in
    let own = ap (λ (o : Origin). told_lines a.verbosity a.elements.now a.origins.now so_far.ended ++ told_session a.verbosity a.elements.now (c.loop-index.index + 1) o new.failure full) (sym c.origin_at-origin.ensures) in
    let out_lines = g.W.WriteLines.lines in
    record {
      told = record {
        ended = so_far.ended ++ new ∷ [];
        are_ended = are;
        told = subst (λ l. Appends (out_lines a.out.now).contents (out_lines c.write_told_session.new.out).contents l) (sym (more ∙ own))
            (Appends-trans _ _ _ (told_lines a.verbosity a.elements.now a.origins.now so_far.ended) _ so_far.told c.in_ok-write_told_session.ensures.told);
      };
      kept = λ failed. c.write_told_session.ensures.kept (c.loop-index.invariant.kept failed);
    }

pub returns-clause-told : goal.returns-clause-told
returns-clause-told g c =
    let all : take c.loop-index.index c.args.reports.now ≡ c.args.reports.now = take_all _ c.args.reports.now (omega (arith, c.loop-index-test.false)) in
    let told = c.loop-index.invariant.told in
    record {
      ended = told.ended;
      are_ended = subst (λ (fulls : List FullReport). AreEnded g.S.Source.failure c.args.sources.now fulls told.ended) all told.are_ended;
      told = record { told = told.told; failed = tt; kept = c.loop-index.invariant.kept };
    }

pub returns-clause-plain : goal.returns-clause-plain
returns-clause-plain g c = λ verbose strict.
    let out_lines = g.W.WriteLines.lines in
    let a = c.args in
    let all : take c.loop-index.index a.reports.now ≡ a.reports.now = take_all _ a.reports.now (omega (arith, c.loop-index-test.false)) in
    let told = c.loop-index.invariant.told in
    subst (λ (l : List ℕ). Appends (out_lines a.out.now).contents (out_lines c.loop-index.out).contents l) (told_plain a.verbosity verbose strict a.elements.now a.origins.now told.ended a.reports.now (told.are_ended.reports ∙ all)) told.told

pub returns-in_err-write_told_session-clause-told : goal.returns-in_err-write_told_session-clause-told
returns-in_err-write_told_session-clause-told g c = record {
  ended = map without_failure c.args.reports.now;
  are_ended = unsaid g.S.Source.failure c.args.sources.now c.args.reports.now;
  told = record {
    told = search rules;
    failed = search rules;
    kept = λ failed. c.write_told_session.ensures.kept (c.loop-index.invariant.kept failed);
  };
}
