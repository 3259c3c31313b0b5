-- Lines that are told one after another, and a session whose lines stand between others.
use Rattle.std.proofs.Common.{◌≡◌, ℕ, List, ◌++◌, Option, Some, None, Result, Ok, Err, inl, inr, sym, subst}
use Rattle.std.proofs.KnownBytes.{Appends-trans}
use Rattle.std.specs.Prelude.{IfSome}
use Rattle.std.specs.Result.{result_and}
use Rattle.ipfix_session.specs.Sources.{one_more}
use Rattle.ipfix_session.specs.declared.session_limits.SessionLimits.{SessionLimits}
use Rattle.report_writing.specs.Lines.{LinesView}
use Rattle.report_writing.specs.Writing.{Tells}
use Rattle.report_writing.specs.declared.verbosity.Verbosity.{Verbosity}
use Rattle.recording_connections.specs.Serving.{IsServed, MakesRecordings, Views}
use Rattle.recording_connections.specs.declared.connection.Connection.{Connection}
use Rattle.recording_connections.specs.declared.shared_counts.SessionNumber.{SessionNumber}
use Rattle.recording_connections.specs.declared.shared_counts.SharedCounts.{SharedCounts}

-- the counts before a session are some counts
pub next-of : (before : SharedCounts) (session : Option SessionNumber) → IfSome session (λ s. s.number ≡ one_more before.sessions) → IfSome session (λ s. (counts : SharedCounts) × (s.number ≡ one_more counts.sessions))
next-of before None next = next
next-of before (Some s) next = (before, next)

module _ {W A E : Type 0} (out_lines : W → LinesView) (old mid new : W) (xs ys : List ℕ) where
  both-told : (first second : Result A E) → Tells out_lines old mid first xs → Tells out_lines mid new second ys → Tells out_lines old new (result_and first second) (xs ++ ys)
  both-told (Ok a) (Ok b) one two = record {
    told = Appends-trans (out_lines old).contents (out_lines mid).contents (out_lines new).contents xs ys one.told two.told;
    failed = two.failed;
    kept = λ had. two.kept (one.kept had);
  }
  both-told (Ok a) (Err e) one two = record {
    told = two.told;
    failed = two.failed;
    kept = λ had. two.kept (one.kept had);
  }
  both-told (Err e) second one two = record {
    told = one.told;
    failed = two.kept one.failed;
    kept = λ had. two.kept (one.kept had);
  }

  pub told-and : (first second result : Result A E) → result ≡ result_and first second → Tells out_lines old mid first xs → Tells out_lines mid new second ys → Tells out_lines old new result (xs ++ ys)
  told-and first second result is one two = subst (λ (r : Result A E). Tells out_lines old new r (xs ++ ys)) (sym is) (both-told first second one two)

module _ {S F C : Type 0} (sees : Views S F C) (makes : MakesRecordings F C) where
  pub served-told : (before after : Connection S) (number : ℕ) (limits : SessionLimits) (verbosity : Verbosity) (tells tells' : List ℕ → Type 0) → ((lines : List ℕ) → tells lines → tells' lines)
      → IsServed sees makes before after number limits verbosity tells → IsServed sees makes before after number limits verbosity tells'
  served-told before after number limits verbosity tells tells' more (inl (recording, made, was)) = inl (
    recording,
    made,
    record {
      session = was.session;
      written = was.written;
      asked_last = was.asked_last;
      recorded = was.recorded;
      end = was.end;
      is_end = was.is_end;
      said = was.said;
      is_said = was.is_said;
      told = more _ was.told;
    },
  )
  served-told before after number limits verbosity tells tells' more (inr (lack, made, same, told)) = inr (lack, made, same, more _ told)
