-- What a session's thread does.
use Rattle.ipfix_session.specs.Sources.{SourceView}
use Rattle.flow_collect.specs.Promises.{SessionSent}
use Rattle.flow_collect.specs.Dealt.{given_to}
use Rattle.flow_collect.specs.declared.session_thread.Start.{Start}
use Rattle.flow_collect.specs.declared.session_thread.EndedSession.{EndedSession}

module _ {S : Type 0} (seen : S → SourceView) where
  -- what its source gave went out over its link, and it hands back both
  abbrev pub SessionRan : Start S → EndedSession S → Type 0
  SessionRan start over = SessionSent seen (given_to start) start.sender over.source over.sender over.report
