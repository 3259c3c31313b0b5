-- What all threads left, put together.
use Rattle.std.proofs.Common.{◌≡◌, ℕ, List, [], ◌∷◌, true, Some, Result, Ok, Err, refl, sym, ap, ◌∙◌, subst, map}
use Rattle.std.specs.Prelude.{All, IfErr, IfOk, slice_get}
use Rattle.std.specs.List.{AllZip}
use Rattle.std.proofs.lemmas.List.Elements.{All-head, All-tail, All-append, All-cons, All-nil}
use Rattle.ipfix_message.specs.declared.record.DataRecord.{DataRecord}
use Rattle.ipfix_session.specs.Sources.{SourceView}
use Rattle.flow_link.specs.Ends.{LinkName, ReceiverView}
use Rattle.flow_link.specs.Parcels.{has_last}
use Rattle.flow_link.specs.declared.settled.Settled.{Settled}
use Rattle.flow_table.specs.Bags.{IsSameBag}
use Rattle.flow_table.specs.Fitting.{FitsPlan}
use Rattle.flow_table.specs.Plans.{PlanValue}
use Rattle.flow_collect.specs.Dealt.{IsPaired, IsNewShare, IsNewStart, IsDealt, given_to, start_link}
use Rattle.flow_collect.specs.Finished.{HasTaken, link_ends_of, ended_link, SettlesEnds, CameOver, FinishedAs, IsOverfull, parts_of}
use Rattle.flow_collect.specs.Headline.{all_of}
use Rattle.flow_collect.specs.InFull.{FullAnswer, FullHeadline}
use Rattle.flow_collect.specs.LinkEnds.{IsEnded, WorkerRan, link_end_key, receivers_of}
use Rattle.flow_collect.specs.Places.{Each3, Each4}
use Rattle.flow_collect.specs.Promises.{IsSettled}
use Rattle.flow_collect.specs.Failures.{IsLargeRun}
use Rattle.flow_collect.specs.declared.failure.CollectFailure.{CollectFailure}
use Rattle.flow_collect.specs.Sessions.{SessionRan}
use Rattle.flow_collect.specs.declared.collected.Pool.{Pool}
use Rattle.flow_collect.specs.declared.session_context.InContext.{InContext}
use Rattle.flow_collect.specs.declared.session_thread.EndedSession.{EndedSession}
use Rattle.flow_collect.specs.declared.session_thread.Start.{Start}
use Rattle.flow_collect.specs.declared.settling.Parts.{Parts}
use Rattle.flow_collect.specs.declared.worker.LinkEnd.{LinkEnd}
use Rattle.flow_collect.specs.declared.worker.WorkerShare.{WorkerShare}
use Rattle.flow_collect.proofs.Contexts.{too_large_due}
use Rattle.flow_collect.proofs.Failures.{names_bag}
use Rattle.flow_collect.proofs.LinkEndLists.{taken_weighs}
use Rattle.flow_collect.proofs.Runs.{told, run_headline}

-- ---- workers

ended_link_ends : (link_ends : List LinkEnd) → All (λ (r : ReceiverView). has_last r.received ≡ true) (receivers_of link_ends) → All IsEnded link_ends
ended_link_ends [] h = All-nil IsEnded
ended_link_ends (link_end ∷ link_ends) h =
    let P = λ (r : ReceiverView). has_last r.received ≡ true in
    All-cons IsEnded link_end link_ends (All-head P link_end.receiver (receivers_of link_ends) h) (ended_link_ends link_ends (All-tail P link_end.receiver (receivers_of link_ends) h))

has_taken : (plan : PlanValue) (links : List LinkName) (share : WorkerShare) (w : WorkerShare) → WorkerRan share w → IsNewShare plan links share → HasTaken plan w
has_taken plan links share w ran new =
    record {
      plan_is = ran.took.plan_is ∙ new.plan_is;
      ended = ended_link_ends w.link_ends.items ran.took.ended;
      table = record { records = ran.took.records; stands = ran.took.stands; weighs = λ weight. ran.took.are_taken weight ∙ taken_weighs weight w.link_ends.items };
    }

pub all_taken : (plan : PlanValue) (links : List LinkName) (shares : List WorkerShare) (ws : List WorkerShare) → AllZip WorkerRan shares ws → All (IsNewShare plan links) shares → All (HasTaken plan) ws
all_taken plan links [] [] e h = All-nil (HasTaken plan)
all_taken plan links [] (w ∷ ws) e h = absurd e
all_taken plan links (l ∷ shares) [] e h = absurd e
all_taken plan links (l ∷ shares) (w ∷ ws) e h =
    let P = IsNewShare plan links in
    All-cons (HasTaken plan) w ws (has_taken plan links l w e.0 (All-head P l shares h)) (all_taken plan links shares ws e.1 (All-tail P l shares h))

-- what is said of the keys of ends of links alone goes over to ends of links with the same keys
all_by_keys : (P : ℕ × LinkName → Type 0) (xs ys : List LinkEnd) → map link_end_key xs ≡ map link_end_key ys → All (λ (link_end : LinkEnd). P (link_end_key link_end)) ys → All (λ (link_end : LinkEnd). P (link_end_key link_end)) xs
all_by_keys P [] ys e h = All-nil (λ (link_end : LinkEnd). P (link_end_key link_end))
all_by_keys P (x ∷ xs) [] e h = cc e
all_by_keys P (x ∷ xs) (y ∷ ys) e h =
    let Q = λ (link_end : LinkEnd). P (link_end_key link_end) in
    let first : link_end_key x ≡ link_end_key y = cc e in
    let rest : map link_end_key xs ≡ map link_end_key ys = cc e in
    All-cons Q x xs (subst P (sym first) (All-head Q y ys h)) (all_by_keys P xs ys rest (All-tail Q y ys h))

pub all_paired : (plan : PlanValue) (links : List LinkName) (shares : List WorkerShare) (ws : List WorkerShare) → AllZip WorkerRan shares ws → All (IsNewShare plan links) shares → All (IsPaired links) (link_ends_of ws)
all_paired plan links [] [] e h = All-nil (IsPaired links)
all_paired plan links [] (w ∷ ws) e h = absurd e
all_paired plan links (l ∷ shares) [] e h = absurd e
all_paired plan links (l ∷ shares) (w ∷ ws) e h =
    let P = IsNewShare plan links in
    let first = All-head P l shares h in
    All-append (IsPaired links) w.link_ends.items (link_ends_of ws)
    (all_by_keys (λ k. slice_get links k.0 ≡ Some k.1) w.link_ends.items l.link_ends.items e.0.keys first.paired)
    (all_paired plan links shares ws e.1 (All-tail P l shares h))

-- ---- sessions

module _ {S : Type 0} (seen : S → SourceView) where
  pub links_same : (starts : List (Start S)) (ts : List (EndedSession S)) → AllZip (SessionRan seen) starts ts → map ended_link ts ≡ map start_link starts
  links_same [] [] e = refl
  links_same [] (t ∷ ts) e = absurd e
  links_same (s ∷ starts) [] e = absurd e
  links_same (s ∷ starts) (t ∷ ts) e =
      let first : ended_link t ≡ start_link s = e.0.link_is in
      let rest = links_same starts ts e.1 in cc

  sessions_settled : (capacity : ℕ) (starts : List (Start S)) (ts : List (EndedSession S)) (ls : List LinkEnd) (ks : List Settled)
      → AllZip (SessionRan seen) starts ts → All (IsNewStart capacity) starts → Each3 SettlesEnds ts ls ks → All IsEnded ls
      → Each4 (IsSettled seen capacity) (map given_to starts) (map (λ (t : EndedSession S). t.source) ts) (map (λ (t : EndedSession S). t.report) ts) ks
  sessions_settled capacity [] [] [] [] e n z h = tt
  sessions_settled capacity [] (t ∷ ts) ls ks e n z h = absurd e
  sessions_settled capacity (s ∷ starts) [] ls ks e n z h = absurd e
  sessions_settled capacity (s ∷ starts) (t ∷ ts) (l ∷ ls) (k ∷ ks) e n z h =
      let new = All-head (IsNewStart capacity) s starts n in (
        record {
          new = s.sender;
          used = t.sender;
          receiver = l.receiver;
          sent = e.0;
          room = new.1;
          settles = z.0;
          took_last = All-head IsEnded l ls h;
        },
        sessions_settled capacity starts ts ls ks e.1 (All-tail (IsNewStart capacity) s starts n) z.1 (All-tail IsEnded l ls h),
      )
  sessions_settled capacity starts ts ls ks e n z h = absurd z

  came_settled : (plan : PlanValue) (pool : Pool) (sources : List (InContext S)) (starts : List (Start S)) (shares : List WorkerShare) (ts : List (EndedSession S)) (parts : Parts S) (records : List DataRecord)
      → IsDealt plan pool sources starts shares → AllZip (SessionRan seen) starts ts → CameOver ts parts records
      → Each4 (IsSettled seen pool.capacity) sources parts.sources.items parts.sessions.items parts.links.items
  came_settled plan pool sources starts shares ts parts records d e came =
      rw (sym d.sources_are, came.settled.sources_are, came.settled.reports_are) (sessions_settled pool.capacity starts ts came.link_ends parts.links.items e d.new_starts came.settled.links_are came.ended)

  finished : (plan : PlanValue) (pool : Pool) (sources : List (InContext S)) (starts : List (Start S)) (shares : List WorkerShare) (ts : List (EndedSession S)) (c : FullAnswer S)
      → IsDealt plan pool sources starts shares → AllZip (SessionRan seen) starts ts → FinishedAs plan ts c → FullHeadline seen sources plan pool c
  finished plan pool sources starts shares ts c d e f =
      let each = came_settled plan pool sources starts shares ts (parts_of c) f.records d e f.came in
      run_headline seen sources plan pool c f.records each f.came.same f.table_is f.small

  overfull : (plan : PlanValue) (pool : Pool) (sources : List (InContext S)) (starts : List (Start S)) (shares : List WorkerShare) (ts : List (EndedSession S)) (failure : CollectFailure)
      → IsDealt plan pool sources starts shares → AllZip (SessionRan seen) starts ts → IsOverfull plan ts failure → IsLargeRun seen plan sources failure
  overfull plan pool sources starts shares ts failure d e f =
      let parts = f.parts in
      let each = came_settled plan pool sources starts shares ts parts f.records d e f.came in
      let all = told seen pool.capacity sources parts.sources.items parts.sessions.items parts.links.items each in
      let same : IsSameBag f.records (all_of all.records) = subst (λ (x : List DataRecord). IsSameBag f.records x) all.all f.came.same in
      record {
        fault_is = ap (λ (x : CollectFailure). x.fault) f.failure_is;
        due = too_large_due seen plan sources parts.sources.items parts.sessions.items all.records f.records all.given same f.large;
        of_large = record {
          afters = parts.sources.items;
          reports = parts.sessions.items;
          records = all.records;
          given = all.given;
          row_is = names_bag plan f.records (all_of all.records) parts.sessions.items failure.row same f.row_is;
          session_is = ap (λ (x : CollectFailure). x.session) f.failure_is;
        };
      }

  pub answered : (plan : PlanValue) (pool : Pool) (sources : List (InContext S)) (starts : List (Start S)) (shares : List WorkerShare) (ts : List (EndedSession S)) (answer : Result (FullAnswer S) CollectFailure)
      → IsDealt plan pool sources starts shares → AllZip (SessionRan seen) starts ts → IfOk answer (FinishedAs plan ts) → IfOk answer (FullHeadline seen sources plan pool)
  answered plan pool sources starts shares ts (Err failure) d e f = tt
  answered plan pool sources starts shares ts (Ok c) d e f = finished plan pool sources starts shares ts c d e f

  pub failed : (plan : PlanValue) (pool : Pool) (sources : List (InContext S)) (starts : List (Start S)) (shares : List WorkerShare) (ts : List (EndedSession S)) (answer : Result (FullAnswer S) CollectFailure)
      → IsDealt plan pool sources starts shares → AllZip (SessionRan seen) starts ts → IfErr answer (IsOverfull plan ts) → IfErr answer (IsLargeRun seen plan sources)
  failed plan pool sources starts shares ts (Err failure) d e f = overfull plan pool sources starts shares ts failure d e f
  failed plan pool sources starts shares ts (Ok c) d e f = tt

pub fitting : {S : Type 0} (plan : PlanValue) (ts : List (EndedSession S)) (answer : Result (FullAnswer S) CollectFailure) → IfOk answer (FinishedAs plan ts) → IfOk answer (λ c. FitsPlan plan c.table)
fitting plan ts (Err failure) f = tt
fitting plan ts (Ok c) f = f.fits
