-- What is known once all threads have been joined.
use Rattle.std.specs.Prelude.{◌≡◌, List, ◌∷◌, [], ◌++◌, map, All}
use Rattle.std.specs.List.{flat_map}
use Rattle.ipfix_message.specs.declared.record.DataRecord.{DataRecord}
use Rattle.flow_link.specs.Ends.{LinkName}
use Rattle.flow_link.specs.Settling.{Settles}
use Rattle.flow_link.specs.declared.settled.Settled.{Settled}
use Rattle.flow_table.specs.Bags.{IsSameBag}
use Rattle.flow_table.specs.Fitting.{FitsPlan}
use Rattle.flow_table.specs.Partials.{plan_of}
use Rattle.flow_table.specs.Plans.{PlanValue}
use Rattle.flow_table.specs.Tables.{IsTable, IsTooLarge}
use Rattle.flow_collect.specs.LinkEnds.{StandsForLinkEnds, IsEnded, link_ends_in}
use Rattle.flow_collect.specs.Failures.{NamesLarge, large_failure}
use Rattle.flow_collect.specs.InFull.{FullAnswer}
use Rattle.flow_collect.specs.Places.{Each3}
use Rattle.flow_collect.specs.Promises.{settled_records}
use Rattle.flow_collect.specs.declared.failure.CollectFailure.{CollectFailure}
use Rattle.flow_collect.specs.declared.session_thread.EndedSession.{EndedSession}
use Rattle.flow_collect.specs.declared.settling.Parts.{Parts}
use Rattle.flow_collect.specs.declared.worker.LinkEnd.{LinkEnd}
use Rattle.flow_collect.specs.declared.worker.WorkerShare.{WorkerShare}

-- a worker took Last of each of its ends of links, and has the table of all that came over them
pub record HasTaken (plan : PlanValue) (w : WorkerShare) : Type 0 where
  pub plan_is : plan_of w.partial ≡ plan
  pub ended : All IsEnded w.link_ends.items
  pub table : StandsForLinkEnds w.partial w.link_ends.items

abbrev pub link_ends_of : List WorkerShare → List LinkEnd
link_ends_of ws = flat_map link_ends_in ws

-- for each plan under which all of these workers took what came
abbrev pub ForPlanOf : List WorkerShare → (PlanValue → Type 0) → Type 0
ForPlanOf ws P = (plan : PlanValue) → All (HasTaken plan) ws → P plan

-- as if one worker had taken all that these took
pub record IsMerged (ws : List WorkerShare) (all : WorkerShare) : Type 0 where
  pub link_ends_are : link_ends_in all ≡ link_ends_of ws
  pub table : StandsForLinkEnds all.partial all.link_ends.items
  pub plan_is : ForPlanOf ws (λ plan. plan_of all.partial ≡ plan)

module _ {S : Type 0} where
  abbrev pub ended_link : EndedSession S → LinkName
  ended_link t = t.sender.link

  -- both ends of the link were settled
  abbrev pub SettlesEnds : EndedSession S → LinkEnd → Settled → Type 0
  SettlesEnds t link_end link = Settles t.sender link_end.receiver link

  -- of each session its report, its settled link and its source
  pub record SettledAll (ts : List (EndedSession S)) (link_ends : List LinkEnd) (parts : Parts S) : Type 0 where
    pub reports_are : parts.sessions.items ≡ map (λ (t : EndedSession S). t.report) ts
    pub sources_are : parts.sources.items ≡ map (λ (t : EndedSession S). t.source) ts
    pub links_are : Each3 SettlesEnds ts link_ends parts.links.items

  -- one session more
  pub record SettlesOne (t : EndedSession S) (link_end : LinkEnd) (old new : Parts S) : Type 0 where
    pub link : Settled
    pub reports_are : new.sessions.items ≡ old.sessions.items ++ t.report ∷ []
    pub links_are : new.links.items ≡ old.links.items ++ link ∷ []
    pub sources_are : new.sources.items ≡ old.sources.items ++ t.source ∷ []
    pub settled : SettlesEnds t link_end link

  -- all links were settled once Last had been taken, and these are the records that came over them, in some order
  pub record CameOver (ts : List (EndedSession S)) (parts : Parts S) (records : List DataRecord) : Type 0 where
    pub link_ends : List LinkEnd
    pub settled : SettledAll ts link_ends parts
    pub ended : All IsEnded link_ends
    pub same : IsSameBag records (settled_records parts.links.items)

  abbrev pub parts_of : FullAnswer S → Parts S
  parts_of c = record { sessions = c.sessions; links = c.links; sources = c.sources }

  -- the table is of these records
  pub record FinishedAs (plan : PlanValue) (ts : List (EndedSession S)) (c : FullAnswer S) : Type 0 where
    pub records : List DataRecord
    pub came : CameOver ts (parts_of c) records
    pub table_is : IsTable plan records c.table
    pub small : IsTooLarge plan records → ⊥
    pub fits : FitsPlan plan c.table

  -- or these records are too large, in this row, and sessions tell this of great counters
  pub record IsOverfull (plan : PlanValue) (ts : List (EndedSession S)) (failure : CollectFailure) : Type 0 where
    pub parts : Parts S
    pub records : List DataRecord
    pub came : CameOver ts parts records
    pub large : IsTooLarge plan records
    pub row_is : NamesLarge plan records parts.sessions.items failure.row
    pub failure_is : failure ≡ large_failure failure.row parts.sessions.items
