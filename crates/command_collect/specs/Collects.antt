-- How a command ended that collects from files or from connections.
use Rattle.std.specs.Prelude.{◌≡◌, ◌≢◌, ◌⊎◌, ◌<◌, ℕ, List, [], IfNone, IfSome, Option, map}
use Rattle.std.specs.Borrow.{Bor}
use Rattle.std.specs.Duration.{as_nanos}
use Rattle.std.specs.declared.io.ErrorKind.{ErrorKind}
use Rattle.std.specs.declared.net.socket_addr.SocketAddr.{SocketAddr}
use Rattle.std.specs.declared.time.Duration.{Duration}
use Rattle.ipfix_session.specs.Sources.{SourceView}
use Rattle.report_writing.specs.OpeningLines.{if_verbose, listening_line}
use Rattle.report_writing.specs.Statuses.{number_of}
use Rattle.report_writing.specs.declared.status.Status.{Status}
use Rattle.report_writing.specs.declared.status.Status.TheVariants.{Well, SessionFault, NotOpened, Failed}
use Rattle.report_writing.specs.declared.verbosity.TheConstants.{NOTHING_MORE}
use Rattle.report_writing.specs.declared.verbosity.Verbosity.{Verbosity}
use Rattle.flow_table.specs.Plans.{PlanValue}
use Rattle.report_writing.specs.declared.origin.Origin.{Origin}
use Rattle.report_writing.specs.declared.reason.Reason.{Reason}
use Rattle.input_sources.specs.Had.{AreAccepted, PathsAreOpened}
use Rattle.input_sources.specs.Origins.{AreFiles, ArePeers}
use Rattle.output_tables.specs.declared.output.Output.{Output}
use Rattle.command_collect.specs.Runs.{RunsJob, RunsPlainly, RunsSources}
use Rattle.command_collect.specs.CollectLines.{collect_fault_line}
use Rattle.command_collect.specs.Engines.{due_fault, fault_of_engine}
use Rattle.command_collect.specs.Told.{TellsBehind, TellsNotAccepted, TellsNotOpened}
use Rattle.command_collect.specs.declared.engine.Engine.{Engine}
use Rattle.command_collect.specs.declared.job.CollectJob.{CollectJob}
use Rattle.command_collect.specs.declared.job.Connections.{Connections}

-- what the status of a command says that has sources to collect from: they were had and run, and how that ended; or they
-- weren't had, and how that was reported
pub record Collects (status : ℕ) (IsUntouched Ran TellsNotHad : Type 0) : Type 0 where
  pub statuses : (status ≡ number_of Well) ⊎ (status ≡ number_of SessionFault) ⊎ (status ≡ number_of NotOpened) ⊎ (status ≡ number_of Failed)
  pub ran : status ≢ number_of NotOpened → Ran
  -- nothing was written unless all were had
  pub not_had : status ≡ number_of NotOpened → IsUntouched
  pub stopped : status ≡ number_of NotOpened → TellsNotHad

-- a fact that holds if an engine has a fault with however many sources
abbrev pub IfUnfit : Engine → Type 0 → Type 0
IfUnfit engine P = IfSome (fault_of_engine engine) (λ any. P)

-- a fact that holds if it has none
abbrev pub IfFits : Engine → Type 0 → Type 0
IfFits engine P = IfNone (fault_of_engine engine) P

-- if it has one, the fault that it has with so many sources is told
abbrev pub TellsUnfit : Engine → ℕ → (List ℕ → Type 0) → Type 0
TellsUnfit engine count AreTold = IfUnfit engine (IfSome (due_fault engine count) (λ fault. AreTold (collect_fault_line fault)))

-- a fact that holds if there is to be a connection, and it has a limit of no time
abbrev pub IfNoTimeFor : Option Duration → ℕ → Type 0 → Type 0
IfNoTimeFor idle count P = IfSome idle (λ limit. as_nanos limit ≡ 0 → 0 < count → P)

abbrev pub IfNoTime : Connections → Type 0 → Type 0
IfNoTime to P = IfNoTimeFor to.idle to.count P

-- with how sources are had, and how it is told that they aren't
module _ {S W : Type 0} (seen : S → SourceView) (AreHad : List S → Type 0) (TellsNotHad : Type 0) (contents : W → Option (List ℕ)) (old new : W) (AreTold : List ℕ → Type 0) (status : ℕ) where
  -- the table of the sources was written, and nothing else; the lines of their sessions and of the table's counts were told,
  -- and nothing else; and at a failure the line of the fault alone
  abbrev pub CollectsPlainly : PlanValue → Engine → Output → Type 0
  CollectsPlainly plan engine output =
      Collects status (new ≡ old) (RunsSources seen AreHad (λ sources. RunsPlainly contents old new AreTold seen sources plan engine output status)) TellsNotHad

  -- the same of a job, by the names that elements have under its files, and told in full: after the first lines, with origins
  abbrev pub CollectsJob : (S → Option ErrorKind) → CollectJob → (List S → List Origin → Type 0) → List ℕ → Type 0
  CollectsJob failure job AreOrigins first =
      Collects status (new ≡ old)
      (RunsSources seen AreHad (λ sources. TellsBehind (AreOrigins sources) job.verbosity first AreTold (λ origins Told. RunsJob contents old new Told seen failure sources job origins status)))
      TellsNotHad

-- from the files of these paths: each that was had is told, and then the path that can't be opened
module _ {S O W : Type 0} (seen : S → SourceView) (opens : O → List ℕ → S → Type 0) (sizes : O → List ℕ → Option ℕ → Type 0) (refuses : O → List ℕ → Reason → Type 0) (coming : O → Option (List S)) (before after : O) (paths : List (Bor (List ℕ)))
    (contents : W → Option (List ℕ)) (old new : W) (AreTold : List ℕ → Type 0) where
  abbrev WereOpened : List S → Type 0
  WereOpened sources = PathsAreOpened opens coming before after paths sources

  abbrev TellsPath : Verbosity → Type 0
  TellsPath verbosity = TellsNotOpened (sizes before) (refuses before) (map (λ (path : Bor (List ℕ)). path.now) paths) verbosity AreTold

  abbrev pub CollectsFilesPlainly : ℕ → PlanValue → Engine → Output → Type 0
  CollectsFilesPlainly status plan engine output =
      CollectsPlainly seen WereOpened (TellsPath NOTHING_MORE) contents old new AreTold status plan engine output

  abbrev pub CollectsFiles : (S → Option ErrorKind) → Status → CollectJob → Type 0
  CollectsFiles failure status job =
      CollectsJob seen WereOpened (TellsPath job.verbosity) contents old new AreTold (number_of status) failure job (λ sources. AreFiles (sizes before) paths) []

-- from so many connections with this limit, at an address: each that was had is told, with its peer, and then the address that
-- gives none
module _ {S L : Type 0} (seen : S → SourceView) (gives : L → Option Duration → S → Type 0) (is_of : L → S → SocketAddr → Type 0) (refuses : L → Reason → Type 0) (coming : L → Option (List S)) (before after : L) where
  abbrev AreConnections : Option Duration → ℕ → List S → Type 0
  AreConnections idle count sources = AreAccepted (gives before idle) count (coming before) (coming after) sources

  abbrev pub CollectsConnectionsPlainly : {W : Type 0} → Option Duration → ℕ → List ℕ → (W → Option (List ℕ)) → W → W → (List ℕ → Type 0) → ℕ → PlanValue → Engine → Output → Type 0
  CollectsConnectionsPlainly idle count address contents old new AreTold status plan engine output =
      CollectsPlainly seen (AreConnections idle count) (TellsNotAccepted (is_of before) (refuses before) NOTHING_MORE [] address AreTold) contents old new AreTold status plan engine output

  abbrev pub CollectsConnections : {W : Type 0} → Connections → (W → Option (List ℕ)) → W → W → (List ℕ → Type 0) → (S → Option ErrorKind) → Status → CollectJob → Type 0
  CollectsConnections to contents old new AreTold failure status job =
      let first = if_verbose job.verbosity (listening_line to.address.now to.count) in
      let TellsNone = TellsNotAccepted (is_of before) (refuses before) job.verbosity first to.address.now AreTold in
      CollectsJob seen (AreConnections to.idle to.count) TellsNone contents old new AreTold (number_of status) failure job (ArePeers (is_of before)) first
