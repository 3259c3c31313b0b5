-- Whose the files of a period are.
use Rattle.std.specs.Prelude.{◌≡◌, List, [], ◌∷◌, ℕ, Option, MatchOption}
use Rattle.std.specs.Borrow.{Bor}
use Rattle.std.specs.declared.net.ip_addr.IpAddr.{IpAddr}
use Rattle.exporter_names.specs.RecordedExporters.{IsRecordedExporter}
use Rattle.command_collect.specs.declared.job.CollectJob.{CollectJob}

-- the peer in the name of the file of a path, if it has such a name
abbrev pub IsExporterOf : List ℕ → Option IpAddr → Type 0
IsExporterOf path told = MatchOption told ((a : IpAddr) → ¬ IsRecordedExporter path a) (IsRecordedExporter path)

-- the same of each path, by its place
abbrev pub AreExportersOf : List (Bor (List ℕ)) → List (Option IpAddr) → Type 0
AreExportersOf [] [] = Unit {0}
AreExportersOf (path ∷ paths) (told ∷ others) = IsExporterOf path.now told × AreExportersOf paths others
AreExportersOf paths told = ⊥

-- the same job, with the exporters that the names of these files say
pub record IsJobWith (job : CollectJob) (paths : List (Bor (List ℕ))) (with_exporters : CollectJob) : Type 0 where
  pub exporters : Bor (List (Option IpAddr))
  pub are_exporters : AreExportersOf paths exporters.now
  pub same : with_exporters ≡ record job { exporters = exporters }
