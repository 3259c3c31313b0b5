-- What the command needs before its first round.
use Rattle.std.specs.Prelude.{◌≡◌, ◌≢◌, ◌⊎◌, ◌==◌, ℕ, Bool, true, false, if◌then◌else◌, List, [], ◌∷◌, ◌++◌, Any, bytes_eq, codes, map, Option, None, Some}
use Rattle.std.specs.Borrow.{Bor}
use Rattle.std.specs.List.{AllZip, list_any}
use Rattle.std.specs.IoError.{error_kind}
use Rattle.command_collect.specs.CollectLines.{collect_fault_line}
use Rattle.command_collect.specs.Engines.{due_fault}
use Rattle.command_collect.specs.declared.engine.Engine.{Engine}
use Rattle.flow_collect.specs.declared.fault.CollectFault.{CollectFault}
use Rattle.report_writing.specs.Lines.{LinesView}
use Rattle.report_writing.specs.FaultLines.{not_had_line}
use Rattle.report_writing.specs.Reasons.{reason_of, words_of}
use Rattle.report_writing.specs.Told.{AreToldTo}
use Rattle.report_writing.specs.declared.status.Status.{Status}
use Rattle.report_writing.specs.declared.status.Status.TheVariants.{NotOpened, Failed}
use Rattle.tables_folder.specs.PlanNames.{IsPlanName}
use Rattle.command_tables.specs.declared.opening.NamedPlan.{NamedPlan}
use Rattle.tables_folder.specs.declared.plan_tables.PlanFault.{PlanFault}
use Rattle.tables_folder.specs.declared.plan_tables.PlanFault.TheVariants.{OtherPlan, NotHad}

-- a name that begins with a full stop: folders of tables have names of their own that do
abbrev pub is_hidden : List ℕ → Bool
is_hidden [] = false
is_hidden (octet ∷ rest) = octet == 46

-- the folder of a plan's tables has its name
pub record IsFolderName (path name : List ℕ) : Type 0 where
  pub is_plan : IsPlanName path name
  pub some : name ≢ []
  pub shown : is_hidden name ≡ false

unfoldable pub nameless_line : List ℕ → List ℕ
nameless_line path = codes "error: the plan '" ++ (path ++ codes "' has no name for a folder\n")

-- the first name that stands again after it
abbrev pub name_twice : List (List ℕ) → Option (List ℕ)
name_twice [] = None
name_twice (name ∷ rest) = if list_any (bytes_eq name) rest then Some name else name_twice rest

unfoldable pub twice_line : List ℕ → List ℕ
twice_line name = codes "error: two plans have the name '" ++ (name ++ codes "'\n")

-- the plan of this path, with the name of its folder
pub record IsPlanOf (path : Bor (List ℕ)) (plan : NamedPlan) : Type 0 where
  pub path_is : plan.path ≡ path
  pub named : IsFolderName path.now plan.name.now

abbrev pub names_of : List NamedPlan → List (List ℕ)
names_of plans = map (λ (plan : NamedPlan). plan.name.now) plans

abbrev pub ArePlansOf : List (Bor (List ℕ)) → List NamedPlan → Type 0
ArePlansOf paths plans = AllZip IsPlanOf paths plans

-- no two of them have the same name
pub record AreNamed (paths : List (Bor (List ℕ))) (plans : List NamedPlan) : Type 0 where
  pub plans_of : ArePlansOf paths plans
  pub differ : name_twice (names_of plans) ≡ None

-- why the tables of a plan can't be put
abbrev pub plan_line : List ℕ → List ℕ → PlanFault → List ℕ
plan_line into name OtherPlan = not_had_line (codes "tables of another plan") name
plan_line into name (NotHad error) = not_had_line (codes "folder") (into ++ (codes ": " ++ words_of (reason_of (error_kind error))))

module _ {E : Type 0} (lines : E → LinesView) (before after : E) where
  -- an engine that can't collect, even from one file
  pub record IsRefused (engine : Engine) (status : Status) : Type 0 where
    pub fault : CollectFault
    pub due : due_fault engine 1 ≡ Some fault
    pub told : AreToldTo lines before after (collect_fault_line fault)
    pub status_is : status ≡ Failed

  -- a plan that has no name for a folder
  pub record IsNameless (path : List ℕ) (status : Status) : Type 0 where
    pub name : List ℕ
    pub is_plan : IsPlanName path name
    pub none : (name ≡ []) ⊎ (is_hidden name ≡ true)
    pub told : AreToldTo lines before after (nameless_line path)
    pub status_is : status ≡ NotOpened

  -- one of these plans has none; or memory ran out
  abbrev pub HaveOneNameless : List (Bor (List ℕ)) → Status → Type 0
  HaveOneNameless paths status = Any (λ path. IsNameless path.now status) paths ⊎ ((status ≡ Failed) × (after ≡ before))

  -- two of them have one name
  pub record HaveOneName (paths : List (Bor (List ℕ))) (status : Status) : Type 0 where
    pub plans : List NamedPlan
    pub plans_of : ArePlansOf paths plans
    pub name : List ℕ
    pub twice : name_twice (names_of plans) ≡ Some name
    pub told : AreToldTo lines before after (twice_line name)
    pub status_is : status ≡ NotOpened

  abbrev pub AreNotNamed : List (Bor (List ℕ)) → Status → Type 0
  AreNotNamed paths status = HaveOneNameless paths status ⊎ HaveOneName paths status
