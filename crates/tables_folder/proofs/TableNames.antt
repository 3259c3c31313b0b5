-- The names of tables that are those of no period.
use Rattle.std.proofs.Common.{◌≡◌, ◌∙◌, ℕ, List, ◌++◌, codes, sym, subst}
use Rattle.std.specs.Prelude.{◌≢◌, IfNone, IfSome, Option, None, Some}
use Rattle.std.proofs.lemmas.List.{append_cancel_right}
use Rattle.recording_names.specs.declared.period.Period.{Period}
use Rattle.recording_periods.specs.PeriodFolders.{HasNoPeriod, IsPeriodAt}
use Rattle.tables_folder.specs.FoundPeriods.{HasNoTable, IsTableAt}

-- they have another ending
pub other_ending : (day name : List ℕ) → ((front : List ℕ) → name ≢ front ++ codes ".ipfix") → HasNoTable day name
other_ending day name none begins early is = none is.0 is.1

-- what stands before it is none's
pub no_time : (day name time : List ℕ) → name ≡ time ++ codes ".ipfix" → HasNoPeriod day time → HasNoTable day name
no_time day name time named none begins early is =
    none begins early (subst (IsPeriodAt begins day) (append_cancel_right is.0 time (codes ".ipfix") (sym is.1 ∙ named)) is.2)

-- by what was read of it
module _ (day name time : List ℕ) (named : name ≡ time ++ codes ".ipfix") where
  pub no_table_if : (read : Option Period) → IfNone read (HasNoPeriod day time) → IfNone read (HasNoTable day name)
  no_table_if None none = no_time day name time named none
  no_table_if (Some period) none = tt

  pub table_if : (read : Option Period) → IfSome read (λ period. IsPeriodAt period.begins day time) → IfSome read (λ period. IsTableAt period.begins day name)
  table_if None is = tt
  table_if (Some period) is = (time, named, is)
