-- What a verbose run names where a sum is too large.
use Rattle.std.specs.Prelude.{ℕ, ◌+◌, List, [], ◌∷◌, ◌++◌, map, codes, decimal, if◌then◌else◌, slice_get, unwrap_or, Option, Some, None}
use Rattle.ipfix_wire.specs.declared.specifier.ElementId.{ElementId}
use Rattle.std.specs.List.{flat_map}
use Rattle.ipfix_elements.specs.Texts.{cell_text}
use Rattle.ipfix_elements.specs.declared.cell.Cell.{Cell}
use Rattle.flow_table.specs.Plans.{PlanValue}
use Rattle.flow_table.specs.declared.key.Key.{Key}
use Rattle.flow_table.specs.declared.table.RowPlace.{RowPlace}
use Rattle.flow_export.specs.CsvText.{line}
use Rattle.flow_export.specs.Intervals.{first_in, last_in}
use Rattle.flow_export.specs.Shown.{shown_cells}
use Rattle.flow_export.specs.Written.{next_cell}
use Rattle.flow_export.specs.declared.intervals.Intervals.TheVariants.{OfPlan}
use Rattle.flow_collect.specs.declared.failure.CollectFailure.{CollectFailure}
use Rattle.report_writing.specs.OpeningLines.{if_verbose}
use Rattle.report_writing.specs.Origins.{session_start}
use Rattle.report_writing.specs.declared.origin.Origin.{Origin}
use Rattle.report_writing.specs.declared.origin.Origin.TheVariants.{Unknown}
use Rattle.report_writing.specs.declared.verbosity.Verbosity.{Verbosity}
use Rattle.command_collect.specs.CollectLines.{collect_fault_line}

-- the counters of a plan of which it is noted whether one is above 2^63
abbrev pub noted_counters : Verbosity → PlanValue → Option (List ElementId)
noted_counters verbosity plan = if verbosity.verbose then Some plan.counters else None

-- the first fields of a row's line in CSV: its interval and its key
abbrev pub place_texts : PlanValue → RowPlace → List (List ℕ)
place_texts plan row =
    decimal (first_in OfPlan plan row.interval) ∷ decimal (last_in OfPlan plan row.interval) ∷ map cell_text (shown_cells plan.keys row.key.items)

-- how that line begins: a first and a last millisecond
unfoldable pub interval_text : ℕ → ℕ → List ℕ
interval_text first last = codes "collectd: collect: too large: " ++ (decimal first ++ (codes "," ++ decimal last))

-- those of an interval
abbrev pub interval_start : PlanValue → ℕ → List ℕ
interval_start plan interval = interval_text (first_in OfPlan plan interval) (last_in OfPlan plan interval)

-- and how it goes on: a comma and a cell for each of its key, as tables show it
abbrev pub next_cells : List Key → List Cell → List ℕ
next_cells keys cells = flat_map next_cell (shown_cells keys cells)

abbrev pub row_line : PlanValue → RowPlace → List ℕ
row_line plan row = codes "collectd: collect: too large: " ++ line (place_texts plan row)

-- the session of a number, from 0
abbrev pub origin_at : List Origin → ℕ → Origin
origin_at origins place = unwrap_or (slice_get origins place) Unknown

abbrev pub session_line : List Origin → ℕ → List ℕ
session_line origins place =
    session_start (place + 1) (origin_at origins place) ++ codes ": a counter is above 9223372036854775808\n"

-- each if there is one
abbrev pub row_lines : PlanValue → Option RowPlace → List ℕ
row_lines plan None = []
row_lines plan (Some row) = row_line plan row

abbrev pub session_lines : List Origin → Option ℕ → List ℕ
session_lines origins None = []
session_lines origins (Some place) = session_line origins place

-- both
abbrev pub named_lines : PlanValue → List Origin → CollectFailure → List ℕ
named_lines plan origins failure = row_lines plan failure.row ++ session_lines origins failure.session

-- which a verbose run tells
abbrev pub large_lines : Verbosity → PlanValue → List Origin → CollectFailure → List ℕ
large_lines verbosity plan origins failure = if_verbose verbosity (named_lines plan origins failure)

-- the line of the fault, and what is named after it
abbrev pub failure_lines : Verbosity → PlanValue → List Origin → CollectFailure → List ℕ
failure_lines verbosity plan origins failure =
    collect_fault_line failure.fault ++ large_lines verbosity plan origins failure
