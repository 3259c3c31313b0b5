-- The lines of what records lack, with the names that elements have.
use Rattle.std.specs.Prelude.{ℕ, List, [], ◌++◌, codes, decimal, ◌==◌, slice_index_or, if◌then◌else◌}
use Rattle.std.specs.List.{flat_map, enumerate_from}
use Rattle.ipfix_wire.specs.declared.specifier.ElementId.{ElementId}
use Rattle.element_registry.specs.Registries.{Known, element_name}
use Rattle.flow_table.specs.Plans.{PlanValue}
use Rattle.flow_table.specs.declared.key.Key.{Key}
use Rattle.flow_table.specs.declared.missing.Missing.{Missing}
use Rattle.flow_export.specs.CsvText.{key_text}
use Rattle.report_writing.specs.Origins.{tells_balances}
use Rattle.report_writing.specs.declared.verbosity.Verbosity.{Verbosity}

-- used records without a counter
unfoldable pub counter_text : List Known → ElementId → List ℕ
counter_text known element = codes "collectd: records: without " ++ element_name known element

-- untimed records without a start or without an end
unfoldable pub time_text : List ℕ → List ℕ
time_text time = codes "collectd: records: untimed without " ++ time

-- unkeyed records that lack a key first
unfoldable pub unkeyed_text : List Known → Key → List ℕ
unkeyed_text known key = codes "collectd: records: unkeyed without " ++ key_text known key

-- how many they are, at the end of a line
unfoldable pub count_end : ℕ → List ℕ
count_end count = codes " " ++ (decimal count ++ codes "\n")

-- their line, if there are any
abbrev pub lack_line : List ℕ → ℕ → List ℕ
lack_line text count = if count == 0 then [] else text ++ count_end count

-- the lines of what they can lack, in order, each with how many they are
abbrev pub lack_lines : {X : Type 0} → (X → List ℕ) → List X → List ℕ → List ℕ
lack_lines text xs counts = flat_map (λ x. lack_line (text x.1) (slice_index_or counts x.0 0)) (enumerate_from 0 xs)

-- what used records lack of a plan's counters, then untimed ones, then unkeyed ones of its keys
abbrev pub missing_lines : List Known → PlanValue → Missing → List ℕ
missing_lines known plan m =
    lack_lines (counter_text known) plan.counters m.counters
    ++ (lack_line (time_text (codes "start")) m.start
    ++ (lack_line (time_text (codes "end")) m.end ++ lack_lines (unkeyed_text known) plan.keys m.keys))

-- the same, if either option asks for it
abbrev pub missing_told : Verbosity → List Known → PlanValue → Missing → List ℕ
missing_told verbosity known plan m = if tells_balances verbosity then missing_lines known plan m else []
