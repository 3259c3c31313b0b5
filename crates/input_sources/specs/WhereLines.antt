-- The lines of a fault of the conditions of a plan, and of its place.
use Rattle.std.specs.Prelude.{ℕ, List, [], ◌++◌, codes, decimal, string_bytes}
use Rattle.element_registry.specs.Registries.{Known}
use Rattle.flow_plan_fields.specs.Wheres.{side_key}
use Rattle.flow_plan_fields.specs.declared.place.FilteredPlanError.{FilteredPlanError}
use Rattle.flow_plan_fields.specs.declared.place.FilteredPlanError.TheVariants.{Plan, NoConditions, Where, NoSampling}
use Rattle.flow_plan_fields.specs.declared.place.WhereFault.{WhereFault}
use Rattle.flow_plan_fields.specs.declared.place.WhereFault.TheVariants.{NoTable, UnknownKey, NoElement, UnknownElement, NoSide, NoTexts, Kind, Count, Text, OutOfMemory}
use Rattle.report_writing.specs.FaultLines.{fault_text}
use Rattle.report_writing.specs.Quoting.{quoted}
use Rattle.input_sources.specs.ScalingLines.{sampling_lines}
use Rattle.input_sources.specs.PlaceLines.{key_line, name_end, plan_lines, words_end}

abbrev pub filter_fault : List ℕ
filter_fault = codes "collectd: plan" ++ fault_text 8 (codes "Filter")

-- which [[where]] it is, counted from 1
unfoldable pub where_start : ℕ → List ℕ
where_start place = codes "collectd: plan: where " ++ decimal place

-- a key of it
unfoldable pub where_key : List ℕ → List ℕ
where_key key = codes ": key " ++ quoted key

-- how many texts it has
unfoldable pub count_end : ℕ → List ℕ
count_end count = codes ": " ++ (decimal count ++ codes " texts, must be 1 to 64\n")

-- a text of it that says nothing
unfoldable pub text_end : List ℕ → List ℕ
text_end text = codes ": " ++ (quoted text ++ codes ": no values of the element\n")

-- what is wrong with it
abbrev pub where_end : WhereFault → List ℕ
where_end NoTable = words_end (codes "not a table")
where_end (UnknownKey key) = where_key (string_bytes key) ++ words_end (codes "unknown")
where_end NoElement = where_key (codes "element") ++ words_end (codes "missing, or not a text")
where_end (UnknownElement text) = where_key (codes "element") ++ name_end (string_bytes text)
where_end NoSide = words_end (codes "neither \"in\" nor \"not_in\"")
where_end (NoTexts side) = where_key (side_key side) ++ words_end (codes "not an array of texts")
where_end Kind = where_key (codes "element") ++ words_end (codes "only elements known as unsigned numbers, booleans or addresses (IPv4, IPv6) may have conditions")
where_end (Count side count) = where_key (side_key side) ++ count_end count
where_end (Text side text) = where_key (side_key side) ++ text_end (string_bytes text)
where_end OutOfMemory = words_end (codes "out of memory")

-- which one it is, and what is wrong with it
abbrev pub where_line : ℕ → WhereFault → List ℕ
where_line place fault = where_start place ++ where_end fault

-- the conditions are no array of tables
abbrev pub no_conditions_lines : List ℕ
no_conditions_lines = filter_fault ++ key_line (codes "where") (codes "not an array of tables")

-- the fault of a plan with a filter, and its place
abbrev pub filtered_lines : List Known → FilteredPlanError → List ℕ
filtered_lines known (Plan error) = plan_lines known error
filtered_lines known NoConditions = no_conditions_lines
filtered_lines known (Where place fault) = filter_fault ++ where_line place fault
filtered_lines known NoSampling = sampling_lines
