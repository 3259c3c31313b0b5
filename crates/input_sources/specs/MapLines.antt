-- The lines of a fault of the maps of a plan, and of their files.
use Rattle.std.specs.Prelude.{ℕ, List, [], ◌++◌, codes, decimal}
use Rattle.element_registry.specs.Faults as elements
use Rattle.element_registry.specs.Registries.{Known}
use Rattle.element_registry.specs.declared.fault.ElementsFault.{ElementsFault}
use Rattle.flow_plan_fields.specs.declared.error.MapTableFault.{MapTableFault}
use Rattle.flow_plan_fields.specs.declared.error.MapTableFault.TheVariants.{NoTable, UnknownKey, NoName, NoFile, NameTwice}
use Rattle.flow_plan_fields.specs.declared.error.PlanMapsError.{PlanMapsError}
use Rattle.flow_plan_fields.specs.declared.error.PlanMapsError.TheVariants.{Document, NoMaps, Map}
use Rattle.prefix_numbers.specs.Faults as files
use Rattle.prefix_numbers.specs.declared.error.MapError.{MapError}
use Rattle.prefix_numbers.specs.declared.error.MapFault.{MapFault}
use Rattle.prefix_numbers.specs.declared.error.MapFault.TheVariants.{OutOfMemory}
use Rattle.report_writing.specs.FaultLines.{fault_text}
use Rattle.input_sources.specs.PlaceLines.{key_line, plan_lines, words_end}

-- ---- of a plan

abbrev pub map_fault : List ℕ
map_fault = codes "collectd: plan" ++ fault_text 9 (codes "Map")

-- which [[map]] it is, counted from 1
unfoldable pub map_start : ℕ → List ℕ
map_start place = codes "collectd: plan: map " ++ decimal place

-- what is wrong with it
abbrev pub map_words : MapTableFault → List ℕ
map_words NoTable = codes "not a table"
map_words UnknownKey = codes "a key beside \"name\" and \"file\""
map_words NoName = codes "\"name\" missing, or not letters, digits, _ and -"
map_words NoFile = codes "\"file\" missing, or not a text"
map_words NameTwice = codes "an earlier one has its name"

-- the maps are no array of tables
abbrev pub no_maps_lines : List ℕ
no_maps_lines = map_fault ++ key_line (codes "map") (codes "not an array of tables")

-- which one it is, and what is wrong with it
abbrev pub map_line : ℕ → MapTableFault → List ℕ
map_line place fault = map_start place ++ words_end (map_words fault)

abbrev pub map_lines : List Known → PlanMapsError → List ℕ
map_lines known (Document error) = plan_lines known error
map_lines known NoMaps = no_maps_lines
map_lines known (Map place fault) = map_fault ++ map_line place fault

-- ---- of its keys, which are added to the elements of files

abbrev pub key_lines : ElementsFault → List ℕ
key_lines fault = codes "collectd: plan: keys of maps" ++ fault_text (elements.number_of fault) (elements.name_of fault)

-- ---- of a file

-- a line begins with the file
unfoldable pub file_start : List ℕ → List ℕ
file_start path = codes "collectd: map: " ++ path

unfoldable pub line_text : ℕ → List ℕ
line_text line = codes ": line " ++ decimal line

-- the line that has the fault; want of memory has none
abbrev pub line_of : MapFault → ℕ → List ℕ
line_of OutOfMemory line = []
line_of fault line = line_text line

-- the fault, at the end of a line
abbrev pub fault_end : MapFault → List ℕ
fault_end fault = fault_text (files.number_of fault) (files.name_of fault)

abbrev pub file_line : List ℕ → MapError → List ℕ
file_line path error = file_start path ++ (line_of error.fault error.line ++ fault_end error.fault)
