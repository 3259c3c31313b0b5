-- The lines on standard error that tell of files of elements.
use Rattle.std.specs.Prelude.{ℕ, Bool, true, false, List, [], ◌++◌, codes, decimal, Option, Some, None, if◌then◌else◌}
use Rattle.element_registry.specs.Faults.{column_name, number_of, name_of}
use Rattle.element_registry.specs.declared.fault.ElementsError.{ElementsError}
use Rattle.element_registry.specs.declared.fault.ElementsFault.{ElementsFault}
use Rattle.element_registry.specs.declared.fault.ElementsFault.TheVariants.{Column, OutOfMemory}
use Rattle.report_writing.specs.FaultLines.{fault_text}

-- a line begins with the file
unfoldable pub file_start : List ℕ → List ℕ
file_start path = codes "collectd: elements: " ++ path

-- the line of the file in which a row begins
unfoldable pub place_text : ℕ → List ℕ
place_text line = codes ": line " ++ decimal line

abbrev pub is_memory : ElementsFault → Bool
is_memory OutOfMemory = true
is_memory fault = false

-- want of memory has no place
abbrev pub place_of : ElementsError → List ℕ
place_of error = if is_memory error.fault then [] else place_text error.line

-- a fault by its number and its name, and of a column its heading, too
unfoldable pub column_text : List ℕ → List ℕ
column_text heading = codes ": fault 3 Column: " ++ (heading ++ codes "\n")

abbrev pub fault_end : ElementsFault → List ℕ
fault_end (Column column) = column_text (column_name column)
fault_end fault = fault_text (number_of fault) (name_of fault)

abbrev pub error_line : List ℕ → ElementsError → List ℕ
error_line path error = file_start path ++ (place_of error ++ fault_end error.fault)

-- the first row of a file with a type that is not known
abbrev pub unknown_type_line : List ℕ → ℕ → List ℕ
unknown_type_line path line = file_start path ++ (place_text line ++ codes ": a type that is not known, read as octets\n")

abbrev pub unknown_type_lines : List ℕ → Option ℕ → List ℕ
unknown_type_lines path None = []
unknown_type_lines path (Some line) = unknown_type_line path line
