-- The text that explains a fault, and the list of all.
use Rattle.std.specs.Prelude.{◌≡◌, ◌⊎◌, ℕ, List, ◌++◌, ◌||◌, codes, decimal, find, Bool, Option, Some, None}
use Rattle.std.specs.Borrow.{Bor}
use Rattle.std.specs.List.{flat_map}
use Rattle.std.specs.Option.{option_map, option_or}
use Rattle.std.specs.Str.{str_to_ascii_lowercase, str_eq_ignore_ascii_case}
use Rattle.ipfix_dump.specs.Faults as dumps
use Rattle.ipfix_dump.specs.declared.fault.DumpFault.TheVariants.{WriteFailed}
use Rattle.report_writing.specs.FaultLines.{fault_text}
use Rattle.command_explain.specs.declared.ending_fault.EndingFault.{EndingFault}
use Rattle.command_explain.specs.EndingFaults.{number_of, name_of}
use Rattle.command_explain.specs.declared.faults.TheConstants.{FAULTS}
use Rattle.command_explain.specs.declared.run_faults.TheConstants.{RUN_FAULTS}
use Rattle.command_explain.specs.Guide.{texts_of}
use Rattle.command_explain.specs.RunFaults.{IsListed, name_of as run_name_of, run_fault_of, run_fault_line, run_fault_text}
use Rattle.command_explain.specs.declared.run_faults.RunFault.{RunFault}

-- two texts differ in the case of letters at most
abbrev pub IsSameWord : List ℕ → List ℕ → Type 0
IsSameWord a b = str_to_ascii_lowercase a ≡ str_to_ascii_lowercase b

-- a word is the fault's number in decimal, or its name in any letter case
abbrev pub IsWordOf : List ℕ → EndingFault → Type 0
IsWordOf word fault = IsSameWord word (decimal (number_of fault)) ⊎ IsSameWord word (name_of fault)

-- a word is the name of a fault that ends a run and is listed, in any letter case
abbrev pub IsNameOf : List ℕ → RunFault → Type 0
IsNameOf word fault = IsListed fault × IsSameWord word (run_name_of fault)

-- a word of a fault as a test
abbrev pub names : List ℕ → EndingFault → Bool
names word fault = str_eq_ignore_ascii_case word (decimal (number_of fault)) || str_eq_ignore_ascii_case word (name_of fault)

-- the fault that a word names
unfoldable pub named : List ℕ → Option EndingFault
named word = find (names word) FAULTS

-- a fault's number, its name and what was found
unfoldable pub fault_line : EndingFault → List ℕ
fault_line fault = decimal (number_of fault) ++ (codes " " ++ (name_of fault ++ (codes ": " ++ ((texts_of fault).found ++ codes "\n"))))

-- then by which rule it is a fault, and what to do about it
unfoldable pub rule_lines : EndingFault → List ℕ
rule_lines fault = codes "rule: " ++ ((texts_of fault).rule ++ (codes "\n" ++ ((texts_of fault).advice ++ codes "\n")))

abbrev pub explanation_text : EndingFault → List ℕ
explanation_text fault = codes "fault " ++ (fault_line fault ++ rule_lines fault)

-- a line for each fault that ends a session, and then for each that ends a run
abbrev pub list_text : List ℕ
list_text = flat_map fault_line FAULTS ++ flat_map run_fault_line RUN_FAULTS

-- what is written for a word, or without one; nothing for a word that names no fault
abbrev pub answer : Option (Bor (List ℕ)) → Option (List ℕ)
answer None = Some list_text
answer (Some word) = option_or (option_map explanation_text (named word.now)) (option_map run_fault_text (run_fault_of word.now))

-- ---- what is told where nothing was written

-- no fault has this number or name
abbrev pub none_line : List ℕ
none_line = codes "error: no fault has this number or name; 'collectd explain' lists them\n"

-- it couldn't be written: the same fault as that of a dump
abbrev pub failed_line : List ℕ
failed_line = codes "collectd: explain" ++ fault_text (dumps.number_of WriteFailed) (dumps.name_of WriteFailed)
