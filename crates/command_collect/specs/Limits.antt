-- What an engine and a number of sessions may be.
use Rattle.std.specs.Prelude.{ℕ, List, [], ◌++◌, codes, decimal, Option, Some, None}
use Rattle.flow_collect.specs.Faults.{number_of, name_of}
use Rattle.flow_collect.specs.declared.fault.CollectFault.{CollectFault}
use Rattle.flow_collect.specs.declared.fault.CollectFault.TheVariants.{Workers, Sessions, Link, NoThread, OutOfMemory, SumTooLarge, Sampled}
use Rattle.report_writing.specs.OpeningLines.{if_verbose}
use Rattle.report_writing.specs.declared.verbosity.Verbosity.{Verbosity}
use Rattle.command_collect.specs.Engines.{due_fault}
use Rattle.command_collect.specs.declared.engine.Engine.{Engine}
use Rattle.command_collect.specs.declared.engine.Engine.TheVariants.{Links, Lots}

-- what is allowed where it has this fault; other faults have no limit
abbrev pub limit_words : Engine → CollectFault → List ℕ
limit_words engine Workers = codes ": --workers must be 1 to 16"
limit_words (Links pool) Sessions = codes ": must be 1 to 64"
limit_words (Lots lots) Sessions = codes ": must be 1 or more"
limit_words engine Link = codes ": --ring must be 1 to 65536"
limit_words engine NoThread = []
limit_words engine OutOfMemory = []
limit_words engine SumTooLarge = []
limit_words engine Sampled = []

-- a fault, and what is allowed
unfoldable pub limit_text : ℕ → List ℕ → List ℕ → List ℕ
limit_text number name words =
    codes "collectd: collect: fault " ++ (decimal number ++ (codes " " ++ (name ++ (words ++ codes "\n"))))

abbrev pub limit_line : Engine → CollectFault → List ℕ
limit_line engine fault = limit_text (number_of fault) (name_of fault) (limit_words engine fault)

-- only if it is asked for, and there is one
abbrev pub lines_of_limit : Verbosity → Engine → Option CollectFault → List ℕ
lines_of_limit verbosity engine (Some fault) = if_verbose verbosity (limit_line engine fault)
lines_of_limit verbosity engine None = []

-- of the fault that there is with so many sessions
abbrev pub limit_lines : Verbosity → Engine → ℕ → List ℕ
limit_lines verbosity engine sessions = lines_of_limit verbosity engine (due_fault engine sessions)
