-- The line of a session all of whose flows are untimed.
use Rattle.std.specs.Prelude.{ℕ, List, [], ◌++◌, codes, Option, Some, None}
use Rattle.flow_times.specs.Elements.{name_of}
use Rattle.flow_times.specs.declared.element.TimeElement.{TimeElement}
use Rattle.report_writing.specs.Origins.{session_start}
use Rattle.report_writing.specs.declared.origin.Origin.{Origin}

-- by which element its flows say a time, and which word of a plan reads it
unfoldable pub untimed_text : List ℕ → List ℕ
untimed_text name = codes ": all flows are untimed: " ++ (name ++ codes " is read with times = \"all\"\n")

abbrev pub untimed_line : ℕ → Origin → TimeElement → List ℕ
untimed_line session origin element = session_start session origin ++ untimed_text (name_of element)

-- none if there is no such element
abbrev pub session_untimed : ℕ → Origin → Option TimeElement → List ℕ
session_untimed session origin None = []
session_untimed session origin (Some element) = untimed_line session origin element
