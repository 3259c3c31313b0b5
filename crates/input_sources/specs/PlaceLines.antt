-- The lines of a fault of a plan, and of its place.
use Rattle.std.specs.Prelude.{ℕ, List, [], ◌∷◌, ◌++◌, codes, decimal, string_bytes}
use Rattle.std.specs.List.{flat_map}
use Rattle.element_registry.specs.Registries.{Known}
use Rattle.flow_table.specs.declared.plan_fault.PlanFault.{PlanFault}
use Rattle.flow_table.specs.declared.plan_fault.PlanFault.TheVariants.{Length, Spread, KeyCount, KeyKind, Prefix, CounterCount, CounterKind, Repeated, OutOfMemory}
use Rattle.flow_plan.specs.declared.error.PlanKey.{PlanKey}
use Rattle.flow_plan.specs.declared.error.PlanKey.TheVariants.{IntervalMs, Method, MaxSpread, Keys, Counters, Times, Totals}
use Rattle.flow_plan.specs.declared.error.PlanPlace.{PlanPlace}
use Rattle.flow_plan.specs.declared.error.PlanPlace.TheVariants.{Value, Count, Text}
use Rattle.flow_plan.specs.declared.error.PlanTextError.{PlanTextError}
use Rattle.flow_plan.specs.declared.error.PlanTextError.TheVariants as errors
use Rattle.flow_plan.specs.Places.{fault_of, key_name}
use Rattle.flow_table.specs.PlanFaults as plan
use Rattle.flow_plan.specs.Faults as text
use Rattle.flow_plan.specs.declared.fault.PlanTextFault.{PlanTextFault}
use Rattle.flow_plan.specs.declared.fault.PlanTextFault.TheVariants as texts
use Rattle.report_writing.specs.FaultLines.{fault_text}
use Rattle.report_writing.specs.Quoting.{octet_shown, quoted}

-- ---- the fault

-- of a plan's text, by its own number
abbrev pub text_fault_line : PlanTextFault → List ℕ
text_fault_line fault = codes "collectd: plan" ++ fault_text (text.number_of fault) (text.name_of fault)

-- of the plan that a text says, after that of the text
abbrev pub rule_fault_line : PlanFault → List ℕ
rule_fault_line fault = codes "collectd: plan: fault 6 Plan" ++ fault_text (plan.number_of fault) (plan.name_of fault)

abbrev pub plan_fault_line : PlanTextFault → List ℕ
plan_fault_line (texts.Plan fault) = rule_fault_line fault
plan_fault_line fault = text_fault_line fault

-- ---- what is wrong

-- with the value of a key
abbrev pub kind_words : PlanKey → List ℕ
kind_words IntervalMs = codes "not an integer from 1 to 4294967295"
kind_words Method = codes "not \"start\", \"end\", \"mid\", \"uniform\" or \"proportional\""
kind_words MaxSpread = codes "not an integer from 1 to 4096"
kind_words Keys = codes "not an array of texts"
kind_words Counters = codes "not an array of texts"
kind_words Times = codes "not \"basic\" or \"all\""
kind_words Totals = codes "not \"refused\" or \"as-deltas\""

-- what a plan of built-in elements allows, where it has this fault
abbrev pub built_in_words : PlanFault → List ℕ
built_in_words Length = codes "must be 1 to 4294967295"
built_in_words Spread = codes "must be 1 to 4096"
built_in_words KeyCount = codes "at most 8"
built_in_words KeyKind = codes ": only elements known as unsigned numbers or addresses (IPv4, IPv6, MAC) may be keys"
built_in_words Prefix = codes ": only IPv4 addresses take a prefix, 0 to 32, and IPv6 addresses, 0 to 128"
built_in_words CounterCount = codes "must be 1 to 4"
built_in_words CounterKind =
    codes ": only octetDeltaCount, packetDeltaCount, deltaFlowCount, postOctetDeltaCount, postPacketDeltaCount, droppedOctetDeltaCount and droppedPacketDeltaCount may be counters, and with totals = \"as-deltas\" octetTotalCount (e0.85) and packetTotalCount (e0.86)"
built_in_words Repeated = codes " stands twice"
built_in_words OutOfMemory = codes ": out of memory"

-- the same of a plan that may name elements of files, too, of which the semantics say what may be added up (RFC 7012, section 3.2)
abbrev pub file_words : PlanFault → List ℕ
file_words KeyKind = codes ": only elements known as unsigned numbers, addresses (IPv4, IPv6, MAC) or booleans may be keys"
file_words Prefix = codes ": only sourceIPv4Address and destinationIPv4Address take a prefix, 0 to 32, and sourceIPv6Address and destinationIPv6Address, 0 to 128"
file_words CounterKind =
    codes ": only octetDeltaCount, packetDeltaCount, deltaFlowCount, postOctetDeltaCount, postPacketDeltaCount, droppedOctetDeltaCount, droppedPacketDeltaCount and elements of files with an unsigned type and the semantics deltaCounter may be counters, and with totals = \"as-deltas\" octetTotalCount (e0.85) and packetTotalCount (e0.86); another total is none: adding a flow's totals up counts it twice"
file_words fault = built_in_words fault

-- by what is known of files
abbrev pub rule_words : List Known → PlanFault → List ℕ
rule_words [] fault = built_in_words fault
rule_words (k ∷ ks) fault = file_words fault

-- ---- the line

unfoldable pub line_line : ℕ → List ℕ → List ℕ
line_line line words = codes "collectd: plan: line " ++ (decimal line ++ (codes ": " ++ (words ++ codes "\n")))

-- a place in a line
unfoldable pub column_start : ℕ → ℕ → List ℕ
column_start line column = codes "collectd: plan: line " ++ (decimal line ++ (codes ", column " ++ (decimal column ++ codes ": ")))

-- what the parser of TOML says of a place
abbrev pub toml_line : ℕ → ℕ → List ℕ → List ℕ
toml_line line column message = column_start line column ++ (flat_map octet_shown message ++ codes "\n")

abbrev pub key_start : List ℕ → List ℕ
key_start key = codes "collectd: plan: key " ++ quoted key

unfoldable pub words_end : List ℕ → List ℕ
words_end words = codes ": " ++ (words ++ codes "\n")

unfoldable pub name_end : List ℕ → List ℕ
name_end text = codes ": no element is named " ++ (quoted text ++ codes "\n")

abbrev pub key_line : List ℕ → List ℕ → List ℕ
key_line key words = key_start key ++ words_end words

unfoldable pub count_end : ℕ → List ℕ → List ℕ
count_end count words = codes ": " ++ (decimal count ++ (codes " elements, " ++ (words ++ codes "\n")))

abbrev pub text_end : List ℕ → List ℕ → List ℕ
text_end text words = codes ": " ++ (quoted text ++ (words ++ codes "\n"))

-- the key, the number of elements or the text that gives a plan the fault, and what is allowed
abbrev pub rule_line : List Known → PlanFault → PlanPlace → List ℕ
rule_line known fault (Value key) = key_line (key_name key) (rule_words known fault)
rule_line known fault (Count key count) = key_start (key_name key) ++ count_end count (rule_words known fault)
rule_line known fault (Text key text) = key_start (key_name key) ++ text_end (string_bytes text) (rule_words known fault)

-- the line, or the key and what is wrong with it, or what a plan allows there; nothing for want of memory
abbrev pub place_line : List Known → PlanTextError → List ℕ
place_line known (errors.NotUtf8 line) = line_line line (codes "not UTF-8")
place_line known (errors.NotToml error line column message) = toml_line line column (string_bytes message)
place_line known (errors.UnknownField key) = key_line (string_bytes key) (codes "unknown")
place_line known (errors.Missing key) = key_line (key_name key) (codes "missing")
place_line known (errors.WrongKind key) = key_line (key_name key) (kind_words key)
place_line known (errors.UnknownElement key text) = key_start (key_name key) ++ name_end (string_bytes text)
place_line known (errors.Plan fault place) = rule_line known fault place
place_line known errors.OutOfMemory = []

-- the fault of a plan's text, and its place
abbrev pub plan_lines : List Known → PlanTextError → List ℕ
plan_lines known error = plan_fault_line (fault_of error) ++ place_line known error
