-- The lines of a fault of what a plan says of sampling.
use Rattle.std.specs.Prelude.{ℕ, List, ◌++◌, codes}
use Rattle.element_registry.specs.declared.fault.ElementsFault.TheVariants.{NumberTwice, NameTwice, TooMany}
use Rattle.flow_plan_fields.specs.declared.scaling.ScalingFault.{ScalingFault}
use Rattle.flow_plan_fields.specs.declared.scaling.ScalingFault.TheVariants.{Counter, Elements, Plan, OutOfMemory}
use Rattle.report_writing.specs.FaultLines.{fault_text}
use Rattle.input_sources.specs.PlaceLines.{key_line}

abbrev pub sampling_fault : List ℕ
sampling_fault = codes "collectd: plan" ++ fault_text 10 (codes "Sampling")

-- the fault, and with these words what it is
abbrev pub fault_with : List ℕ → List ℕ
fault_with words = sampling_fault ++ key_line (codes "sampling") words

-- its value is none of the words
abbrev pub sampling_lines : List ℕ
sampling_lines = fault_with (codes "not \"ignore\", \"refuse\" or \"scale\"")

-- why counters can't be scaled
abbrev pub scaling_words : ScalingFault → List ℕ
scaling_words Counter = codes "only counters of IANA's with numbers below 31768 have estimates"
scaling_words (Elements NumberTwice) = codes "a file of elements has the number of an estimate"
scaling_words (Elements NameTwice) = codes "a file of elements has the name of an estimate"
scaling_words (Elements TooMany) = codes "files of elements leave no room for estimates"
scaling_words (Elements fault) = codes "out of memory"
scaling_words (Plan fault) = codes "the plan names an estimate by itself"
scaling_words OutOfMemory = codes "out of memory"

abbrev pub scaling_lines : ScalingFault → List ℕ
scaling_lines fault = fault_with (scaling_words fault)
