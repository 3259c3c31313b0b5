-- When two plans are the same: all of their parts are.
use Rattle.std.specs.Prelude.{ℕ, ◌==◌, ◌&&◌, Bool}
use Rattle.std.specs.Option.{option_eq}
use Rattle.std.specs.Cmp.Lexicographic.{pointwise}
use Rattle.ipfix_elements.specs.declared.kind.Kind.{Kind}
use Rattle.ipfix_elements.specs.declared.kind.Kind.TheVariants.{Unsigned, Ipv4, Ipv6, Mac, Seconds, Millis, Octets}
use Rattle.ipfix_elements.specs.declared.kind.Width.TheVariants.{One, Two, Four, Eight}
use Rattle.flow_table.specs.declared.choices.Choices.{Choices}
use Rattle.flow_table.specs.declared.choices.Times.{Times}
use Rattle.flow_table.specs.declared.choices.Times.TheVariants as times
use Rattle.flow_table.specs.declared.choices.Totals.{Totals}
use Rattle.flow_table.specs.declared.choices.Totals.TheVariants.{Refused, AsDeltas}
use Rattle.flow_table.specs.declared.method.Method.{Method}
use Rattle.flow_table.specs.declared.method.Method.TheVariants.{Start, End, Mid, Uniform, Proportional}
use Rattle.flow_table.specs.declared.key.Key.{Key}
use Rattle.flow_table.specs.Plans.{PlanValue, same_element}

-- the place of a method among the five
abbrev pub method_number : Method → ℕ
method_number Start = 0
method_number End = 1
method_number Mid = 2
method_number Uniform = 3
method_number Proportional = 4

abbrev pub same_method : Method → Method → Bool
same_method a b = method_number a == method_number b

abbrev pub times_number : Times → ℕ
times_number times.Basic = 0
times_number times.All = 1

abbrev pub totals_number : Totals → ℕ
totals_number Refused = 0
totals_number AsDeltas = 1

abbrev pub same_choices : Choices → Choices → Bool
same_choices a b = (times_number a.times == times_number b.times) && (totals_number a.totals == totals_number b.totals)

abbrev pub same_key : Key → Key → Bool
same_key a b = same_element a.element b.element && option_eq ◌==◌ a.prefix b.prefix

-- the place of a kind among the ten
abbrev pub kind_number : Kind → ℕ
kind_number (Unsigned One) = 0
kind_number (Unsigned Two) = 1
kind_number (Unsigned Four) = 2
kind_number (Unsigned Eight) = 3
kind_number Ipv4 = 4
kind_number Ipv6 = 5
kind_number Mac = 6
kind_number Seconds = 7
kind_number Millis = 8
kind_number Octets = 9

abbrev pub same_kind : Kind → Kind → Bool
same_kind a b = kind_number a == kind_number b

abbrev pub same_parts : PlanValue → PlanValue → Bool
same_parts a b =
    (a.length == b.length) && (same_method a.method b.method && (pointwise same_key a.keys b.keys
    && (pointwise same_element a.counters b.counters && (a.max_spread == b.max_spread))))

abbrev pub same_plan : PlanValue → PlanValue → Bool
same_plan a b = same_choices a.choices b.choices && (pointwise same_kind a.kinds b.kinds && same_parts a b)
