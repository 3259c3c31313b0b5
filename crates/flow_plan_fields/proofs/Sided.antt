-- What a fault of a side may be.
use Rattle.std.proofs.Common.{ℕ, List, Option, None, Some}
use Rattle.toml.specs.Data.{Data, Members}
use Rattle.ipfix_elements.specs.declared.kind.Kind.{Kind}
use Rattle.element_registry.specs.Registries.{Known}
use Rattle.flow_filter.specs.declared.condition.Side.{Side}
use Rattle.flow_filter.specs.declared.fault.FilterFault.{FilterFault}
use Rattle.flow_filter.specs.declared.fault.FilterFault.TheVariants as faults
use Rattle.flow_plan_fields.specs.Wheres.{AreNoSides, HasNoSide, IsNoSide, TellsFault}
use Rattle.flow_plan_fields.specs.declared.place.WhereFault.{WhereFault}
use Rattle.flow_plan_fields.specs.declared.place.WhereFault.TheVariants.{NoTexts, Kind as NoKind, Count, Text, OutOfMemory}

abbrev pub IsOfSide : WhereFault → Type 0
IsOfSide (NoTexts s) = Unit {0}
IsOfSide NoKind = Unit {0}
IsOfSide (Count s n) = Unit {0}
IsOfSide (Text s text) = Unit {0}
IsOfSide OutOfMemory = Unit {0}
IsOfSide told = ⊥

told_of_side : (side : Side) (said : List (List ℕ)) (fault : FilterFault) (told : WhereFault) → TellsFault side said fault told → IsOfSide told
told_of_side side said faults.Kind NoKind h = tt
told_of_side side said faults.Count (Count s n) h = tt
told_of_side side said (faults.Text place) (Text s text) h = tt
told_of_side side said fault OutOfMemory h = tt
told_of_side side said fault told h = absurd h

pub of_side : (k : Kind) (side : Side) (value : Option Data) (told : WhereFault) → IsNoSide k side value told → IsOfSide told
of_side k side value OutOfMemory h = tt
of_side k side (Some value) (NoTexts s) h = tt
of_side k side (Some value) told h = told_of_side side h.0 h.1 told h.4
of_side k side None told h = absurd h

pub no_sides : (known : List Known) (d : Members) (told : WhereFault) → HasNoSide known d told → IsOfSide told → AreNoSides known d told
no_sides known d (NoTexts s) h is = h
no_sides known d NoKind h is = h
no_sides known d (Count s n) h is = h
no_sides known d (Text s text) h is = h
no_sides known d OutOfMemory h is = tt
no_sides known d told h is = absurd is
