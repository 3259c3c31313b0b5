-- The names of keys: those of context, or those of elements.
use Rattle.std.proofs.Common.{Bool, true, false, cond, ℕ, List, Some, None, unwrap_or}
use Rattle.std.specs.Prelude.{codes}
use Rattle.ipfix_wire.specs.declared.specifier.ElementId.{ElementId}
use Rattle.element_registry.specs.Registries.{Known, element_name}
use Rattle.flow_table.specs.Plans.{exporter, exporter_ipv4, exporter_ipv6, observation_domain, same_element}
use Rattle.flow_export.specs.CsvText.{key_name}

-- what holds of the four names of context
pub record OfContext (P : List ℕ → Type 0) : Type 0 where
  pub exporter : P (codes "exporter")
  pub exporter_ipv4 : P (codes "exporterIPv4Address")
  pub exporter_ipv6 : P (codes "exporterIPv6Address")
  pub observation_domain : P (codes "observationDomainId")

named : (P : List ℕ → Type 0) (of : OfContext P) (a b c d : Bool) (other : List ℕ) → P other
    → P (unwrap_or (cond a (Some (codes "exporter")) (cond b (Some (codes "exporterIPv4Address")) (cond c (Some (codes "exporterIPv6Address")) (cond d (Some (codes "observationDomainId")) None)))) other)
named P of true b c d other has = of.exporter
named P of false true c d other has = of.exporter_ipv4
named P of false false true d other has = of.exporter_ipv6
named P of false false false true other has = of.observation_domain
named P of false false false false other has = has

-- holds of the name of each key, if it does of that of the element
pub has_key_name : (P : List ℕ → Type 0) → OfContext P → (known : List Known) (e : ElementId) → P (element_name known e) → P (key_name known e)
has_key_name P of known e has = named P of (same_element e exporter) (same_element e exporter_ipv4) (same_element e exporter_ipv6) (same_element e observation_domain) (element_name known e) has
