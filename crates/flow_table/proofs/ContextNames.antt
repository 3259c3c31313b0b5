-- The names of elements of context are read as those elements.
use Rattle.std.proofs.Common.{◌≡◌, ℕ, Bool, true, false, cond, eqb, List, Some, None, refl, ap₂}
use Rattle.std.specs.Prelude.{codes}
use Rattle.std.specs.Str.{bytes_eq}
use Rattle.std.proofs.lemmas.Bool.{and_parts, eqb-true}
use Rattle.std.proofs.lemmas.Option.{none-some, same_Some}
use Rattle.std.proofs.lemmas.Slice.Eq.{bytes_eq-Decides}
use Rattle.ipfix_wire.specs.declared.specifier.ElementId.{ElementId}
use Rattle.flow_table.specs.Plans.{context_name, context_named, exporter, exporter_ipv4, exporter_ipv6, observation_domain, same_element}

pub is_same : (e d : ElementId) → same_element e d ≡ true → e ≡ d
is_same e d same =
    let both = and_parts (eqb e.pen d.pen) (eqb e.number d.number) same in
    ap₂ (λ pen number. record { pen = pen; number = number }) (eqb-true e.pen d.pen both.0) (eqb-true e.number d.number both.1)

pub named_back : (e : ElementId) (name : List ℕ) → context_name e ≡ Some name → context_named name ≡ Some e
named_back e name h =
    by (same_element e exporter) (same_element e exporter_ipv4) (same_element e exporter_ipv6) (same_element e observation_domain)
    (is_same e exporter) (is_same e exporter_ipv4) (is_same e exporter_ipv6) (is_same e observation_domain) h
  where
    by : (a b c d : Bool) → (a ≡ true → e ≡ exporter) → (b ≡ true → e ≡ exporter_ipv4) → (c ≡ true → e ≡ exporter_ipv6) → (d ≡ true → e ≡ observation_domain)
        → cond a (Some (codes "exporter")) (cond b (Some (codes "exporterIPv4Address")) (cond c (Some (codes "exporterIPv6Address")) (cond d (Some (codes "observationDomainId")) None))) ≡ Some name
        → context_named name ≡ Some e
    by true b c d ea eb ec ed is = rw (← same_Some _ name is, ea refl) refl
    by false true c d ea eb ec ed is = rw (← same_Some _ name is, eb refl) refl
    by false false true d ea eb ec ed is = rw (← same_Some _ name is, ec refl) refl
    by false false false true ea eb ec ed is = rw (← same_Some _ name is, ed refl) refl
    by false false false false ea eb ec ed is = absurd (none-some name is)

pub named_first : (e : ElementId) (name : List ℕ) → context_named name ≡ Some e → context_name e ≡ Some name
named_first e name h =
    by (bytes_eq name (codes "exporter")) (bytes_eq name (codes "exporterIPv4Address")) (bytes_eq name (codes "exporterIPv6Address")) (bytes_eq name (codes "observationDomainId"))
    (bytes_eq-Decides name (codes "exporter")).0 (bytes_eq-Decides name (codes "exporterIPv4Address")).0 (bytes_eq-Decides name (codes "exporterIPv6Address")).0
    (bytes_eq-Decides name (codes "observationDomainId")).0 h
  where
    by : (a b c d : Bool) → (a ≡ true → name ≡ codes "exporter") → (b ≡ true → name ≡ codes "exporterIPv4Address") → (c ≡ true → name ≡ codes "exporterIPv6Address")
        → (d ≡ true → name ≡ codes "observationDomainId")
        → cond a (Some exporter) (cond b (Some exporter_ipv4) (cond c (Some exporter_ipv6) (cond d (Some observation_domain) None))) ≡ Some e → context_name e ≡ Some name
    by true b c d na nb nc nd is = rw (← same_Some _ e is, na refl) refl
    by false true c d na nb nc nd is = rw (← same_Some _ e is, nb refl) refl
    by false false true d na nb nc nd is = rw (← same_Some _ e is, nc refl) refl
    by false false false true na nb nc nd is = rw (← same_Some _ e is, nd refl) refl
    by false false false false na nb nc nd is = absurd (none-some e is)
