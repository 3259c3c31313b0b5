-- A rate that is appended is read back.
use Rattle.std.proofs.Common.{◌≡◌, ℕ, ◌<◌, ◌^◌, Bool, true, false, cond, List, [], ◌∷◌, ◌++◌, find, Option, Some, None, option_and_then, option_map, refl, sym, ap, ◌∙◌, arith}
use Rattle.std.specs.Int.{w32, w64, to_be_bytes}
use Rattle.std.proofs.lemmas.Option.{none-some}
use Rattle.byteorder.specs.Numbers.{big_number-reads_back}
use Rattle.ipfix_elements.specs.Values.{number_in}
use Rattle.ipfix_elements.specs.declared.kind.Kind.TheVariants.{Unsigned}
use Rattle.ipfix_elements.specs.declared.kind.Width.TheVariants.{Four, Eight}
use Rattle.ipfix_wire.specs.declared.specifier.ElementId.{ElementId}
use Rattle.ipfix_message.specs.Fields.{Field, octets_of, same_element}
use Rattle.exporter_options.specs.Beside.{fields_beside, init_time_fields, rate_fields}
use Rattle.exporter_options.specs.RateFields.{FitsField, rate_from, rate_of, rate_of_octets}
use Rattle.exporter_options.specs.declared.beside.Beside.{Beside}
use Rattle.exporter_options.specs.declared.beside.TheConstants.{SAMPLING_RATE}
use Rattle.exporter_options.specs.declared.sampling.Rate.{Rate}

found : (f : Field) (same : Bool) (x y : Option Field) (z : Option (List ℕ)) → (option_map (λ (g : Field). g.octets) x ≡ None → option_map (λ (g : Field). g.octets) y ≡ z)
    → option_map (λ (g : Field). g.octets) (cond same (Some f) x) ≡ None → option_map (λ (g : Field). g.octets) (cond same (Some f) y) ≡ z
found f true x y z rest none = absurd (none-some f.octets (sym none))
found f false x y z rest none = rest none

-- the first field of an element that is not among the first is among the rest
pub octets_after : (e : ElementId) (fields rest : List Field) → octets_of e fields ≡ None → octets_of e (fields ++ rest) ≡ octets_of e rest
octets_after e [] rest none = refl
octets_after e (f ∷ fields) rest none =
    found f (same_element f.element e) (find (λ g. same_element g.element e) fields) (find (λ g. same_element g.element e) (fields ++ rest)) (octets_of e rest) (octets_after e fields rest) none

four_back : (n : ℕ) → n < 2 ^ 32 → number_in (Unsigned Four) (to_be_bytes w32 n) ≡ Some n
four_back n small = ap Some (big_number-reads_back 4 n [] (omega (arith, small)))

eight_back : (n : ℕ) → n < 2 ^ 64 → number_in (Unsigned Eight) (to_be_bytes w64 n) ≡ Some n
eight_back n small = ap Some (big_number-reads_back 8 n [] (omega (arith, small)))

said : (time : Option ℕ) (rate : Option Rate) → octets_of SAMPLING_RATE (init_time_fields time ++ rate_fields rate) ≡ option_map (λ r. to_be_bytes w32 r.selected ++ to_be_bytes w64 r.population) rate
said None None = refl
said None (Some rate) = refl
said (Some time) None = refl
said (Some time) (Some rate) = refl

back : (rate : Option Rate) → FitsField rate → option_and_then rate_of_octets (option_map (λ r. to_be_bytes w32 r.selected ++ to_be_bytes w64 r.population) rate) ≡ rate
back None fits = refl
back (Some rate) fits =
    ap (λ s. rate_from s (number_in (Unsigned Eight) (to_be_bytes w64 rate.population))) (four_back rate.selected fits.0)
    ∙ ap (λ p. rate_from (Some rate.selected) p) (eight_back rate.population fits.1)

pub read_back : (fields : List Field) (b : Beside) → octets_of SAMPLING_RATE fields ≡ None → FitsField b.rate → rate_of (fields ++ fields_beside b) ≡ b.rate
read_back fields b none fits =
    ap (option_and_then rate_of_octets) (octets_after SAMPLING_RATE fields (fields_beside b) none ∙ said b.init_time b.rate) ∙ back b.rate fits
