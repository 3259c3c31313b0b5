-- Fields, and others after them.
use Rattle.std.proofs.Common.{◌≡◌, ℕ, List, [], ◌∷◌, ◌++◌, None, Option, Some, refl, sym, ap, subst, ◌∙◌, append_assoc}
use Rattle.std.specs.Prelude.{Bool, find, option_map}
use Rattle.std.specs.Option.{option_or}
use Rattle.std.proofs.lemmas.List.Folds.{find-append}
use Rattle.ipfix_wire.specs.declared.specifier.ElementId.{ElementId}
use Rattle.ipfix_wire.specs.declared.specifier.Spec.{Spec}
use Rattle.ipfix_message.specs.Fields.{Field, octets_of, same_element}
use Rattle.ipfix_message.specs.SpelledFields.{Spells, fields_in}
use Rattle.ipfix_message.proofs.SpelledFields.{fields_in-read, spelled-read}

-- ---- the first field of an element

octets_or : (a b : Option Field) → option_map (λ (f : Field). f.octets) (option_or a b) ≡ option_or (option_map (λ (f : Field). f.octets) a) (option_map (λ (f : Field). f.octets) b)
octets_or None b = refl
octets_or (Some f) b = refl

either : (e : ElementId) (fs gs : List Field) → octets_of e (fs ++ gs) ≡ option_or (octets_of e fs) (octets_of e gs)
either e fs gs =
    let is_it : Field → Bool = λ f. same_element f.element e in
    ap (option_map (λ (f : Field). f.octets)) (find-append is_it fs gs) ∙ octets_or (find is_it fs) (find is_it gs)

-- it is found among the first fields, if it is there
pub octets_of-append : (e : ElementId) (fs gs : List Field) (v : List ℕ) → octets_of e fs ≡ Some v → octets_of e (fs ++ gs) ≡ Some v
octets_of-append e fs gs v h = either e fs gs ∙ ap (λ (o : Option (List ℕ)). option_or o (octets_of e gs)) h

-- else among the others
pub octets_of-missing : (e : ElementId) (fs gs : List Field) → octets_of e fs ≡ None → octets_of e (fs ++ gs) ≡ octets_of e gs
octets_of-missing e fs gs h = either e fs gs ∙ ap (λ (o : Option (List ℕ)). option_or o (octets_of e gs)) h

-- ---- the octets that spell both

Spells-append : (ss : List Spec) (fs : List Field) (w : List ℕ) (ts : List Spec) (gs : List Field) (v : List ℕ) → Spells ss fs w → Spells ts gs v → Spells (ss ++ ts) (fs ++ gs) (w ++ v)
Spells-append [] [] w ts gs v spelled other = subst (Spells ts gs) (ap (λ (t : List ℕ). t ++ v) (sym spelled)) other
Spells-append [] (f ∷ fs) w ts gs v spelled other = absurd spelled
Spells-append (s ∷ ss) [] w ts gs v spelled other = absurd spelled
Spells-append (s ∷ ss) (f ∷ fs) w ts gs v spelled other = (
  spelled.0,
  spelled.1 ++ v,
  ap (λ (x : List ℕ). x ++ v) spelled.2 ∙ append_assoc spelled.0 spelled.1 v,
  spelled.3,
  spelled.4,
  Spells-append ss fs spelled.1 ts gs v spelled.5 other,
)

pub record Extended (ss ts : List Spec) (w v : List ℕ) : Type 0 where
  pub is : fields_in (ss ++ ts) (w ++ v) ≡ fields_in ss w ++ fields_in ts v
  pub spelled : Spells (ss ++ ts) (fields_in (ss ++ ts) (w ++ v)) (w ++ v)

pub extended : (ss ts : List Spec) (w v : List ℕ) → Spells ss (fields_in ss w) w → Spells ts (fields_in ts v) v → Extended ss ts w v
extended ss ts w v before other =
    let both = fields_in ss w ++ fields_in ts v in
    let spelled : Spells (ss ++ ts) both (w ++ v) = Spells-append ss (fields_in ss w) w ts (fields_in ts v) v before other in
    let is : fields_in (ss ++ ts) (w ++ v) ≡ both = fields_in-read (ss ++ ts) (w ++ v) both [] (spelled-read (ss ++ ts) both (w ++ v) spelled) in
    record { is = is; spelled = rw is spelled }
