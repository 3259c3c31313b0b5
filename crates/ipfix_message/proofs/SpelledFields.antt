-- The fields with which a text begins, one after another.
use Rattle.std.proofs.Common.{◌≡◌, ℕ, true, ◌+◌, ◌-◌, ◌≤◌, List, [], ◌∷◌, ◌++◌, length, drop, Result, Ok, Err, refl, sym, ap, ◌∙◌, append_assoc, arith, inl, inr}
use Rattle.std.specs.Result.{is_ok}
use Rattle.std.proofs.lemmas.List.{append-nil, length-append, drop_at}
use Rattle.ipfix_wire.specs.declared.specifier.Spec.{Spec}
use Rattle.ipfix_wire.specs.declared.specifier.ElementId.{ElementId}
use Rattle.ipfix_wire.proofs.Parts.{cases_read}
use Rattle.ipfix_message.specs.declared.fault.MessageFault.{MessageFault}
use Rattle.ipfix_message.specs.Fields.{Field}
use Rattle.ipfix_message.specs.Outcome.{◌>>=◌}
use Rattle.ipfix_message.specs.SpelledFields.{SpellsOctets, Spells, value_at, fields_at, BeginsWithFields, fields_in}
use Rattle.ipfix_message.proofs.Reading.{failed, ok_is, bind_ok}
use Rattle.ipfix_message.proofs.FieldValues.{EndsWith, value_at-end}
use Rattle.ipfix_message.proofs.RecordFields.{fields_at-only}

-- ---- a record that is read

pub fields_in-read : (specs : List Spec) (w : List ℕ) (fs : List Field) (r : List ℕ) → fields_at specs w ≡ Ok (fs, r) → fields_in specs w ≡ fs
fields_in-read specs w fs r h = rw (h, fields_in) refl

pub begins-read : (specs : List Spec) (w : List ℕ) (fs : List Field) (r : List ℕ) → fields_at specs w ≡ Ok (fs, r) → BeginsWithFields specs w
begins-read specs w fs r h = rw h refl

not_begins : (specs : List Spec) (w : List ℕ) (e : MessageFault) → fields_at specs w ≡ Err e → BeginsWithFields specs w → ⊥
not_begins specs w e h begins = let bad : is_ok (failed {A = List Field × List ℕ} e) ≡ true = rw h at begins in cc

pub begins-found : (specs : List Spec) (w : List ℕ) → BeginsWithFields specs w → (x : List Field × List ℕ) × (fields_at specs w ≡ Ok x)
begins-found specs w begins = elim (cases_read (fields_at specs w)) [
  | inl found ↦ found
  | inr none ↦ absurd (not_begins specs w none.0 none.1 begins)
]

-- ---- the first field, and the others

pub no_specs : (ss : List Spec) → length ss ≡ 0 → ss ≡ []
no_specs [] h = refl
no_specs (s ∷ ss) h = absurd (omega (arith, h))

pub no_fields : (w : List ℕ) → BeginsWithFields [] w × (fields_in [] w ≡ [])
unfolding fields_at
no_fields w = (refl, refl)

pub record FirstField (s : Spec) (ss : List Spec) (w v r : List ℕ) : Type 0 where
  pub is : fields_in (s ∷ ss) w ≡ record { element = s.element; octets = v } ∷ fields_in ss r
  pub others : BeginsWithFields ss r

pub first_field : (s : Spec) (ss : List Spec) (w v r : List ℕ) → BeginsWithFields (s ∷ ss) w → value_at s.width w ≡ Ok (v, r) → FirstField s ss w v r
unfolding fields_at
first_field s ss w v r begins h =
    let field : Field = record { element = s.element; octets = v } in
    let next : List Field × List ℕ → Result (List Field × List ℕ) MessageFault = λ others. Ok (field ∷ others.0, others.1) in
    let one : fields_at (s ∷ ss) w ≡ (fields_at ss r >>= next) = rw h refl in
    elim (cases_read (fields_at ss r)) [
      | inl more ↦
          let whole : fields_at (s ∷ ss) w ≡ Ok (field ∷ more.0.0, more.0.1) = one ∙ ap (λ (x : Result (List Field × List ℕ) MessageFault). x >>= next) more.1 in
          record {
            is = fields_in-read (s ∷ ss) w (field ∷ more.0.0) more.0.1 whole ∙ ap (λ (fs : List Field). field ∷ fs) (sym (fields_in-read ss r more.0.0 more.0.1 more.1));
            others = begins-read ss r more.0.0 more.0.1 more.1;
          }
      | inr none ↦ absurd (not_begins (s ∷ ss) w none.0 (one ∙ ap (λ (x : Result (List Field × List ℕ) MessageFault). x >>= next) none.1) begins)
    ]

pub not_cut : (s : Spec) (ss : List Spec) (w : List ℕ) (e : MessageFault) → BeginsWithFields (s ∷ ss) w → value_at s.width w ≡ Err e → ⊥
unfolding fields_at
not_cut s ss w e begins h = let one : fields_at (s ∷ ss) w ≡ Err e = rw h refl in not_begins (s ∷ ss) w e one begins

-- ---- how many there are, and where they end

length-read : (ss : List Spec) (w : List ℕ) (fs : List Field) (r : List ℕ) → fields_at ss w ≡ Ok (fs, r) → length fs ≡ length ss
unfolding fields_at
length-read [] w fs r h = let e = ok_is ([], w) (fs, r) h in sym (ap (λ (p : List Field × List ℕ). length p.0) e)
length-read (s ∷ ss) w fs r h =
    let a = bind_ok (value_at s.width w) (λ first. fields_at ss first.1 >>= λ others. Ok (record { element = s.element; octets = first.0 } ∷ others.0, others.1)) (fs, r) h in
    let b = bind_ok (fields_at ss a.0.1) (λ others. Ok (record { element = s.element; octets = a.0.0 } ∷ others.0, others.1)) (fs, r) a.2 in
    let more = length-read ss a.0.1 b.0.0 b.0.1 b.1 in
    let e = ok_is (record { element = s.element; octets = a.0.0 } ∷ b.0.0, b.0.1) (fs, r) b.2 in
    let same : length (record { element = s.element; octets = a.0.0 } ∷ b.0.0) ≡ length fs = ap (λ (p : List Field × List ℕ). length p.0) e in
    omega (arith, more, same)

pub length-fields_in : (ss : List Spec) (w : List ℕ) → BeginsWithFields ss w → length (fields_in ss w) ≡ length ss
length-fields_in ss w begins =
    let x = begins-found ss w begins in
    ap length (fields_in-read ss w x.0.0 x.0.1 x.1) ∙ length-read ss w x.0.0 x.0.1 x.1

pub ends-more : (w r q : List ℕ) → EndsWith w r → EndsWith r q → EndsWith w q
ends-more w r q a b = (a.0 ++ b.0, a.1 ∙ ap (λ (t : List ℕ). a.0 ++ t) b.1 ∙ sym (append_assoc a.0 b.0 q))

pub fields_at-end : (ss : List Spec) (w : List ℕ) (fs : List Field) (r : List ℕ) → fields_at ss w ≡ Ok (fs, r) → EndsWith w r
unfolding fields_at
fields_at-end [] w fs r h = let e = ok_is ([], w) (fs, r) h in ([], ap (λ (p : List Field × List ℕ). p.1) e)
fields_at-end (s ∷ ss) w fs r h =
    let a = bind_ok (value_at s.width w) (λ first. fields_at ss first.1 >>= λ others. Ok (record { element = s.element; octets = first.0 } ∷ others.0, others.1)) (fs, r) h in
    let b = bind_ok (fields_at ss a.0.1) (λ others. Ok (record { element = s.element; octets = a.0.0 } ∷ others.0, others.1)) (fs, r) a.2 in
    let e = ok_is (record { element = s.element; octets = a.0.0 } ∷ b.0.0, b.0.1) (fs, r) b.2 in
    let whole : fields_at ss a.0.1 ≡ Ok (b.0.0, r) = b.1 ∙ ap (λ (t : List ℕ). Ok (b.0.0, t)) (ap (λ (p : List Field × List ℕ). p.1) e) in
    ends-more w a.0.1 r (value_at-end s.width w a.0.0 a.0.1 a.1) (fields_at-end ss a.0.1 b.0.0 r whole)

-- the end of a text stands as many octets after its beginning as it is shorter
pub end_at : (w r : List ℕ) → EndsWith w r → (length r ≤ length w) × (drop (length w - length r) w ≡ r)
end_at w r ends =
    let sum : length w ≡ length ends.0 + length r = ap length ends.1 ∙ length-append ends.0 r in
    let at : length w - length r ≡ length ends.0 = omega (arith, sum) in
    (omega (arith, sum), rw (at, ends.1) (drop_at ends.0 r (length ends.0) refl))

-- ---- one more field

pub none_spelled : Spells [] (fields_in [] []) []
unfolding fields_at
none_spelled = refl

Spells-push : (ss : List Spec) (fs : List Field) (w : List ℕ) (s : Spec) (f : Field) (u : List ℕ) → f.element ≡ s.element → SpellsOctets s.width f.octets u
    → Spells ss fs w → Spells (ss ++ s ∷ []) (fs ++ f ∷ []) (w ++ u)
Spells-push [] [] w s f u same one spelled = (u, [], ap (λ (t : List ℕ). t ++ u) spelled ∙ sym (append-nil u), same, one, refl)
Spells-push [] (g ∷ gs) w s f u same one spelled = absurd spelled
Spells-push (t ∷ ts) [] w s f u same one spelled = absurd spelled
Spells-push (t ∷ ts) (g ∷ gs) w s f u same one spelled = (
  spelled.0,
  spelled.1 ++ u,
  ap (λ (x : List ℕ). x ++ u) spelled.2 ∙ append_assoc spelled.0 spelled.1 u,
  spelled.3,
  spelled.4,
  Spells-push ts gs spelled.1 s f u same one spelled.5,
)

pub spelled-read : (specs : List Spec) (fs : List Field) (w : List ℕ) → Spells specs fs w → fields_at specs w ≡ Ok (fs, [])
spelled-read specs fs w spelled = ap (fields_at specs) (sym (append-nil w)) ∙ fields_at-only specs fs w [] spelled

pub spelled-begins : (specs : List Spec) (fs : List Field) (w : List ℕ) → Spells specs fs w → BeginsWithFields specs w
spelled-begins specs fs w spelled = begins-read specs w fs [] (spelled-read specs fs w spelled)

pub record Pushed (ss : List Spec) (w : List ℕ) (element : ElementId) (v u : List ℕ) : Type 0 where
  pub is : fields_in (ss ++ record { element = element; width = length v } ∷ []) (w ++ u) ≡ fields_in ss w ++ record { element = element; octets = v } ∷ []
  pub spelled : Spells (ss ++ record { element = element; width = length v } ∷ []) (fields_in (ss ++ record { element = element; width = length v } ∷ []) (w ++ u)) (w ++ u)

pub pushed : (ss : List Spec) (w : List ℕ) (element : ElementId) (v u : List ℕ) → Spells ss (fields_in ss w) w → SpellsOctets (length v) v u → Pushed ss w element v u
pushed ss w element v u before one =
    let s : Spec = record { element = element; width = length v } in
    let f : Field = record { element = element; octets = v } in
    let after = Spells-push ss (fields_in ss w) w s f u refl one before in
    let is : fields_in (ss ++ s ∷ []) (w ++ u) ≡ fields_in ss w ++ f ∷ [] = fields_in-read (ss ++ s ∷ []) (w ++ u) (fields_in ss w ++ f ∷ []) [] (spelled-read (ss ++ s ∷ []) (fields_in ss w ++ f ∷ []) (w ++ u) after) in
    record { is = is; spelled = rw is after }
