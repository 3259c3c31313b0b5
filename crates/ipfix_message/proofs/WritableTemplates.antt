-- Templates that are read can be written again.
use Rattle.std.proofs.Common.{◌≡◌, ℕ, ◌+◌, ◌^◌, ◌<◌, ◌≤◌, Bool, true, false, cond, eqb, List, [], ◌∷◌, ◌++◌, length, take, drop, refl, sym, ap, subst, ◌∙◌, arith, inl, inr}
use Rattle.std.specs.Prelude.{All}
use Rattle.std.specs.List.{flat_map}
use Rattle.std.proofs.lemmas.Bool.Decides.{eqb_tells}
use Rattle.std.proofs.lemmas.List.{length-append, append-nil, length-drop, length-take-le}
use Rattle.std.proofs.lemmas.List.Elements.{All-push, All-head, All-tail}
use Rattle.std.proofs.lemmas.Grind.{flat_map-append}
use Rattle.byteorder.specs.Endian.{big_bytes}
use Rattle.ipfix_wire.specs.FieldSpecifier.{SpellsSpec, spec_octets}
use Rattle.ipfix_wire.specs.InTurn.{InTurn}
use Rattle.ipfix_wire.specs.declared.specifier.Spec.{Spec}
use Rattle.ipfix_wire.proofs.Written.{spec_spelled}
use Rattle.ipfix_message.specs.declared.record.Template.{Template}
use Rattle.ipfix_message.specs.declared.template_record.TemplateKind.{TemplateKind}
use Rattle.ipfix_message.specs.declared.template_record.TemplateKind.TheVariants.{Plain, Options}
use Rattle.ipfix_message.specs.SpelledFields.{least}
use Rattle.ipfix_message.specs.TemplateRecords.{SpellsTemplate}
use Rattle.ipfix_message.specs.WrittenTemplates.{IsScope, scope_octets, kind_of, template_octets, template_set, IsSpec, IsTemplate}

-- ---- field specifiers

is_spec : (s : Spec) (w : List ℕ) → SpellsSpec s w → IsSpec s
is_spec s w spells = record { pen = spells.pen; number = spells.number; width = spells.width }

pub each_more : (ss : List Spec) (s : Spec) (w : List ℕ) → All IsSpec ss → SpellsSpec s w → All IsSpec (ss ++ s ∷ [])
each_more ss s w each spells = All-push IsSpec ss s each (is_spec s w spells)

-- what is written is no longer than what was read: a bit with the enterprise number 0 is left out
no_longer : (s : Spec) (w : List ℕ) → SpellsSpec s w → length (spec_octets s) ≤ length w
no_longer s w spells = elim spells.octets [
  | inl none ↦ rw (none.1, none.0) (omega arith)
  | inr long ↦ rw long (by_test (eqb s.element.pen 0))
]
  where
    by_test : (b : Bool) → length (cond b (big_bytes 2 s.element.number ++ big_bytes 2 s.width) (big_bytes 2 (2 ^ 15 + s.element.number) ++ (big_bytes 2 s.width ++ big_bytes 4 s.element.pen))) ≤ length (big_bytes 2 (2 ^ 15 + s.element.number) ++ (big_bytes 2 s.width ++ big_bytes 4 s.element.pen))
    by_test true = omega arith
    by_test false = omega arith

flat_map-push : (ss : List Spec) (s : Spec) → flat_map spec_octets (ss ++ s ∷ []) ≡ flat_map spec_octets ss ++ spec_octets s
flat_map-push ss s = flat_map-append spec_octets ss (s ∷ []) ∙ ap (λ (w : List ℕ). flat_map spec_octets ss ++ w) (append-nil (spec_octets s))

pub room_more : (ss : List Spec) (s : Spec) (used : ℕ) (rest : List ℕ) (most : ℕ) → used ≤ length rest → SpellsSpec s (take used rest) → length (flat_map spec_octets ss) + length rest ≤ most
    → length (flat_map spec_octets (ss ++ s ∷ [])) + length (drop used rest) ≤ most
room_more ss s used rest most inside spells room =
    let one = no_longer s (take used rest) spells in
    let taken = length-take-le used rest inside in
    let left = length-drop used rest in
    let whole : length (flat_map spec_octets (ss ++ s ∷ [])) ≡ length (flat_map spec_octets ss) + length (spec_octets s) = ap length (flat_map-push ss s) ∙ length-append (flat_map spec_octets ss) (spec_octets s) in
    omega (arith, one, taken, left, whole, inside, room)

-- ---- templates

abbrev kind_by : Bool → TemplateKind
kind_by b = cond b Plain Options

kind_is : (kind : TemplateKind) (scope count : ℕ) → IsScope kind scope count → kind_by (eqb scope 0) ≡ kind
kind_is Plain scope count is = rw is refl
kind_is Options scope count is = elim (eqb_tells scope 0) [
  | inl none ↦ absurd (omega (arith, none.1, is.0))
  | inr some ↦ rw some.0 refl
]

abbrev template : ℕ → ℕ → List Spec → Template
template id scope ss = record { id = id; scope = scope; specs = ss }

set_length : (t : Template) → length (template_set t) ≡ 8 + (length (scope_octets (kind_of t) t.scope) + length (flat_map spec_octets t.specs))
unfolding template_octets
set_length t =
    let a = length-append (scope_octets (kind_of t) t.scope) (flat_map spec_octets t.specs) in
    omega (arith, a)

pub is_template : (kind : TemplateKind) (id scope : ℕ) (ss : List Spec) → 256 ≤ id → id < 2 ^ 16 → 1 ≤ length ss → length ss < 2 ^ 16 → IsScope kind scope (length ss) → 0 < least ss → All IsSpec ss
    → 4 + (length (scope_octets kind scope) + length (flat_map spec_octets ss)) ≤ 65515 → IsTemplate (template id scope ss)
is_template kind id scope ss lowest highest some many scoped positive specs room =
    let is = kind_is kind scope (length ss) scoped in
    let size = set_length (template id scope ss) in
    let same : length (scope_octets (kind_by (eqb scope 0)) scope) ≡ length (scope_octets kind scope) = ap (λ (k : TemplateKind). length (scope_octets k scope)) is in
    record {
      lowest = lowest;
      highest = highest;
      some = some;
      many = many;
      scoped = subst (λ (k : TemplateKind). IsScope k scope (length ss)) (sym is) scoped;
      positive = positive;
      specs = specs;
      fits = omega (arith, size, same, room);
    }

-- ---- what is written

specs_spelled : (ss : List Spec) → All IsSpec ss → InTurn SpellsSpec ss (flat_map spec_octets ss)
specs_spelled [] all = refl
specs_spelled (s ∷ ss) all =
    let is = All-head IsSpec s ss all in
    (spec_octets s, flat_map spec_octets ss, refl, spec_spelled s is.pen is.number is.width, specs_spelled ss (All-tail IsSpec s ss all))

pub template_spelled : (t : Template) → IsTemplate t → SpellsTemplate (kind_of t) t (template_octets t)
unfolding template_octets
template_spelled t is = record {
  fields = flat_map spec_octets t.specs;
  octets = refl;
  in_turn = specs_spelled t.specs is.specs;
  lowest = is.lowest;
  highest = is.highest;
  some = is.some;
  many = is.many;
  scoped = is.scoped;
  positive = is.positive;
}
