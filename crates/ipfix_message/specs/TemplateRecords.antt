-- Template records and options template records (RFC 7011, sections 3.4.1, 3.4.2 and 8.1).
pub use Rattle.ipfix_message.specs.WrittenTemplates.{set_id_of, IsScope, scope_octets}
use Rattle.std.specs.Prelude.{◌≡◌, ℕ, zero, suc, ◌^◌, ◌<◌, ◌≤◌, ◌⊎◌, Bool, ◌||◌, nat_lt, ◌==◌, if◌then◌else◌, List, [], ◌∷◌, ◌++◌, length, drop, Option, Some, None, Ok, Err}
use Rattle.std.specs.List.{All, list_all}
use Rattle.std.specs.Result.{result_err}
use Rattle.byteorder.specs.Endian.{big_bytes, big_number}
use Rattle.ipfix_wire.specs.Numbers.{number_at}
use Rattle.ipfix_wire.specs.FieldSpecifier.{SpellsSpec, spec_at}
use Rattle.ipfix_wire.specs.InTurn.{InTurn, Parts, parts_of}
use Rattle.ipfix_wire.specs.declared.set.TheConstants.{FIRST_TEMPLATE_ID}
use Rattle.ipfix_wire.specs.declared.specifier.Spec.{Spec}
use Rattle.ipfix_message.specs.declared.fault.MessageFault.{MessageFault}
use Rattle.ipfix_message.specs.declared.fault.MessageFault.TheVariants.{TemplateId, TemplateCut, Scope, ZeroLength}
use Rattle.ipfix_message.specs.declared.record.Template.{Template}
use Rattle.ipfix_message.specs.declared.template_record.TheConstants.{TEMPLATE_HEADER_LENGTH}
use Rattle.ipfix_message.specs.declared.template_record.TemplateKind.{TemplateKind}
use Rattle.ipfix_message.specs.declared.template_record.TemplateKind.TheVariants.{Plain, Options}
use Rattle.ipfix_message.specs.declared.template_record.Event.{Event}
use Rattle.ipfix_message.specs.declared.template_record.Event.TheVariants.{Define, Withdraw, WithdrawAll}
use Rattle.ipfix_message.specs.Outcome.{Read, ◌>>=◌}
use Rattle.ipfix_message.specs.DataRecords.{least}

-- ---- what spells a template record

-- w spells the definition of a template: its id, the count of its fields, that of its scope fields, and one field
-- specifier after another, by which a record has at least one octet
pub record SpellsTemplate (kind : TemplateKind) (t : Template) (w : List ℕ) : Type 0 where
  pub fields : List ℕ
  pub octets : w ≡ big_bytes 2 t.id ++ (big_bytes 2 (length t.specs) ++ (scope_octets kind t.scope ++ fields))
  pub in_turn : InTurn SpellsSpec t.specs fields
  pub lowest : FIRST_TEMPLATE_ID ≤ t.id
  pub highest : t.id < 2 ^ 16
  pub some : 1 ≤ length t.specs
  pub many : length t.specs < 2 ^ 16
  pub scoped : IsScope kind t.scope (length t.specs)
  pub positive : 0 < least t.specs

-- w spells a template record in a set of this kind: a definition, or without fields the withdrawal of a template or,
-- with the set's own id, of all templates of the kind
abbrev pub SpellsEvent : TemplateKind → Event → List ℕ → Type 0
SpellsEvent kind (Define t) w = SpellsTemplate kind t w
SpellsEvent kind (Withdraw k id) w = (k ≡ kind) × (FIRST_TEMPLATE_ID ≤ id) × (id < 2 ^ 16) × (w ≡ big_bytes 2 id ++ big_bytes 2 0)
SpellsEvent kind (WithdrawAll k) w = (k ≡ kind) × (w ≡ big_bytes 2 (set_id_of kind) ++ big_bytes 2 0)

-- padding: fewer octets than the header of a template record has, or zeros
abbrev pub IsPadding : List ℕ → Type 0
IsPadding w = (length w < TEMPLATE_HEADER_LENGTH) ⊎ All (λ b. b ≡ 0) w

-- the body of a template set: template records in turn, and padding
pub record IsTemplateSet (kind : TemplateKind) (events : List Event) (w : List ℕ) : Type 0 where
  pub octets : List ℕ
  pub padding : List ℕ
  pub whole : w ≡ octets ++ padding
  pub spelled : InTurn (SpellsEvent kind) events octets
  pub padded : IsPadding padding

-- ---- why no template record stands at a place

-- P holds, and the fault is e; or it does not, and the fault is among those that follow
abbrev pub FirstOf : Type 0 → MessageFault → Type 0 → MessageFault → Type 0
FirstOf P e More f = (P × (f ≡ e)) ⊎ ((¬ P) × More)

-- an id that is no template's, but the one of all templates in a withdrawal
abbrev pub HasWrongId : TemplateKind → ℕ → ℕ → Type 0
HasWrongId kind id count = (id < FIRST_TEMPLATE_ID) × ((0 < count) ⊎ ¬ (id ≡ set_id_of kind))

-- in a record with fields, no scope field count
abbrev pub MissesScope : TemplateKind → ℕ → List ℕ → Type 0
MissesScope Plain count w = ⊥
MissesScope Options count w = (0 < count) × (length w < 2)

-- in a record with fields, a scope field count of 0 or above the field count
abbrev pub HasWrongScope : TemplateKind → ℕ → List ℕ → Type 0
HasWrongScope Plain count w = ⊥
HasWrongScope Options count w = (0 < count) × ((big_number 2 w ≡ 0) ⊎ (count < big_number 2 w))

-- what follows the counts
abbrev pub behind_counts : TemplateKind → List ℕ → List ℕ
behind_counts Plain w = w
behind_counts Options w = drop 2 w

-- w begins with these field specifiers in turn
pub record BeginsWith (specs : List Spec) (w : List ℕ) : Type 0 where
  pub text : List ℕ
  pub rest : List ℕ
  pub whole : w ≡ text ++ rest
  pub in_turn : InTurn SpellsSpec specs text

-- fewer field specifiers than the field count
abbrev pub MissesSpec : ℕ → List ℕ → Type 0
MissesSpec count w = (specs : List Spec) → length specs ≡ count → ¬ BeginsWith specs w

-- field specifiers by which a record has no octet
abbrev pub HasNoOctets : ℕ → List ℕ → Type 0
HasNoOctets count w = (0 < count) × ((specs : List Spec) × (length specs ≡ count) × BeginsWith specs w × (least specs ≡ 0))

-- the fault of an id, a field count and what follows them: the first that fits
abbrev pub FaultOf : TemplateKind → ℕ → ℕ → List ℕ → MessageFault → Type 0
FaultOf kind id count w f =
    FirstOf (HasWrongId kind id count) TemplateId
    (FirstOf (MissesScope kind count w) TemplateCut
    (FirstOf (HasWrongScope kind count w) Scope
    (FirstOf (MissesSpec count (behind_counts kind w)) TemplateCut
    (FirstOf (HasNoOctets count (behind_counts kind w)) ZeroLength ⊥ f) f) f) f) f

-- why a text that has the header of a template record begins with no template record
abbrev pub FaultAt : TemplateKind → List ℕ → MessageFault → Type 0
FaultAt kind w f = FaultOf kind (big_number 2 w) (number_at 2 2 w) (drop TEMPLATE_HEADER_LENGTH w) f

-- ---- reading them

-- the number of scope fields; a plain template has none and does not write it
abbrev pub scope_at : TemplateKind → ℕ → List ℕ → Read (ℕ × List ℕ)
scope_at Plain count w = Ok (0, w)
scope_at Options count w =
    let scope = big_number 2 w in
    if nat_lt (length w) 2 then Err TemplateCut
    else if (scope == 0) || nat_lt count scope then Err Scope
    else Ok (scope, drop 2 w)

abbrev pub one_spec : Option (Spec × ℕ) → List ℕ → Read (Spec × List ℕ)
one_spec None w = Err TemplateCut
one_spec (Some r) w = Ok (r.0, drop r.1 w)

-- that many specifiers
unfoldable pub specs_at : ℕ → List ℕ → Read (List Spec × List ℕ)
specs_at zero w = Ok ([], w)
specs_at (suc n) w = do
  first ← one_spec (spec_at w) w
  others ← specs_at n first.1
  Ok (first.0 ∷ others.0, others.1)

-- a record with no fields
abbrev pub withdrawal : TemplateKind → ℕ → List ℕ → Read (Event × List ℕ)
withdrawal kind id w =
    if id == set_id_of kind then Ok (WithdrawAll kind, w)
    else if nat_lt id FIRST_TEMPLATE_ID then Err TemplateId
    else Ok (Withdraw kind id, w)

abbrev pub definition : ℕ → ℕ → List Spec × List ℕ → Read (Event × List ℕ)
definition id scope specs = if least specs.0 == 0 then Err ZeroLength else Ok (Define (record { id = id; scope = scope; specs = specs.0 }), specs.1)

-- a record of this id and field count, in what follows them
abbrev pub record_at : TemplateKind → ℕ → ℕ → List ℕ → Read (Event × List ℕ)
record_at kind id count w =
    if count == 0 then withdrawal kind id w
    else if nat_lt id FIRST_TEMPLATE_ID then Err TemplateId
    else (scope_at kind count w >>= λ scope. specs_at count scope.1 >>= λ specs. definition id scope.0 specs)

-- the template record that a text begins with, or its first fault
unfoldable pub event_at : TemplateKind → List ℕ → Read (Event × List ℕ)
event_at kind w =
    if nat_lt (length w) TEMPLATE_HEADER_LENGTH then Err TemplateCut
    else record_at kind (big_number 2 w) (number_at 2 2 w) (drop TEMPLATE_HEADER_LENGTH w)

-- the template records in the body of a template set, and what follows the last one
abbrev pub events_of : TemplateKind → List ℕ → Parts Event
events_of kind w = parts_of (event_at kind) w

abbrev pub is_padding : List ℕ → Bool
is_padding w = nat_lt (length w) TEMPLATE_HEADER_LENGTH || list_all (λ b. b == 0) w

-- the fault of what is left: none if it is padding, else why no template record stands there
abbrev pub fault_after_events : TemplateKind → List ℕ → Option MessageFault
fault_after_events kind rest = if is_padding rest then None else result_err (event_at kind rest)
