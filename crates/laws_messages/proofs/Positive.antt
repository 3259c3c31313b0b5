-- Templates by which a record has at least one octet.
use Rattle.std.proofs.Common.{ℕ, List, [], ◌∷◌, ◌++◌, map, subst}
use Rattle.std.specs.Prelude.{All}
use Rattle.std.proofs.lemmas.List.Concat.{flat_map-cons}
use Rattle.std.proofs.lemmas.List.Elements.{All-nil, All-cons, All-head, All-tail, All-append}
use Rattle.ipfix_wire.specs.Numbers.{IsOctets}
use Rattle.ipfix_wire.specs.MessageHeader.{header_octets}
use Rattle.ipfix_wire.specs.declared.header.Header.{Header}
use Rattle.ipfix_wire.proofs.Octets.{IsOctets-front, IsOctets-rest}
use Rattle.ipfix_wire.proofs.Parts.{InTurn-all}
use Rattle.ipfix_message.specs.Sets.{Set}
use Rattle.ipfix_message.specs.TemplateRecords.{SpellsEvent}
use Rattle.ipfix_message.specs.TemplatesInForce.{IsInForce}
use Rattle.ipfix_message.specs.declared.record.Template.{Template}
use Rattle.ipfix_message.specs.declared.template_record.Event.{Event}
use Rattle.ipfix_message.specs.declared.template_record.Event.TheVariants.{Define, Withdraw, WithdrawAll}
use Rattle.ipfix_message.specs.declared.template_record.TemplateKind.{TemplateKind}
use Rattle.laws_messages.specs.WholeMessages.{Content, template_records, data_records, unknown_set, skipped_set, IsMessage, IsPositive, StandsIn, StandInTurn, all_events, behind, events_of}
use Rattle.laws_messages.proofs.InTurns.{bodies}
use Rattle.laws_messages.proofs.Totals.{BodyHas}

event_is : (kind : TemplateKind) (e : Event) (w : List ℕ) → IsOctets w → SpellsEvent kind e w → IsPositive e
event_is kind (Define t) w fits spelled = spelled.positive
event_is kind (Withdraw k id) w fits spelled = tt
event_is kind (WithdrawAll k) w fits spelled = tt

content_is : (es : List Event) (s : Set) (c : Content) → IsOctets s.body → StandsIn es s c → All IsPositive (events_of c)
content_is es s (template_records kind events) fits stands =
    let set = stands.1 in
    InTurn-all (SpellsEvent kind) IsPositive (event_is kind) events set.octets (IsOctets-front set.octets set.padding (subst IsOctets set.whole fits)) set.spelled
content_is es s (data_records t rs) fits stands = All-nil IsPositive
content_is es s unknown_set fits stands = All-nil IsPositive
content_is es s skipped_set fits stands = All-nil IsPositive

sets_are : (es : List Event) (sets : List (Set × Content)) → All BodyHas (map (λ p. p.0) sets) → StandInTurn es sets → All IsPositive (all_events sets)
sets_are es [] fits stand = All-nil IsPositive
sets_are es (p ∷ sets) fits stand =
    let ss : List Set = map (λ (q : Set × Content). q.0) sets in
    let first = content_is es p.0 p.1 (All-head BodyHas p.0 ss fits) stand.0 in
    let others = sets_are (behind es (events_of p.1)) sets (All-tail BodyHas p.0 ss fits) stand.1 in
    rw (flat_map-cons (λ (q : Set × Content). events_of q.1) p sets) (All-append IsPositive (events_of p.1) (all_events sets) first others)

both_are : (events es : List Event) → All IsPositive events → All IsPositive es → All IsPositive (behind es events)
both_are [] es new old = old
both_are (e ∷ events) es new old = both_are events (e ∷ es) (All-tail IsPositive e events new) (All-cons IsPositive e es (All-head IsPositive e events new) old)

pub message_keeps : (es : List Event) (h : Header) (sets : List (Set × Content)) (m : List ℕ) → IsOctets m → IsMessage es h sets m → All IsPositive es → All IsPositive (behind es (all_events sets))
message_keeps es h sets m fits is old =
    let ss : List Set = map (λ (q : Set × Content). q.0) sets in
    let text = IsOctets-rest (header_octets h) is.text (subst IsOctets is.octets fits) in
    both_are (all_events sets) es (sets_are es sets (bodies ss is.text text is.in_turn) is.contents) old

at_place : (later earlier : List Event) (e : Event) → All IsPositive (later ++ e ∷ earlier) → IsPositive e
at_place [] earlier e all = All-head IsPositive e earlier all
at_place (x ∷ later) earlier e all = at_place later earlier e (All-tail IsPositive x (later ++ e ∷ earlier) all)

pub in_force_is : (es : List Event) (t : Template) → All IsPositive es → IsInForce t es → IsPositive (Define t)
in_force_is es t all is = at_place is.later is.earlier (Define t) (subst (All IsPositive) is.order all)
