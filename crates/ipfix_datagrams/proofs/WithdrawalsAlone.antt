-- Whether octets are withdrawals alone, one after another.
use Rattle.std.proofs.Common.{◌≡◌, ℕ, ◌<◌, ◌≤◌, Bool, true, false, ◌&&◌, ◌||◌, eqb, List, length, Ok, Err, refl, ap, ◌∙◌}
use Rattle.std.specs.List.{list_all}
use Rattle.std.proofs.lemmas.Bool.{le-ltb, lt-ltb}
use Rattle.ipfix_wire.specs.InTurn.{Parts}
use Rattle.ipfix_wire.proofs.Parts.{parts_of-next, parts_of-none}
use Rattle.ipfix_message.specs.declared.fault.MessageFault.{MessageFault}
use Rattle.ipfix_message.specs.declared.template_record.TemplateKind.{TemplateKind}
use Rattle.ipfix_message.specs.declared.template_record.Event.{Event}
use Rattle.ipfix_message.specs.TemplateRecords.{event_at, is_padding}
use Rattle.ipfix_message.specs.Sets.{Set, next_set}
use Rattle.ipfix_message.proofs.TemplateRecords.{events_shrink}
use Rattle.ipfix_message.proofs.MessageSets.{sets_shrink, next_set-nil}
use Rattle.ipfix_datagrams.specs.Datagrams.{is_withdrawal, are_withdrawals, is_withdrawing, are_sets_of_withdrawals}
use Rattle.ipfix_datagrams.proofs.FirstAndLast.{cut_event}

and_and : (a b c : Bool) → ((a && b) && c) ≡ (a && (b && c))
and_and true b c = refl
and_and false b c = refl

-- what is found of one more, put to what was found before it
pub and_moves : (a b c : Bool) → ((a && b) && c) ≡ (b && (a && c))
and_moves true b c = refl
and_moves false true c = refl
and_moves false false c = refl

pub and_true : (b : Bool) → (b && true) ≡ b
and_true true = refl
and_true false = refl

-- ---- the template records of a set

pub next_withdrawals : (kind : TemplateKind) (w : List ℕ) (e : Event) (r : List ℕ) → event_at kind w ≡ Ok (e, r) → are_withdrawals kind w ≡ (is_withdrawal e && are_withdrawals kind r)
next_withdrawals kind w e r is =
    ap (λ (p : Parts Event). list_all is_withdrawal p.items && is_padding p.rest) (parts_of-next (event_at kind) (events_shrink kind) w e r is)
    ∙ and_and (is_withdrawal e) _ _

none_left : (kind : TemplateKind) (w : List ℕ) (f : MessageFault) → event_at kind w ≡ Err f → are_withdrawals kind w ≡ is_padding w
none_left kind w f is = ap (λ (p : Parts Event). list_all is_withdrawal p.items && is_padding p.rest) (parts_of-none (event_at kind) w f is)

-- no record stands in what is left
pub no_withdrawals : (kind : TemplateKind) (w : List ℕ) (f : MessageFault) → 4 ≤ length w → event_at kind w ≡ Err f → are_withdrawals kind w ≡ list_all (λ b. eqb b 0) w
no_withdrawals kind w f long is = none_left kind w f is ∙ ap (λ (b : Bool). b || list_all (λ b. eqb b 0) w) (le-ltb (length w) 4 long)

-- what is left is shorter than a record
pub short_withdrawals : (kind : TemplateKind) (w : List ℕ) → length w < 4 → are_withdrawals kind w ≡ true
short_withdrawals kind w short =
    let less = lt-ltb (length w) 4 short in
    let e = cut_event kind w less in none_left kind w _ e ∙ ap (λ (b : Bool). b || list_all (λ b. eqb b 0) w) less

-- ---- the sets of a datagram

pub next_set_withdrawals : (w : List ℕ) (s : Set) (r : List ℕ) → next_set w ≡ Ok (s, r) → are_sets_of_withdrawals w ≡ (is_withdrawing s && are_sets_of_withdrawals r)
next_set_withdrawals w s r is =
    ap (λ (p : Parts Set). list_all is_withdrawing p.items && eqb (length p.rest) 0) (parts_of-next next_set sets_shrink w s r is)
    ∙ and_and (is_withdrawing s) _ _

no_set_left : (w : List ℕ) (f : MessageFault) → next_set w ≡ Err f → are_sets_of_withdrawals w ≡ eqb (length w) 0
no_set_left w f is = ap (λ (p : Parts Set). list_all is_withdrawing p.items && eqb (length p.rest) 0) (parts_of-none next_set w f is)

pub no_set_withdrawals : (w : List ℕ) (f : MessageFault) → eqb (length w) 0 ≡ false → next_set w ≡ Err f → are_sets_of_withdrawals w ≡ false
no_set_withdrawals w f some is = no_set_left w f is ∙ some

pub end_withdrawals : (w : List ℕ) → length w ≡ 0 → are_sets_of_withdrawals w ≡ true
end_withdrawals w none = let e = next_set-nil w none in no_set_left w e.0 e.1 ∙ ap (λ (n : ℕ). eqb n 0) none
