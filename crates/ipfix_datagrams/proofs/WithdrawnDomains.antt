-- Domains in which templates are withdrawn.
use Rattle.std.proofs.Common.{◌≡◌, ℕ, ◌<◌, length, arith, inl, inr, Bool, true, cond, eqb, is_some, List, [], ◌∷◌, ◌++◌, Option, Some, None, Ok, refl, sym, ap, subst, ◌∙◌}
use Rattle.std.specs.Map.{lookup}
use Rattle.std.specs.Option.{unwrap_or}
use Rattle.std.proofs.lemmas.Bool.{eq-eqb}
use Rattle.ipfix_wire.specs.declared.header.Header.{Header}
use Rattle.ipfix_message.specs.declared.record.Template.{Template}
use Rattle.ipfix_message.specs.declared.template_record.Event.{Event}
use Rattle.ipfix_message.specs.Domains.{History, Message, StandsFor, alone, events_in, message_gives}
use Rattle.ipfix_message.specs.Alike.{knows}
use Rattle.ipfix_message.proofs.Reading.{ok_is}
use Rattle.ipfix_message.specs.declared.template_record.Event.TheVariants.{Withdraw}
use Rattle.ipfix_datagrams.specs.declared.withdrawn_template.WithdrawnTemplate.{WithdrawnTemplate}
use Rattle.ipfix_datagrams.specs.Withdrawals.{kind_withdrawn, withdrawal_message}
use Rattle.ipfix_datagrams.specs.Datagrams.{with_one_withdrawn, with_withdrawn}
use Rattle.ipfix_datagrams.specs.Attempts.{MayWithdraw}
use Rattle.ipfix_datagrams.proofs.Events.{knows-events, events_now}
use Rattle.ipfix_datagrams.proofs.Withdrawn.{Withdrawn}

-- one more
pub withdrawn-push : (ds : History) (domain : ℕ) (ws : List WithdrawnTemplate) (w : WithdrawnTemplate) → with_withdrawn ds domain (ws ++ w ∷ []) ≡ with_one_withdrawn (with_withdrawn ds domain ws) domain w
withdrawn-push ds domain [] w = refl
withdrawn-push ds domain (v ∷ ws) w = withdrawn-push (with_one_withdrawn ds domain v) domain ws w

-- the events after it
abbrev events_after : List Event → WithdrawnTemplate → List Event
events_after es w = Withdraw (kind_withdrawn w) w.id ∷ es

pub knows-withdrawn : (ds : History) (domain : ℕ) (ws : List WithdrawnTemplate) (q : ℕ) → knows (with_withdrawn ds domain ws) q ≡ knows ds q
knows-withdrawn ds domain [] q = refl
knows-withdrawn ds domain (w ∷ ws) q = knows-withdrawn (with_one_withdrawn ds domain w) domain ws q ∙ knows-events ds domain q (events_after (events_in ds domain) w)

-- where one is withdrawn the domain is known
pub some_knows : (ds : History) (domain : ℕ) (ws : List WithdrawnTemplate) (i : ℕ) → i < length ws → MayWithdraw ds domain ws → knows ds domain ≡ true
some_knows ds domain ws i more (inl none) = absurd (omega (arith, ap length none))
some_knows ds domain ws i more (inr there) = there

-- the events after templates were withdrawn depend on those before alone
pub same_withdrawn : (ds fs : History) (domain : ℕ) (ws : List WithdrawnTemplate) → knows ds domain ≡ true → knows fs domain ≡ true → events_in fs domain ≡ events_in ds domain
    → events_in (with_withdrawn fs domain ws) domain ≡ events_in (with_withdrawn ds domain ws) domain
same_withdrawn ds fs domain [] there here same = same
same_withdrawn ds fs domain (w ∷ ws) there here same =
    same_withdrawn (with_one_withdrawn ds domain w) (with_one_withdrawn fs domain w) domain ws
    (knows-events ds domain domain (events_after (events_in ds domain) w) ∙ there) (knows-events fs domain domain (events_after (events_in fs domain) w) ∙ here)
    (events_now fs domain (events_after (events_in fs domain) w) here ∙ ap (λ (es : List Event). events_after es w) same ∙ sym (events_now ds domain (events_after (events_in ds domain) w) there))

-- ---- one domain alone

pub alone_none : (ds : History) (domain : ℕ) → lookup (eqb domain) ds ≡ None → alone ds domain ≡ []
alone_none ds domain e = ap (λ (o : Option (List Event)). elim o [ None ↦ [] | Some es ↦ (domain, es) ∷ [] ]) e

alone_some : (ds : History) (domain : ℕ) (es : List Event) → lookup (eqb domain) ds ≡ Some es → alone ds domain ≡ (domain, es) ∷ []
alone_some ds domain es e = ap (λ (o : Option (List Event)). elim o [ None ↦ [] | Some fs ↦ (domain, fs) ∷ [] ]) e

found_alone : (domain : ℕ) (es : List Event) → lookup (eqb domain) ((domain, es) ∷ []) ≡ Some es
found_alone domain es = ap (λ (b : Bool). cond b (Some es) None) (eq-eqb domain domain refl)

lookup_alone : (ds : History) (domain : ℕ) (o : Option (List Event)) → lookup (eqb domain) ds ≡ o → lookup (eqb domain) (alone ds domain) ≡ o
lookup_alone ds domain None e = ap (λ (k : History). lookup (eqb domain) k) (alone_none ds domain e)
lookup_alone ds domain (Some es) e = ap (λ (k : History). lookup (eqb domain) k) (alone_some ds domain es e) ∙ found_alone domain es

pub alone_events : (ds : History) (domain : ℕ) → events_in (alone ds domain) domain ≡ events_in ds domain
alone_events ds domain = ap (λ (o : Option (List Event)). unwrap_or o []) (lookup_alone ds domain (lookup (eqb domain) ds) refl)

pub alone_knows : (ds : History) (domain : ℕ) → knows (alone ds domain) domain ≡ knows ds domain
alone_knows ds domain = ap is_some (lookup_alone ds domain (lookup (eqb domain) ds) refl)

-- ---- the code

-- a message that withdraws templates was decoded
pub withdrawn_by : (kept : List (ℕ × List (ℕ × Template))) (ds : History) (h : Header) (ws : List WithdrawnTemplate) (octets : List ℕ) (m y : Message) → octets ≡ withdrawal_message h ws → message_gives ds octets ≡ Ok m → StandsFor kept m.domains → Withdrawn ds h ws y
    → StandsFor kept (with_withdrawn ds h.domain ws)
withdrawn_by kept ds h ws octets m y written read stands gives =
    let same : m.domains ≡ with_withdrawn ds h.domain ws = ap (λ (k : Message). k.domains) (ok_is m y (sym read ∙ ap (message_gives ds) written ∙ gives.is)) ∙ gives.domains in
    subst (StandsFor kept) same stands
