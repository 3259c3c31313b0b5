-- What a datagram gives depends on the events of its domain alone.
use Rattle.std.proofs.Common.{◌≡◌, ℕ, Bool, true, false, ltb, eqb, List, [], length, drop, Option, Some, None, Ok, Err, refl, sym, ap, subst, ◌∙◌, inl, inr}
use Rattle.std.specs.Prelude.{◌⊎◌, IsOk}
use Rattle.std.specs.Map.{lookup}
use Rattle.std.specs.Option.{unwrap_or, option_and_then}
use Rattle.std.proofs.lemmas.Bool.{eq-eqb, ltb-true}
use Rattle.ipfix_wire.specs.declared.header.Header.{Header}
use Rattle.ipfix_message.specs.declared.fault.MessageFault.{MessageFault}
use Rattle.ipfix_message.specs.declared.fault.MessageFault.TheVariants.{OutOfMemory, TooManyDomains}
use Rattle.ipfix_message.specs.declared.fault.MessageFault.TheVariants as faults
use Rattle.ipfix_message.specs.declared.template_record.Event.{Event}
use Rattle.ipfix_message.specs.Outcome.{Read, ◌>>=◌, Fails}
use Rattle.ipfix_message.specs.TemplatesInForce.{in_force}
use Rattle.ipfix_message.specs.Messages.{Decoding, before, sets_from}
use Rattle.ipfix_message.specs.Domains.{History, Message, admit, events_in, template_for, message_header, message_gives}
use Rattle.ipfix_message.specs.Alike.{Alike, knows}
use Rattle.ipfix_message.proofs.Reading.{ok_is, not_both, fault_is, Fails-of}
use Rattle.ipfix_message.proofs.History.{after_sets}
use Rattle.ipfix_message.proofs.PartsOf.{HasRoom, admits, was_read}
use Rattle.ipfix_datagrams.proofs.Withdrawn.{given_by}

-- ---- room

full : (ds : History) (domain : ℕ) → knows ds domain ≡ false → ltb (length ds) 1024 ≡ false → admit ds domain ≡ Err TooManyDomains
unfolding admit
full ds domain new long = rw (new, long) refl

not_ok : (read : Read History) (f : MessageFault) → read ≡ Err f → IsOk read → ⊥
not_ok (Ok x) f e ok = not_both x f e
not_ok (Err g) f e ok = absurd cc

pub room_or : (ds : History) (domain : ℕ) → HasRoom ds domain ⊎ (admit ds domain ≡ Err TooManyDomains)
room_or ds domain = by_cases (knows ds domain) refl (ltb (length ds) 1024) refl
  where
    by_cases : (b : Bool) → knows ds domain ≡ b → (c : Bool) → ltb (length ds) 1024 ≡ c → HasRoom ds domain ⊎ (admit ds domain ≡ Err TooManyDomains)
    by_cases true e c g = inl (inl e)
    by_cases false e true g = inl (inr (e, ltb-true (length ds) 1024 g))
    by_cases false e false g = inr (full ds domain e g)

pub room_of : (ds : History) (domain : ℕ) → IsOk (admit ds domain) → HasRoom ds domain
room_of ds domain ok = elim (room_or ds domain) [ inl room ↦ room | inr none ↦ absurd (not_ok (admit ds domain) TooManyDomains none ok) ]

-- ---- two readings

abbrev pub SameGiven : Message → Message → Type 0
SameGiven x y = (x.header ≡ y.header) × (x.decoding ≡ y.decoding)

pub same_reading : (fs ds : History) (m : List ℕ) (h : Header) → message_header m ≡ Ok h → HasRoom fs h.domain → HasRoom ds h.domain → events_in fs h.domain ≡ events_in ds h.domain
    → Alike SameGiven (message_gives fs m) (message_gives ds m)
same_reading fs ds m h good there here same =
    let a = admits fs h.domain there in
    let b = admits ds h.domain here in
    let is : events_in a.0 h.domain ≡ events_in b.0 h.domain = a.1.events h.domain ∙ same ∙ sym (b.1.events h.domain) in
    rw (given_by fs m h a.0 good a.1.is, given_by ds m h b.0 good b.1.is)
    (alike a.0 b.0 (sets_from h (before (events_in a.0 h.domain)) (drop 16 m)) (sets_from h (before (events_in b.0 h.domain)) (drop 16 m)) (ap (λ (es : List Event). sets_from h (before es) (drop 16 m)) is))
  where
    alike : (a b : History) (r s : Read Decoding) → r ≡ s → Alike SameGiven (r >>= λ d. after_sets h a d) (s >>= λ d. after_sets h b d)
    alike a b (Ok x) (Ok y) e = (refl, ok_is x y e)
    alike a b (Err f) (Err g) e = fault_is f g e
    alike a b (Ok x) (Err g) e = absurd (not_both x g e)
    alike a b (Err f) (Ok y) e = absurd (not_both y f (sym e))

pub alike_fault : (r s : Read Message) (f : MessageFault) → Alike SameGiven r s → r ≡ Err f → s ≡ Err f
alike_fault (Ok x) s f alike e = absurd (not_both x f e)
alike_fault (Err g) (Err k) f alike e = ap (λ (y : MessageFault). Err y) (sym alike) ∙ e
alike_fault (Err g) (Ok y) f alike e = absurd alike

pub alike_given : (r s : Read Message) (x : Message) → Alike SameGiven r s → r ≡ Ok x → (y : Message) × (s ≡ Ok y) × SameGiven x y
alike_given (Ok z) (Ok y) x alike e = (y, refl, subst (λ (k : Message). SameGiven k y) (ok_is z x e) alike)
alike_given (Ok z) (Err g) x alike e = absurd alike
alike_given (Err g) s x alike e = absurd (not_both x g (sym e))

pub alike_fails : (r s : Read Message) (f : MessageFault) → Alike SameGiven r s → Fails f r → Fails f s
alike_fails r s f alike fails = Fails-of f r s (λ g is. alike_fault r s g alike is) fails

-- ---- faults

-- a fault is that of reading, or of memory
pub fails_or : {X : Type 0} (f : MessageFault) (read : Read X) → Fails f read → (f ≡ OutOfMemory) ⊎ (read ≡ Err f)
fails_or OutOfMemory read h = inl refl
fails_or faults.Version read h = inr h
fails_or faults.MessageLength read h = inr h
fails_or faults.SetHeader read h = inr h
fails_or faults.SetLength read h = inr h
fails_or faults.TemplateId read h = inr h
fails_or faults.TemplateCut read h = inr h
fails_or faults.Scope read h = inr h
fails_or faults.ZeroLength read h = inr h
fails_or faults.TemplateChanged read h = inr h
fails_or faults.RecordCut read h = inr h
fails_or faults.TooManyDomains read h = inr h
fails_or faults.Spent read h = inr h
fails_or faults.TooManyFields read h = inr h

-- where reading gives a value, only memory can fail
pub only_memory : {X : Type 0} (fault : MessageFault) (read : Read X) (x : X) → Fails fault read → read ≡ Ok x → fault ≡ OutOfMemory
only_memory fault read x fails is = elim (fails_or fault read fails) [ inl e ↦ e | inr e ↦ absurd (not_both x fault (sym is ∙ e)) ]

-- ---- the templates of a domain

pub none_in : (id : ℕ) → in_force [] id ≡ None
unfolding in_force
none_in id = refl

pub template_is : (ds : History) (domain id : ℕ) → template_for ds domain id ≡ in_force (events_in ds domain) id
template_is ds domain id = by_cases (lookup (eqb domain) ds)
  where
    by_cases : (o : Option (List Event)) → option_and_then (λ es. in_force es id) o ≡ in_force (unwrap_or o []) id
    by_cases None = sym (none_in id)
    by_cases (Some es) = refl

-- the header that was read is the message's
pub header_same : (ds : History) (m : List ℕ) (h : Header) (x : Message) → message_header m ≡ Ok h → message_gives ds m ≡ Ok x → x.header ≡ h
header_same ds m h x good read = ok_is x.header h (sym (was_read ds m x read).header ∙ good)

-- the templates of its domain after a message
pub template_behind : (ds : History) (m : List ℕ) (x : Message) (id : ℕ) → message_gives ds m ≡ Ok x → template_for x.domains x.header.domain id ≡ in_force x.decoding.events id
template_behind ds m x id read =
    let w = was_read ds m x read in
    let here : eqb x.header.domain x.header.domain ≡ true = eq-eqb x.header.domain x.header.domain refl in
    template_is x.domains x.header.domain id ∙ ap (λ (es : List Event). in_force es id) (w.steps.events_at x.header.domain ∙ rw here refl)
