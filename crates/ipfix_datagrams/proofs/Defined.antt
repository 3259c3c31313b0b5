-- A message that defines a template is read: it gives no record, and the template is in force.
use Rattle.std.proofs.Common.{◌≡◌, ℕ, ◌+◌, ◌^◌, ◌<◌, Bool, true, false, List, [], ◌∷◌, length, drop, Option, Some, Result, Ok, refl, sym, ap, subst, ◌∙◌, eqb, arith, inl, inr}
use Rattle.std.specs.Prelude.{IsOk}
use Rattle.std.specs.Option.{unwrap_or}
use Rattle.std.specs.Map.{lookup}
use Rattle.std.proofs.lemmas.List.{append-nil, drop_at}
use Rattle.std.proofs.lemmas.List.Elements.{All-nil, All-cons}
use Rattle.std.proofs.lemmas.Bool.{eq-eqb}
use Rattle.std.proofs.lemmas.Bool.Decides.{eqb_tells}
use Rattle.ipfix_wire.specs.MessageHeader.{header_octets}
use Rattle.ipfix_message.specs.declared.fault.MessageFault.{MessageFault}
use Rattle.ipfix_message.specs.declared.record.Template.{Template}
use Rattle.ipfix_message.specs.declared.template_record.Event.{Event}
use Rattle.ipfix_message.specs.declared.template_record.Event.TheVariants.{Define}
use Rattle.ipfix_message.specs.Outcome.{◌>>=◌}
use Rattle.ipfix_message.specs.TemplatesInForce.{in_force}
use Rattle.ipfix_message.specs.Messages.{Decoding, before, sets_from}
use Rattle.ipfix_message.specs.Domains.{DomainsView, History, Message, StandsFor, admit, events_in, with_events, message_gives}
use Rattle.ipfix_message.specs.WrittenTemplates.{IsTemplate, template_set}
use Rattle.ipfix_message.specs.Alike.{knows}
use Rattle.ipfix_message.proofs.History.{after_sets, put, lookup-set_value}
use Rattle.ipfix_message.proofs.Reading.{ok_is}
use Rattle.ipfix_message.specs.declared.stamp.Stamp.{Stamp}
use Rattle.ipfix_message.specs.TemplateMessages.{IsStamp, sets_octets, stamped, templates_message}
use Rattle.ipfix_message.proofs.TemplateMessages.{Below, sets_read, header_is}
use Rattle.ipfix_datagrams.specs.declared.withdrawn_template.WithdrawnTemplate.{WithdrawnTemplate}
use Rattle.ipfix_datagrams.specs.Datagrams.{Preparation, Represents, with_domain, with_one_withdrawn, with_withdrawn, with_one_defined, with_defined, prepared}
use Rattle.ipfix_datagrams.specs.Attempts.{IsFree, CanDefine, Defining, MayWithdraw}
use Rattle.ipfix_datagrams.proofs.Events.{knows-events, events_now}
use Rattle.ipfix_message.proofs.PartsOf.{HasRoom}
use Rattle.ipfix_datagrams.proofs.Appearing.{admits_with, events-domain, knows-domain, knows-domain_other, room_ok}
use Rattle.ipfix_datagrams.proofs.Readings.{room_of}
use Rattle.ipfix_datagrams.proofs.Withdrawn.{given_by}
use Rattle.ipfix_datagrams.proofs.WithdrawnDomains.{knows-withdrawn, same_withdrawn}

-- ---- the message

defined_itself : (es : List Event) (t : Template) → in_force (Define t ∷ es) t.id ≡ Some t
unfolding in_force
defined_itself es t = let e : eqb t.id t.id ≡ true = eq-eqb t.id t.id refl in rw e refl

below : (es : List Event) (t : Template) → IsFree es t → Below es (Define t ∷ es)
unfolding in_force
below es t free = record {
  at = λ id. elim (eqb_tells id t.id) [
    | inl here ↦ elim free [
      | inl none ↦ inl (ap (in_force es) here.1 ∙ none)
      | inr same ↦ inr (ap (in_force es) here.1 ∙ same ∙ sym (ap (in_force (Define t ∷ es)) here.1 ∙ defined_itself es t))
    ]
    | inr other ↦ rw other.0 (inr refl)
  ];
}

pub record Defined (ds : History) (s : Stamp) (t : Template) (y : Message) : Type 0 where
  pub is : message_gives ds (templates_message s (t ∷ [])) ≡ Ok y
  pub domains : y.domains ≡ with_one_defined ds s.domain t
  pub records : y.decoding.records ≡ []

pub defines : (ds : History) (s : Stamp) (t : Template) → IsStamp s → IsTemplate t → IsOk (admit ds s.domain) → IsFree (events_in ds s.domain) t → (y : Message) × Defined ds s t y
defines ds s t is fits ok free =
    let ts = t ∷ [] in
    let k = stamped s (length (sets_octets ts)) in
    let known = with_domain ds s.domain in
    let es = events_in ds s.domain in
    let full = Define t ∷ es in
    let d = record (before es) { events = full } in
    let size : length (sets_octets ts) ≡ length (template_set t) = ap length (append-nil (template_set t)) in
    let small : 16 + length (sets_octets ts) < 2 ^ 16 = omega (arith, fits.fits, size) in
    let sets : sets_from k (before es) (drop 16 (templates_message s ts)) ≡ Ok d =
    ap (sets_from k (before es)) (drop_at (header_octets k) (sets_octets ts) 16 refl)
    ∙ sets_read k ts (before es) full (All-cons IsTemplate t [] fits (All-nil IsTemplate)) (All-cons (λ u. in_force full u.id ≡ Some u) t [] (defined_itself es t) (All-nil (λ u. in_force full u.id ≡ Some u))) (below es t free) in (
      record { header = k; decoding = d; domains = with_events known s.domain d.events },
      record {
        is =
            given_by ds (templates_message s ts) k known (header_is s ts is small) (admits_with ds s.domain (room_of ds s.domain ok))
            ∙ ap (λ (r : Result Decoding MessageFault). r >>= λ x. after_sets k known x) (ap (λ (fs : List Event). sets_from k (before fs) (drop 16 (templates_message s ts))) (events-domain ds s.domain s.domain) ∙ sets);
        domains = refl;
        records = refl;
      },
    )

-- it was decoded
pub defined_by : (kept : List (ℕ × List (ℕ × Template))) (ds : History) (s : Stamp) (t : Template) (octets : List ℕ) (m y : Message) → octets ≡ templates_message s (t ∷ []) → message_gives ds octets ≡ Ok m → StandsFor kept m.domains → Defined ds s t y
    → StandsFor kept (with_one_defined ds s.domain t)
defined_by kept ds s t octets m y written read stands gives =
    let same : m.domains ≡ with_one_defined ds s.domain t = ap (λ (k : Message). k.domains) (ok_is m y (sym read ∙ ap (message_gives ds) written ∙ gives.is)) ∙ gives.domains in
    subst (StandsFor kept) same stands

-- ---- domains in which templates are defined

-- those in which one is defined
pub knows-one_defined : (ds : History) (domain : ℕ) (t : Template) → knows (with_one_defined ds domain t) domain ≡ true
knows-one_defined ds domain t = knows-events (with_domain ds domain) domain domain (Define t ∷ events_in ds domain) ∙ knows-domain ds domain

pub defined_now : (ds : History) (domain : ℕ) (t : Template) → events_in (with_one_defined ds domain t) domain ≡ Define t ∷ events_in ds domain
defined_now ds domain t = events_now (with_domain ds domain) domain (Define t ∷ events_in ds domain) (knows-domain ds domain)

-- the events then depend on those before alone
same_defined : (ds fs : History) (domain : ℕ) (ts : List Template) → events_in fs domain ≡ events_in ds domain → events_in (with_defined fs domain ts) domain ≡ events_in (with_defined ds domain ts) domain
same_defined ds fs domain [] same = same
same_defined ds fs domain (t ∷ ts) same =
    same_defined (with_one_defined ds domain t) (with_one_defined fs domain t) domain ts
    (defined_now fs domain t ∙ ap (λ (es : List Event). Define t ∷ es) same ∙ sym (defined_now ds domain t))

-- there is still room for the domain
room_defined : (ds : History) (domain : ℕ) (ts : List Template) → HasRoom ds domain → HasRoom (with_defined ds domain ts) domain
room_defined ds domain [] room = room
room_defined ds domain (t ∷ ts) room = room_defined (with_one_defined ds domain t) domain ts (inl (knows-one_defined ds domain t))

-- ---- after a preparation

pub room_withdrawn : (ds : History) (domain : ℕ) (ws : List WithdrawnTemplate) → MayWithdraw ds domain ws → HasRoom ds domain → HasRoom (with_withdrawn ds domain ws) domain
room_withdrawn ds domain ws (inl none) room = subst (λ (vs : List WithdrawnTemplate). HasRoom (with_withdrawn ds domain vs) domain) (sym none) room
room_withdrawn ds domain ws (inr there) room = inl (knows-withdrawn ds domain ws domain ∙ there)

pub room_prepared : (ds : History) (domain : ℕ) (p : Preparation) → MayWithdraw ds domain p.withdrawn → HasRoom ds domain → HasRoom (prepared ds domain p) domain
room_prepared ds domain p may room = room_defined (with_withdrawn ds domain p.withdrawn) domain p.defined (room_withdrawn ds domain p.withdrawn may room)

pub same_in : (ds fs : History) (domain : ℕ) (ws : List WithdrawnTemplate) → MayWithdraw ds domain ws → MayWithdraw fs domain ws → events_in fs domain ≡ events_in ds domain
    → events_in (with_withdrawn fs domain ws) domain ≡ events_in (with_withdrawn ds domain ws) domain
same_in ds fs domain ws (inl none) here same = subst (λ (vs : List WithdrawnTemplate). events_in (with_withdrawn fs domain vs) domain ≡ events_in (with_withdrawn ds domain vs) domain) (sym none) same
same_in ds fs domain ws (inr there) (inl none) same = subst (λ (vs : List WithdrawnTemplate). events_in (with_withdrawn fs domain vs) domain ≡ events_in (with_withdrawn ds domain vs) domain) (sym none) same
same_in ds fs domain ws (inr there) (inr here) same = same_withdrawn ds fs domain ws there here same

pub same_prepared : (ds fs : History) (domain : ℕ) (p : Preparation) → MayWithdraw ds domain p.withdrawn → MayWithdraw fs domain p.withdrawn → events_in fs domain ≡ events_in ds domain
    → events_in (prepared fs domain p) domain ≡ events_in (prepared ds domain p) domain
same_prepared ds fs domain p there here same =
    same_defined (with_withdrawn ds domain p.withdrawn) (with_withdrawn fs domain p.withdrawn) domain p.defined (same_in ds fs domain p.withdrawn there here same)

-- other domains stay as they are
other_events : (ds : History) (domain q : ℕ) (es : List Event) → eqb q domain ≡ false → events_in (with_events ds domain es) q ≡ events_in ds q
other_events ds domain q es other =
    ap (λ (o : Option (List Event)). unwrap_or o []) (lookup-set_value q domain ds es) ∙ ap (λ (b : Bool). unwrap_or (put es b (lookup (eqb q) ds)) []) other

others_withdrawn : (ds : History) (domain q : ℕ) (ws : List WithdrawnTemplate) → eqb q domain ≡ false → events_in (with_withdrawn ds domain ws) q ≡ events_in ds q
others_withdrawn ds domain q [] other = refl
others_withdrawn ds domain q (w ∷ ws) other = others_withdrawn (with_one_withdrawn ds domain w) domain q ws other ∙ other_withdrawn
  where
    other_withdrawn : events_in (with_one_withdrawn ds domain w) q ≡ events_in ds q
    other_withdrawn = other_events ds domain q _ other

others_defined : (ds : History) (domain q : ℕ) (ts : List Template) → eqb q domain ≡ false → events_in (with_defined ds domain ts) q ≡ events_in ds q
others_defined ds domain q [] other = refl
others_defined ds domain q (t ∷ ts) other = others_defined (with_one_defined ds domain t) domain q ts other ∙ other_events (with_domain ds domain) domain q (Define t ∷ events_in ds domain) other ∙ events-domain ds domain q

pub others_prepared : (ds : History) (domain q : ℕ) (p : Preparation) → eqb q domain ≡ false → events_in (prepared ds domain p) q ≡ events_in ds q
others_prepared ds domain q p other = others_defined (with_withdrawn ds domain p.withdrawn) domain q p.defined other ∙ others_withdrawn ds domain q p.withdrawn other

knows_defined : (ds : History) (domain q : ℕ) (ts : List Template) → eqb q domain ≡ false → knows (with_defined ds domain ts) q ≡ knows ds q
knows_defined ds domain q [] other = refl
knows_defined ds domain q (t ∷ ts) other =
    knows_defined (with_one_defined ds domain t) domain q ts other ∙ knows-events (with_domain ds domain) domain q (Define t ∷ events_in ds domain) ∙ knows-domain_other ds domain q other

-- and no other appears
pub knows_prepared : (ds : History) (domain q : ℕ) (p : Preparation) → eqb q domain ≡ false → knows (prepared ds domain p) q ≡ knows ds q
knows_prepared ds domain q p other = knows_defined (with_withdrawn ds domain p.withdrawn) domain q p.defined other ∙ knows-withdrawn ds domain p.withdrawn q

-- none yet
pub defining_first : (ds : History) (domain : ℕ) (all rest : List Template) (d : DomainsView) → rest ≡ all → Represents d ds → IsOk (admit ds domain) → CanDefine (events_in ds domain) all → Defining ds domain all rest d
defining_first ds domain all rest d same represents room can = record {
  now = ds;
  represents = represents;
  room = room;
  can = subst (CanDefine (events_in ds domain)) (sym same) can;
  same = ap (with_defined ds domain) same;
}

-- one more
pub defining_more : (ds : History) (domain : ℕ) (all ts rest : List Template) (t u : Template) (old new : DomainsView) (f : Defining ds domain all ts old) → ts ≡ t ∷ rest → u ≡ t
    → (IsFree (events_in f.now domain) u → Represents new (with_one_defined f.now domain u)) → Defining ds domain all rest new
defining_more ds domain all ts rest t u old new f step same one =
    let can : CanDefine (events_in f.now domain) (t ∷ rest) = subst (CanDefine (events_in f.now domain)) step f.can in
    let done = one (subst (IsFree (events_in f.now domain)) (sym same) can.0) in
    record {
      now = with_one_defined f.now domain t;
      represents = subst (λ (v : Template). Represents new (with_one_defined f.now domain v)) same done;
      room = room_ok (with_one_defined f.now domain t) domain (inl (knows-one_defined f.now domain t));
      can = subst (λ (es : List Event). CanDefine es rest) (sym (defined_now f.now domain t)) can.1;
      same = sym (ap (with_defined f.now domain) step) ∙ f.same;
    }

pub defining_free : (ds : History) (domain : ℕ) (all ts rest : List Template) (t u : Template) (d : DomainsView) (f : Defining ds domain all ts d) → ts ≡ t ∷ rest → u ≡ t
    → IsFree (events_in f.now domain) u
defining_free ds domain all ts rest t u d f step same =
    let can : CanDefine (events_in f.now domain) (t ∷ rest) = subst (CanDefine (events_in f.now domain)) step f.can in
    subst (IsFree (events_in f.now domain)) (sym same) can.0

pub defined_whole : (ds : History) (domain : ℕ) (all rest : List Template) (d : DomainsView) → Defining ds domain all rest d → rest ≡ [] → Represents d (with_defined ds domain all)
defined_whole ds domain all rest d f none = subst (Represents d) (sym (ap (with_defined f.now domain) none) ∙ f.same) f.represents
