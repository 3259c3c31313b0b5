-- What is kept of the templates that were withdrawn in the files.
use Rattle.std.proofs.Common.{◌≡◌, ℕ, Bool, true, false, cond, eqb, is_some, List, [], ◌∷◌, ◌++◌, Option, Some, None, Result, Ok, Err, refl, sym, ap, ap₂, subst, ◌∙◌, inl, inr}
use Rattle.std.specs.Prelude.{All, Contains, OnOk, ◌⊎◌, ◌||◌, map, reverse}
use Rattle.std.specs.List.{list_any}
use Rattle.std.specs.Cmp.{nat_eq_equiv}
use Rattle.std.proofs.lemmas.Map.Views.{list_any-from_Contains}
use Rattle.std.specs.Option.{option_or}
use Rattle.std.specs.BTreeMap.{BTreeMap}
use Rattle.std.proofs.lemmas.Bool.{eq-eqb}
use Rattle.std.proofs.lemmas.Bool.Decides.{eqb_tells}
use Rattle.std.proofs.lemmas.List.Elements.{All-head, All-tail, All-weaker}
use Rattle.ipfix_wire.specs.declared.header.Header.{Header}
use Rattle.ipfix_message.specs.declared.record.Template.{Template}
use Rattle.ipfix_message.specs.declared.template_record.TemplateKind.{TemplateKind}
use Rattle.ipfix_message.specs.declared.template_record.Event.{Event}
use Rattle.ipfix_message.specs.declared.template_record.Event.TheVariants.{Define, Withdraw, WithdrawAll}
use Rattle.ipfix_message.specs.TemplatesInForce.{in_force, is_of, unless_of}
use Rattle.ipfix_message.specs.Domains.{History, Message, events_in, template_for, message_header, message_gives}
use Rattle.ipfix_message.specs.Alike.{knows}
use Rattle.ipfix_message.proofs.PartsOf.{was_read}
use Rattle.ipfix_datagrams.specs.declared.withdrawn_template.WithdrawnTemplate.{WithdrawnTemplate}
use Rattle.ipfix_datagrams.specs.Withdrawals.{kind_withdrawn}
use Rattle.ipfix_datagrams.specs.Datagrams.{AreTemplatesOf, Basis, KeepsWithdrawn, Preparation, defined_before, definition_of, events_of_message, known_in, last_definition, withdrawn_in, with_one_withdrawn, with_withdrawn, with_one_defined, with_defined, prepared, IsTaken, template_at}
use Rattle.ipfix_datagrams.specs.Attempts.{CanPrepare, MayWithdraw, with_ended}
use Rattle.ipfix_datagrams.proofs.Answered.{taken_prepares}
use Rattle.ipfix_datagrams.proofs.Defined.{others_prepared, defined_now, knows_prepared}
use Rattle.ipfix_datagrams.proofs.InForce.{known_or}
use Rattle.ipfix_datagrams.proofs.Replacing.{contains_map}
use Rattle.ipfix_datagrams.proofs.Resumed.{before_id}
use Rattle.ipfix_datagrams.proofs.Events.{knows-events, events_now}
use Rattle.ipfix_datagrams.proofs.FirstAndLast.{none_defined, definition-append}
use Rattle.ipfix_datagrams.proofs.Given.{message_given}
use Rattle.ipfix_datagrams.proofs.Readings.{header_same, template_is, template_behind}
use Rattle.ipfix_datagrams.proofs.WithdrawnDomains.{knows-withdrawn}

-- nothing at first
pub none_kept : (s : BTreeMap ℕ (BTreeMap ℕ Template)) → ((domain id : ℕ) → template_at s domain id ≡ None) → KeepsWithdrawn s []
none_kept s none = record { at = λ domain id. none domain id ∙ sym (none_defined id) }

pub no_entry : (s : BTreeMap ℕ (BTreeMap ℕ Template)) (domain id : ℕ) → s.entries ≡ [] → template_at s domain id ≡ None
no_entry s domain id none = rw none refl

-- ---- what is known after a preparation

skips_withdrawal : (kind : TemplateKind) (i id : ℕ) (es : List Event) → definition_of (Withdraw kind i ∷ es) id ≡ definition_of es id
unfolding definition_of
skips_withdrawal kind i id es = refl

known_left : (ds : History) (domain : ℕ) (ws : List WithdrawnTemplate) (id : ℕ) → knows ds domain ≡ true → known_in (with_withdrawn ds domain ws) domain id ≡ known_in ds domain id
known_left ds domain [] id there = refl
known_left ds domain (w ∷ ws) id there =
    let es = Withdraw (kind_withdrawn w) w.id ∷ events_in ds domain in
    known_left (with_one_withdrawn ds domain w) domain ws id (knows-events ds domain domain es ∙ there)
    ∙ ap (λ (fs : List Event). definition_of fs id) (events_now ds domain es there) ∙ skips_withdrawal (kind_withdrawn w) w.id id (events_in ds domain)

known_withdrawn : (ds : History) (domain : ℕ) (ws : List WithdrawnTemplate) (id : ℕ) → MayWithdraw ds domain ws → known_in (with_withdrawn ds domain ws) domain id ≡ known_in ds domain id
known_withdrawn ds domain ws id (inl none) = ap (λ (vs : List WithdrawnTemplate). known_in (with_withdrawn ds domain vs) domain id) none
known_withdrawn ds domain ws id (inr there) = known_left ds domain ws id there

one_defined : (ds : History) (domain : ℕ) (t : Template) (id : ℕ) → known_in (with_one_defined ds domain t) domain id ≡ cond (eqb id t.id) (Some t) (known_in ds domain id)
unfolding definition_of
one_defined ds domain t id = ap (λ (es : List Event). definition_of es id) (defined_now ds domain t)

-- one that is among them is known then; and what was known before, if it is what f says
known_defined : (ds : History) (domain : ℕ) (ts : List Template) (f : ℕ → Option Template) (id : ℕ) → All (λ t. f t.id ≡ Some t) ts → (known_in ds domain id ≡ f id) ⊎ (list_any (eqb id) (map (λ t. t.id) ts) ≡ true)
    → known_in (with_defined ds domain ts) domain id ≡ f id
known_defined ds domain [] f id all (inl same) = same
known_defined ds domain [] f id all (inr some) = absurd cc
known_defined ds domain (t ∷ ts) f id all known =
    let is = All-head (λ u. f u.id ≡ Some u) t ts all in
    known_defined (with_one_defined ds domain t) domain ts f id (All-tail (λ u. f u.id ≡ Some u) t ts all) (elim (eqb_tells id t.id) [
      | inl here ↦ inl (one_defined ds domain t id ∙ rw here.0 (sym (ap f here.1 ∙ is)))
      | inr other ↦ elim known [
        | inl same ↦ inl (one_defined ds domain t id ∙ rw other.0 same)
        | inr some ↦ inr (sym (ap (λ (b : Bool). b || list_any (eqb id) (map (λ t. t.id) ts)) other.0) ∙ some)
      ]
    ])

-- one of them is among them
is_among : (f : ℕ → Option Template) (ts : List Template) (t : Template) (id : ℕ) → AreTemplatesOf f ts → f id ≡ Some t → t.id ≡ id → list_any (eqb id) (map (λ u. u.id) ts) ≡ true
is_among f ts t id are is same =
    let there : Contains (map (λ (u : Template). u.id) ts) t.id = contains_map (λ (u : Template). u.id) ts t (are.all t (ap f same ∙ is)) in
    list_any-from_Contains nat_eq_equiv id (map (λ (u : Template). u.id) ts) (subst (Contains (map (λ (u : Template). u.id) ts)) same there)

or_first : (o p : Option Template) (t : Template) → o ≡ Some t → option_or o p ≡ Some t
or_first None p t e = absurd (none_is_not t e)
  where
    none_is_not : (t : Template) → None ≡ Some t → ⊥
    none_is_not t e = cc
or_first (Some u) p t e = e

known_prepared : (basis : Basis) (ds : History) (m : List ℕ) (domain : ℕ) (p : Preparation) (id : ℕ) → CanPrepare ds domain p → AreTemplatesOf (defined_before basis ds m domain) p.defined
    → known_in (prepared ds domain p) domain id ≡ option_or (defined_before basis ds m domain id) (known_in ds domain id)
known_prepared basis ds m domain p id can are =
    known_defined (with_withdrawn ds domain p.withdrawn) domain p.defined f id
    (All-weaker (λ t. before t.id ≡ Some t) (λ t. f t.id ≡ Some t) (λ t is. or_first (before t.id) (known_in ds domain t.id) t is) p.defined are.each) (by_cases (before id) refl)
  where
    before : ℕ → Option Template
    before = defined_before basis ds m domain

    f : ℕ → Option Template
    f = λ q. option_or (before q) (known_in ds domain q)

    by_cases : (o : Option Template) → before id ≡ o → (known_in (with_withdrawn ds domain p.withdrawn) domain id ≡ f id) ⊎ (list_any (eqb id) (map (λ t. t.id) p.defined) ≡ true)
    by_cases None e = inl (known_withdrawn ds domain p.withdrawn id can.0 ∙ sym (ap (λ (o : Option Template). option_or o (known_in ds domain id)) e))
    by_cases (Some t) e = inr (is_among before p.defined t id are e (before_id basis ds m domain id t e))

-- ---- after a datagram

-- the header of what it gave at first
same_header : (ds es : History) (m : List ℕ) (x y : Message) → message_gives ds m ≡ Ok x → message_gives es m ≡ Ok y → y.header ≡ x.header
same_header ds es m x y first second = header_same es m x.header y (was_read ds m x first).header second

first_domain : (basis : Basis) (ds : History) (m : List ℕ) (p : Preparation) (x : Message) (t : IsTaken basis ds m p x) → x.header.domain ≡ t.first.header.domain
first_domain basis ds m p x t = ap (λ (h : Header). h.domain) (same_header _ _ m t.first x t.is_prepared.read t.read)

-- other domains stay as they are
other_events : (basis : Basis) (ds : History) (m : List ℕ) (p : Preparation) (x : Message) (q : ℕ) → IsTaken basis ds m p x → eqb q x.header.domain ≡ false → events_in x.domains q ≡ events_in ds q
other_events basis ds m p x q taken other =
    let d = taken.first.header.domain in
    let w = was_read (prepared ds d p) m x taken.read in
    let elsewhere : eqb q d ≡ false = ap (eqb q) (sym (first_domain basis ds m p x taken)) ∙ other in
    w.steps.events_at q ∙ ap (λ (b : Bool). cond b x.decoding.events (events_in (prepared ds d p) q)) other ∙ others_prepared ds d q p elsewhere

other_withdrawn : (basis : Basis) (ds : History) (m : List ℕ) (p : Preparation) (x : Message) (q id : ℕ) → IsTaken basis ds m p x → eqb q x.header.domain ≡ false → withdrawn_in x.domains q id ≡ withdrawn_in ds q id
other_withdrawn basis ds m p x q id taken other =
    let events = other_events basis ds m p x q taken other in
    ap₂ (λ (o k : Option Template). cond (is_some o) None k) (template_is x.domains q id ∙ ap (λ (es : List Event). in_force es id) events ∙ sym (template_is ds q id)) (ap (λ (es : List Event). definition_of es id) events)

-- in its domain what it defines last is known, or what was known before
pub known_after : (basis : Basis) (ds : History) (m : List ℕ) (p : Preparation) (x : Message) (id : ℕ) → IsTaken basis ds m p x → known_in x.domains x.header.domain id ≡ option_or (last_definition m id) (option_or (defined_before basis ds m x.header.domain id) (known_in ds x.header.domain id))
known_after basis ds m p x id taken =
    let d = taken.first.header.domain in
    let same = first_domain basis ds m p x taken in
    let w = was_read (prepared ds d p) m x taken.read in
    let good = (was_read (with_withdrawn ds d p.withdrawn) m taken.first taken.is_prepared.read).header in
    let here : eqb x.header.domain x.header.domain ≡ true = eq-eqb x.header.domain x.header.domain refl in
    let events : events_in x.domains x.header.domain ≡ reverse (events_of_message m) ++ events_in (prepared ds d p) x.header.domain = w.steps.events_at x.header.domain ∙ rw here refl ∙ message_given (prepared ds d p) m x taken.read in
    let before : known_in (prepared ds d p) x.header.domain id ≡ option_or (defined_before basis ds m x.header.domain id) (known_in ds x.header.domain id) =
    ap (λ (q : ℕ). known_in (prepared ds d p) q id) same ∙ known_prepared basis ds m d p id (taken_prepares basis ds m taken.first.header p x good taken) taken.is_prepared.again
    ∙ ap (λ (q : ℕ). option_or (defined_before basis ds m q id) (known_in ds q id)) (sym same) in
    ap (λ (es : List Event). definition_of es id) events ∙ definition-append (reverse (events_of_message m)) (events_in (prepared ds d p) x.header.domain) id
    ∙ ap (option_or (last_definition m id)) before

-- its domain has appeared then
pub knows_after : (basis : Basis) (ds : History) (m : List ℕ) (p : Preparation) (x : Message) → IsTaken basis ds m p x → knows x.domains x.header.domain ≡ true
knows_after basis ds m p x taken =
    let d = x.header.domain in
    let w = was_read (prepared ds taken.first.header.domain p) m x taken.read in
    w.steps.knows_at d ∙ ap (λ (b : Bool). knows (prepared ds taken.first.header.domain p) d || b) (eq-eqb d d refl) ∙ or_true_right (knows (prepared ds taken.first.header.domain p) d)
  where
    or_true_right : (b : Bool) → (b || true) ≡ true
    or_true_right true = refl
    or_true_right false = refl

-- and no other, and what is known there stays
pub known_elsewhere : (basis : Basis) (ds : History) (m : List ℕ) (p : Preparation) (x : Message) (q : ℕ) → IsTaken basis ds m p x → eqb q x.header.domain ≡ false → (knows x.domains q ≡ knows ds q) × ((id : ℕ) → known_in x.domains q id ≡ known_in ds q id)
known_elsewhere basis ds m p x q taken other =
    let d = taken.first.header.domain in
    let w = was_read (prepared ds d p) m x taken.read in
    let elsewhere : eqb q d ≡ false = ap (eqb q) (sym (first_domain basis ds m p x taken)) ∙ other in (
      w.steps.knows_at q ∙ ap (λ (b : Bool). knows (prepared ds d p) q || b) other ∙ or_false (knows (prepared ds d p) q) ∙ knows_prepared ds d q p elsewhere,
      λ id. ap (λ (es : List Event). definition_of es id) (other_events basis ds m p x q taken other),
    )
  where
    or_false : (b : Bool) → (b || false) ≡ b
    or_false true = refl
    or_false false = refl

-- ---- the code

pub record_domain : (basis : Basis) (ds : History) (m : List ℕ) (x : Message) (p : Preparation) (h : Header) → message_header m ≡ Ok h → IsTaken basis ds m p x → x.header.domain ≡ h.domain
record_domain basis ds m x p h good taken = ap (λ (g : Header). g.domain) (header_same (prepared ds taken.first.header.domain p) m h x good taken.read)

ended_here : (now last given before kept : Option Template) → cond (is_some now) None (with_ended now last (with_ended now given (with_ended now before kept))) ≡ cond (is_some now) None (option_or last (option_or given (option_or before kept)))
ended_here None last given before kept = refl
ended_here (Some t) last given before kept = refl

-- what is put there for an id is withdrawn then
kept_here : (basis : Basis) (ds : History) (m : List ℕ) (p : Preparation) (x : Message) (id : ℕ) (now last given before kept : Option Template) → IsTaken basis ds m p x → now ≡ in_force x.decoding.events id → last ≡ last_definition m id → given ≡ defined_before basis ds m x.header.domain id → before ≡ template_for ds x.header.domain id
    → kept ≡ withdrawn_in ds x.header.domain id → cond (is_some now) None (with_ended now last (with_ended now given (with_ended now before kept))) ≡ withdrawn_in x.domains x.header.domain id
kept_here basis ds m p x id now last given before kept taken is_now is_last is_given is_before is_kept =
    let d = x.header.domain in
    let left : now ≡ template_for x.domains d id = is_now ∙ sym (template_behind (prepared ds taken.first.header.domain p) m x id taken.read) in
    let known : option_or last (option_or given (option_or before kept)) ≡ known_in x.domains d id =
    ap₂ (λ (a b : Option Template). option_or a b) is_last (ap₂ (λ (a b : Option Template). option_or a b) is_given (ap₂ (λ (a b : Option Template). option_or a b) is_before is_kept ∙ sym (known_or ds d id))) ∙ sym (known_after basis ds m p x id taken) in
    ended_here now last given before kept ∙ ap₂ (λ (o k : Option Template). cond (is_some o) None k) left known

-- what is kept then, by what was put there
pub keeps_with : (basis : Basis) (ds : History) (m : List ℕ) (p : Preparation) (x : Message) (domain : ℕ) (old out new : BTreeMap ℕ (BTreeMap ℕ Template)) (now last given before at_first at_last : ℕ → Option Template) → KeepsWithdrawn old ds → IsTaken basis ds m p x → x.header.domain ≡ domain
    → ((id : ℕ) → now id ≡ in_force x.decoding.events id) → ((id : ℕ) → last id ≡ last_definition m id) → ((id : ℕ) → given id ≡ defined_before basis ds m x.header.domain id) → ((id : ℕ) → before id ≡ template_for ds domain id)
    → ((id : ℕ) → at_first id ≡ template_at old domain id) → ((id : ℕ) → at_last id ≡ cond (is_some (now id)) None (with_ended (now id) (last id) (with_ended (now id) (given id) (with_ended (now id) (before id) (at_first id)))))
    → ((q id : ℕ) → template_at out q id ≡ cond (eqb q domain) None (template_at old q id)) → ((q id : ℕ) → template_at new q id ≡ cond (eqb q domain) (at_last id) (template_at out q id)) → KeepsWithdrawn new x.domains
keeps_with basis ds m p x domain old out new now last given before at_first at_last keeps taken same nows lasts givens befores firsts lefts outs is = record {
  at = λ q id. elim (eqb_tells q domain) [
    | inl here ↦
        let there : q ≡ x.header.domain = here.1 ∙ sym same in
        is q id ∙ rw here.0 refl ∙ lefts id
        ∙ kept_here basis ds m p x id (now id) (last id) (given id) (before id) (at_first id) taken (nows id) (lasts id) (givens id) (befores id ∙ ap (λ (n : ℕ). template_for ds n id) (sym same)) (firsts id ∙ keeps.at domain id ∙ ap (λ (n : ℕ). withdrawn_in ds n id) (sym same))
        ∙ ap (λ (n : ℕ). withdrawn_in x.domains n id) (sym there)
    | inr other ↦
        let elsewhere : eqb q x.header.domain ≡ false = ap (eqb q) same ∙ other.0 in
        is q id ∙ rw other.0 refl ∙ outs q id ∙ rw other.0 refl ∙ keeps.at q id ∙ sym (other_withdrawn basis ds m p x q id taken elsewhere)
  ];
}

pub on_kept : {E : Type 0} (r : Result (Unit {0}) E) (A B : Type 0) → (A → B) → OnOk r A → OnOk r B
on_kept (Ok x) A B f h = f h
on_kept (Err e) A B f h = tt
