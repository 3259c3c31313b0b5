-- What is answered of a datagram.
use Rattle.std.proofs.Common.{◌≡◌, ◌&&◌, ◌+◌, ◌<◌, ℕ, Bool, true, false, cond, ltb, eqb, ◌++◌, List, [], ◌∷◌, map, length, take, drop, get_or, Option, Some, None, Result, Ok, Err, refl, sym, ap, ap₂, subst, ◌∙◌, inl, inr}
use Rattle.std.specs.Prelude.{◌≢◌, ◌⊎◌, IsOk, is_ok, flat_map}
use Rattle.std.proofs.lemmas.Grind.{flat_map-append}
use Rattle.std.proofs.lemmas.List.{append-nil, take_more}
use Rattle.std.specs.Ordering.{nat_cmp}
use Rattle.std.specs.BTreeMap.{BTreeMap, get, values, IsOrdered}
use Rattle.std.specs.Map.{lookup}
use Rattle.std.specs.Option.{unwrap_or}
use Rattle.ipfix_wire.specs.declared.header.Header.{Header}
use Rattle.ipfix_wire.specs.declared.fault.WireFault.{WireFault}
use Rattle.ipfix_wire.specs.declared.fault.WireFault.TheVariants as wire
use Rattle.ipfix_wire.specs.MessageHeader.{header_at}
use Rattle.ipfix_message.specs.declared.fault.MessageFault.{MessageFault}
use Rattle.ipfix_message.specs.declared.fault.MessageFault.TheVariants.{TemplateChanged, TooManyDomains, MessageLength}
use Rattle.ipfix_message.specs.declared.template_record.Event.{Event}
use Rattle.ipfix_message.specs.Faults.{fault_of}
use Rattle.ipfix_message.specs.Outcome.{Read, ◌>>=◌, Fails}
use Rattle.ipfix_message.specs.Domains.{DomainsView, History, Message, ChangesNothing, admit, events_in, template_for, of_wire, message_header, message_gives}
use Rattle.ipfix_message.specs.Alike.{knows}
use Rattle.ipfix_session.specs.Ledger.{capped}
use Rattle.ipfix_message.proofs.Reading.{not_both, fault_is}
use Rattle.ipfix_message.proofs.History.{bad_header, none_is}
use Rattle.ipfix_message.specs.declared.record.Template.{Template}
use Rattle.ipfix_datagrams.specs.declared.withdrawn_template.WithdrawnTemplate.{WithdrawnTemplate}
use Rattle.ipfix_datagrams.specs.declared.definitions.Definitions.{Definitions}
use Rattle.ipfix_datagrams.specs.declared.reading.DatagramReading.{DatagramReading}
use Rattle.ipfix_datagrams.specs.Datagrams.{are_sets_of_withdrawals, withdrawals_in, withdraws_only, AreTemplatesOf, Preparation, with_withdrawn, replaced, replaced_by, given_after, MayChange, Changes, Basis, FailsPlainly, defined_before, dropped, dropped_by, without_barred, events_of_message, first_definition, last_definition, IsPrepared, IsTaken, IsRefused, IsReadingOf, LeavesBy, preparation_of}
use Rattle.ipfix_datagrams.specs.Attempts.{nothing, CanPrepare, MayWithdraw, Defines, HasFirst, Reads, FirstReads}
use Rattle.ipfix_message.proofs.PartsOf.{HasRoom, was_read}
use Rattle.ipfix_datagrams.proofs.Appearing.{room_ok}
use Rattle.ipfix_datagrams.proofs.Resumed.{can_define}
use Rattle.ipfix_datagrams.proofs.FirstAndLast.{defined_id}
use Rattle.ipfix_datagrams.proofs.Replacing.{are_templates, replaced_in}
use Rattle.ipfix_message.specs.TemplatesInForce.{in_force}
use Rattle.ipfix_datagrams.proofs.Readings.{fails_or, header_same, none_in, template_is}

abbrev pub prepared_as : List WithdrawnTemplate → List Template → Preparation
prepared_as ws ts = record { withdrawn = ws; defined = ts }

-- ---- a bad header

pub bad_header_refused : (basis : Basis) (ds : History) (m : List ℕ) (f : MessageFault) → Fails f (message_header m) → IsRefused basis ds m f
bad_header_refused basis ds m f fails = elim (fails_or f (message_header m) fails) [
  | inl e ↦ inl e
  | inr e ↦ inr (headless_kept m f e, inl (subst (λ (h : Read Header). FailsPlainly basis.barred ds m h f) (sym e) refl))
]
  where
    headless_kept : (m : List ℕ) (f : MessageFault) → message_header m ≡ Err f → withdraws_only m ≡ false
    headless_kept m f e = ap (λ (r : Read Header). is_ok r && are_sets_of_withdrawals (drop 16 m) && ltb 0 (withdrawals_in m)) e

-- ---- ids that have no template

-- the fault of its message, where its header is read
plainly : (barred : List ℕ) (ds : History) (m : List ℕ) (h : Header) (f : MessageFault) → message_header m ≡ Ok h → message_gives (without_barred barred ds m h.domain) m ≡ Err f → f ≢ TemplateChanged → FailsPlainly barred ds m (message_header m) f
plainly barred ds m h f good fault other = subst (λ (r : Read Header). FailsPlainly barred ds m r f) (sym good) (fault, other)

-- one id more of a loop over them
pub dropped_more : (f : ℕ → List WithdrawnTemplate) (ids : List ℕ) (i : ℕ) (old new : List WithdrawnTemplate) → i < length ids → old ≡ flat_map f (take i ids) → new ≡ old ++ f (get_or ids i 0) → new ≡ flat_map f (take (i + 1) ids)
dropped_more f ids i old new more so_far is =
    let x = get_or ids i 0 in
    is ∙ ap (λ (w : List WithdrawnTemplate). w ++ f x) so_far
    ∙ sym (ap (flat_map f) (take_more ids i 0 more) ∙ flat_map-append f (take i ids) (x ∷ []) ∙ ap (λ (w : List WithdrawnTemplate). flat_map f (take i ids) ++ w) (append-nil (f x)))

-- where no template is in force none is dropped
dropped_none : (barred : List ℕ) (m : List ℕ) → flat_map (λ id. dropped_by (first_definition m id) (in_force [] id)) barred ≡ []
dropped_none [] m = refl
dropped_none (id ∷ ids) m = ap₂ (λ (v w : List WithdrawnTemplate). v ++ w) (ap (dropped_by (first_definition m id)) (none_in id) ∙ none_dropped (first_definition m id)) (dropped_none ids m)
  where
    none_dropped : (o : Option Template) → dropped_by o None ≡ []
    none_dropped None = refl
    none_dropped (Some t) = refl

unknown_events : (ds : History) (domain : ℕ) → knows ds domain ≡ false → events_in ds domain ≡ []
unknown_events ds domain e = ap (λ (o : Option (List Event)). unwrap_or o []) (none_is (lookup (eqb domain) ds) e)

nothing_dropped : (barred : List ℕ) (ds : History) (m : List ℕ) (domain : ℕ) → knows ds domain ≡ false → dropped barred ds m domain ≡ []
nothing_dropped barred ds m domain new = ap (λ (es : List Event). flat_map (λ id. dropped_by (first_definition m id) (in_force es id)) barred) (unknown_events ds domain new) ∙ dropped_none barred m

not_admitted : (ds : History) (domain : ℕ) → admit ds domain ≡ Err TooManyDomains → knows ds domain ≡ false
not_admitted ds domain full = by_cases (knows ds domain) refl
  where
    not_full : (r : Read History) → r ≡ Err TooManyDomains → IsOk r → ⊥
    not_full (Ok x) e ok = not_both x TooManyDomains e
    not_full (Err g) e ok = absurd cc

    by_cases : (b : Bool) → knows ds domain ≡ b → knows ds domain ≡ false
    by_cases false e = e
    by_cases true e = absurd (not_full (admit ds domain) full (room_ok ds domain (inl e)))

-- what the code drops
pub are_dropped : (barred : List ℕ) (ds : History) (m : List ℕ) (domain : ℕ) (first : BTreeMap ℕ Template) (f : ℕ → Option Template) → HasFirst first m → ((id : ℕ) → f id ≡ template_for ds domain id)
    → flat_map (λ id. dropped_by (get nat_cmp first id) (f id)) barred ≡ dropped barred ds m domain
are_dropped [] ds m domain first f has same = refl
are_dropped (id ∷ ids) ds m domain first f has same =
    ap₂ (λ (v w : List WithdrawnTemplate). v ++ w) (ap₂ (λ (a b : Option Template). dropped_by a b) (has.at id) (same id ∙ template_is ds domain id)) (are_dropped ids ds m domain first f has same)

-- ---- no room for its domain

room_not_changed : TooManyDomains ≡ TemplateChanged → ⊥
room_not_changed h = cc

no_room_gives : (ds : History) (m : List ℕ) (h : Header) → message_header m ≡ Ok h → admit ds h.domain ≡ Err TooManyDomains → message_gives ds m ≡ Err TooManyDomains
unfolding message_gives
no_room_gives ds m h good full = rw (good, full) refl

pub no_room_refused : (basis : Basis) (ds : History) (m : List ℕ) (h : Header) → withdraws_only m ≡ false → message_header m ≡ Ok h → admit ds h.domain ≡ Err TooManyDomains → IsRefused basis ds m TooManyDomains
no_room_refused basis ds m h kept good full =
    let same = nothing_dropped basis.barred ds m h.domain (not_admitted ds h.domain full) in
    inr (kept, inl (plainly basis.barred ds m h TooManyDomains good (ap (λ (ws : List WithdrawnTemplate). message_gives (with_withdrawn ds h.domain ws) m) same ∙ no_room_gives ds m h good full) room_not_changed))

-- ---- as it is

-- nothing more was withdrawn
pub first_plainly : (barred : List ℕ) (ds : History) (m : List ℕ) (domain : ℕ) (ws : List WithdrawnTemplate) (after : DomainsView) → ws ≡ dropped barred ds m domain → Reads ds domain (prepared_as ws []) m after → FirstReads barred ds domain m ws (Some after)
first_plainly barred ds m domain ws after are reads = record {
  given = reads.given;
  domain_is = reads.domain_is;
  changes = inl are;
  read = reads.read;
  leaves = reads.leaves;
}

-- it changes no template
pub first_data : (barred : List ℕ) (ds : History) (m : List ℕ) (h : Header) (ws : List WithdrawnTemplate) → message_header m ≡ Ok h → ws ≡ dropped barred ds m h.domain → ws ≡ [] → ChangesNothing ds m → FirstReads barred ds h.domain m ws None
first_data barred ds m h ws good are none c = record {
  given = c.given;
  domain_is = ap (λ (g : Header). g.domain) (header_same ds m h c.given good c.read);
  changes = inl are;
  read = ap (λ (vs : List WithdrawnTemplate). message_gives (with_withdrawn ds h.domain vs) m) none ∙ c.read;
  leaves = c.same;
}

pub refused_data : (basis : Basis) (ds : History) (m : List ℕ) (h : Header) (ws : List WithdrawnTemplate) (f : MessageFault) → withdraws_only m ≡ false → message_header m ≡ Ok h → ws ≡ dropped basis.barred ds m h.domain → ws ≡ [] → message_gives ds m ≡ Err f → f ≢ TemplateChanged → IsRefused basis ds m f
refused_data basis ds m h ws f kept good are none fails other =
    inr (kept, inl (plainly basis.barred ds m h f good (ap (λ (vs : List WithdrawnTemplate). message_gives (with_withdrawn ds h.domain vs) m) (sym are ∙ none) ∙ fails) other))

pub refused_plainly : (basis : Basis) (ds : History) (m : List ℕ) (h : Header) (ws : List WithdrawnTemplate) (f : MessageFault) → withdraws_only m ≡ false → message_header m ≡ Ok h → ws ≡ dropped basis.barred ds m h.domain → f ≢ TemplateChanged → Fails f (message_gives (with_withdrawn ds h.domain ws) m) → IsRefused basis ds m f
refused_plainly basis ds m h ws f kept good are other fails = elim (fails_or f (message_gives (with_withdrawn ds h.domain ws) m) fails) [
  | inl e ↦ inl e
  | inr e ↦ inr (kept, inl (plainly basis.barred ds m h f good (ap (λ (vs : List WithdrawnTemplate). message_gives (with_withdrawn ds h.domain vs) m) (sym are) ∙ e) other))
]

-- ---- after the templates that it replaces are withdrawn

pub changed_is : (read : Read Message) (f : MessageFault) → f ≡ TemplateChanged → Fails f read → read ≡ Err TemplateChanged
changed_is read f is fails = by_fault (subst (λ (g : MessageFault). Fails g read) is fails)
  where
    by_fault : Fails TemplateChanged read → read ≡ Err TemplateChanged
    by_fault h = h

-- where no template is in force none is replaced
replaced_none : (ts : List Template) → replaced [] ts ≡ []
replaced_none [] = refl
replaced_none (t ∷ ts) = ap₂ (λ (v w : List WithdrawnTemplate). v ++ w) (ap (replaced_by t) (none_in t.id)) (replaced_none ts)

-- a domain whose templates are replaced is known
pub changes_knows : (barred : List ℕ) (ds : History) (m : List ℕ) (domain : ℕ) (ws : List WithdrawnTemplate) → Changes barred ds m domain ws → (ws ≡ []) ⊎ (knows ds domain ≡ true)
changes_knows barred ds m domain ws c = by_cases (knows ds domain) refl
  where
    by_cases : (b : Bool) → knows ds domain ≡ b → (ws ≡ []) ⊎ (knows ds domain ≡ true)
    by_cases true e = inr e
    by_cases false e =
        let none : events_in ds domain ≡ [] = unknown_events ds domain e in
        inl (c.are ∙ ap₂ (λ (v w : List WithdrawnTemplate). v ++ w) (nothing_dropped barred ds m domain e) (ap (λ (es : List Event). replaced es c.templates) none ∙ replaced_none c.templates))

-- and so is one whose templates are dropped
dropped_knows : (barred : List ℕ) (ds : History) (m : List ℕ) (domain : ℕ) (ws : List WithdrawnTemplate) → ws ≡ dropped barred ds m domain → (ws ≡ []) ⊎ (knows ds domain ≡ true)
dropped_knows barred ds m domain ws are = by_cases (knows ds domain) refl
  where
    by_cases : (b : Bool) → knows ds domain ≡ b → (ws ≡ []) ⊎ (knows ds domain ≡ true)
    by_cases true e = inr e
    by_cases false e = inl (are ∙ nothing_dropped barred ds m domain e)

pub dropped_can : (barred : List ℕ) (ds : History) (m : List ℕ) (domain : ℕ) (ws : List WithdrawnTemplate) → ws ≡ dropped barred ds m domain → CanPrepare ds domain (prepared_as ws [])
dropped_can barred ds m domain ws are = (dropped_knows barred ds m domain ws are, tt)

-- what the first definitions replace
pub are_changes : (barred : List ℕ) (ds : History) (m : List ℕ) (domain : ℕ) (vs ws : List WithdrawnTemplate) (first : BTreeMap ℕ Template) (f : ℕ → Option Template) → vs ≡ dropped barred ds m domain → message_gives (with_withdrawn ds domain vs) m ≡ Err TemplateChanged → HasFirst first m → IsOrdered nat_cmp first
    → ((id : ℕ) → f id ≡ template_for ds domain id) → ws ≡ vs ++ flat_map (λ t. replaced_by t (f t.id)) (values first) → Changes barred ds m domain ws
are_changes barred ds m domain vs ws first f drops changed has ordered same are = record {
  changed = ap (λ (us : List WithdrawnTemplate). message_gives (with_withdrawn ds domain us) m) (sym drops) ∙ changed;
  templates = values first;
  are_first = are_templates (first_definition m) first (defined_id (events_of_message m)) ordered has.at;
  are = are ∙ ap₂ (λ (a b : List WithdrawnTemplate). a ++ b) drops (replaced_in (λ (t : Template). f t.id) ds domain (values first) (λ t. same t.id));
}

pub may_withdraw : (barred : List ℕ) (ds : History) (m : List ℕ) (domain : ℕ) (ws : List WithdrawnTemplate) → MayChange barred ds m domain ws → MayWithdraw ds domain ws
may_withdraw barred ds m domain ws (inl are) = dropped_knows barred ds m domain ws are
may_withdraw barred ds m domain ws (inr c) = changes_knows barred ds m domain ws c

pub changes_can : (barred : List ℕ) (ds : History) (m : List ℕ) (domain : ℕ) (ws : List WithdrawnTemplate) → Changes barred ds m domain ws → CanPrepare ds domain (prepared_as ws [])
changes_can barred ds m domain ws c = (changes_knows barred ds m domain ws c, tt)

pub first_changed : (barred : List ℕ) (ds : History) (m : List ℕ) (domain : ℕ) (ws : List WithdrawnTemplate) (after : DomainsView) → Changes barred ds m domain ws → Reads ds domain (prepared_as ws []) m after → FirstReads barred ds domain m ws (Some after)
first_changed barred ds m domain ws after c reads = record {
  given = reads.given;
  domain_is = reads.domain_is;
  changes = inr c;
  read = reads.read;
  leaves = reads.leaves;
}

pub refused_changed : (basis : Basis) (ds : History) (m : List ℕ) (h : Header) (ws : List WithdrawnTemplate) (f : MessageFault) → withdraws_only m ≡ false → message_header m ≡ Ok h → Changes basis.barred ds m h.domain ws → Fails f (message_gives (with_withdrawn ds h.domain ws) m) → IsRefused basis ds m f
refused_changed basis ds m h ws f kept good c fails = elim (fails_or f (message_gives (with_withdrawn ds h.domain ws) m) fails) [
  | inl e ↦ inl e
  | inr e ↦ inr (kept, inr (inl (record { header = h; is_header = good; withdrawn = ws; changes = c; fault = e })))
]

-- ---- what a datagram defines

pub has_first : (d : Definitions) (m : List ℕ) → Defines d (events_of_message m) → HasFirst d.first m
has_first d m defines = record { at = defines.first }

-- what is answered of the templates that are defined before it, of its definitions and its withdrawals
pub record HasLast (r : DatagramReading) (m : List ℕ) : Type 0 where
  pub defines : (id : ℕ) → get nat_cmp r.definitions id ≡ last_definition m id
  pub withdrawals : r.withdrawals ≡ capped (withdrawals_in m)

-- ---- after templates are defined

-- these are defined before it
abbrev pub IsBefore : Basis → History → List ℕ → ℕ → DatagramReading → Type 0
IsBefore basis ds m domain r = (id : ℕ) → get nat_cmp r.defined id ≡ defined_before basis ds m domain id

is_prepared : (basis : Basis) (ds : History) (m : List ℕ) (domain : ℕ) (ws : List WithdrawnTemplate) (after : Option DomainsView) (f : FirstReads basis.barred ds domain m ws after) (ts : List Template) → AreTemplatesOf (defined_before basis ds m domain) ts → IsPrepared basis ds m (prepared_as ws ts) f.given
is_prepared basis ds m domain ws after f ts are = record {
  changes = subst (λ (d : ℕ). MayChange basis.barred ds m d ws) (sym f.domain_is) f.changes;
  read = subst (λ (d : ℕ). message_gives (with_withdrawn ds d ws) m ≡ Ok f.given) (sym f.domain_is) f.read;
  again = subst (λ (d : ℕ). AreTemplatesOf (defined_before basis ds m d) ts) (sym f.domain_is) are;
}

-- none
pub taken_first : (basis : Basis) (ds : History) (m : List ℕ) (domain : ℕ) (r : DatagramReading) → FirstReads basis.barred ds domain m r.withdrawn.items r.after → AreTemplatesOf (defined_before basis ds m domain) (values r.defined) → IsBefore basis ds m domain r → values r.defined ≡ []
    → withdraws_only m ≡ false → HasLast r m → (x : Message) × IsReadingOf basis ds m r x
taken_first basis ds m domain r f are before none kept last =
    let d = f.given.header.domain in
    let p = is_prepared basis ds m domain r.withdrawn.items r.after f (values r.defined) are in (
      f.given,
      record {
        taken = record { kept = kept; first = f.given; is_prepared = p; read = ap (λ (ts : List Template). given_after ds d (prepared_as r.withdrawn.items ts) m) none ∙ p.read };
        before = λ id. before id ∙ ap (λ (n : ℕ). defined_before basis ds m n id) (sym f.domain_is);
        leaves = f.leaves;
        defines = last.defines;
        withdrawals = last.withdrawals;
      },
    )

-- some
pub can_prepare : (basis : Basis) (ds : History) (m : List ℕ) (domain : ℕ) (ws : List WithdrawnTemplate) (ts : List Template) → MayChange basis.barred ds m domain ws → AreTemplatesOf (defined_before basis ds m domain) ts → CanPrepare ds domain (prepared_as ws ts)
can_prepare basis ds m domain ws ts changes are =
    let may = may_withdraw basis.barred ds m domain ws changes in
    (may, can_define basis ds m domain ws ts may are)

-- a domain whose datagram was read had room
pub had_room : (barred : List ℕ) (ds : History) (m : List ℕ) (domain : ℕ) (ws : List WithdrawnTemplate) (after : Option DomainsView) → FirstReads barred ds domain m ws after → IsOk (admit ds domain)
had_room barred ds m domain ws after f = room_ok ds domain (by_changes (may_withdraw barred ds m domain ws f.changes))
  where
    by_changes : MayWithdraw ds domain ws → HasRoom ds domain
    by_changes (inr there) = inl there
    by_changes (inl none) = subst (λ (d : ℕ). HasRoom ds d) f.domain_is (was_read ds m f.given (ap (λ (vs : List WithdrawnTemplate). message_gives (with_withdrawn ds domain vs) m) (sym none) ∙ f.read)).room

pub taken_again : (basis : Basis) (ds : History) (m : List ℕ) (domain : ℕ) (r : DatagramReading) (after : Option DomainsView) (d : DomainsView) → r.after ≡ Some d → FirstReads basis.barred ds domain m r.withdrawn.items after → AreTemplatesOf (defined_before basis ds m domain) (values r.defined) → IsBefore basis ds m domain r → Reads ds domain (preparation_of r) m d
    → withdraws_only m ≡ false → HasLast r m → (x : Message) × IsReadingOf basis ds m r x
taken_again basis ds m domain r after d is f are before reads kept last = (
  reads.given,
  record {
    taken = record {
      kept = kept;
      first = f.given;
      is_prepared = is_prepared basis ds m domain r.withdrawn.items after f (values r.defined) are;
      read = subst (λ (d : ℕ). given_after ds d (preparation_of r) m ≡ Ok reads.given) (sym f.domain_is) reads.read;
    };
    before = λ id. before id ∙ ap (λ (n : ℕ). defined_before basis ds m n id) (sym reads.domain_is);
    leaves = subst (λ (o : Option DomainsView). LeavesBy o ds reads.given) (sym is) reads.leaves;
    defines = last.defines;
    withdrawals = last.withdrawals;
  },
)

pub refused_again : (basis : Basis) (ds : History) (m : List ℕ) (domain : ℕ) (ws : List WithdrawnTemplate) (after : Option DomainsView) (ts : List Template) (fault : MessageFault) → withdraws_only m ≡ false → FirstReads basis.barred ds domain m ws after → AreTemplatesOf (defined_before basis ds m domain) ts
    → Fails fault (given_after ds domain (prepared_as ws ts) m) → IsRefused basis ds m fault
refused_again basis ds m domain ws after ts fault kept f are fails = elim (fails_or fault (given_after ds domain (prepared_as ws ts) m) fails) [
  | inl e ↦ inl e
  | inr e ↦ inr (
    kept,
    inr (inr (record {
      preparation = prepared_as ws ts;
      first = f.given;
      is_prepared = is_prepared basis ds m domain ws after f ts are;
      fault = subst (λ (d : ℕ). given_after ds d (prepared_as ws ts) m ≡ Err fault) (sym f.domain_is) e;
    })),
  )
]

-- what a datagram that is taken is prepared by can be done
pub taken_prepares : (basis : Basis) (ds : History) (m : List ℕ) (h : Header) (p : Preparation) (x : Message) → message_header m ≡ Ok h → IsTaken basis ds m p x → CanPrepare ds h.domain p
taken_prepares basis ds m h p x good taken =
    let q = taken.is_prepared in
    let same : taken.first.header ≡ h = header_same (with_withdrawn ds taken.first.header.domain p.withdrawn) m h taken.first good q.read in
    subst (λ (g : Header). CanPrepare ds g.domain p) same (can_prepare basis ds m taken.first.header.domain p.withdrawn p.defined q.changes q.again)

-- ---- templates by id, or none

pub no_values : (ts : BTreeMap ℕ Template) → length ts.entries ≡ 0 → values ts ≡ []
no_values ts none = by_entries ts.entries none
  where
    by_entries : (es : List (ℕ × Template)) → length es ≡ 0 → map (λ (e : ℕ × Template). e.1) es ≡ []
    by_entries [] e = refl
    by_entries (x ∷ xs) e = absurd cc

pub some_values : (ts : BTreeMap ℕ Template) → (length ts.entries ≡ 0 → ⊥) → values ts ≢ []
some_values ts some = λ none. some (no_entries ts.entries none)
  where
    no_entries : (es : List (ℕ × Template)) → map (λ (e : ℕ × Template). e.1) es ≡ [] → length es ≡ 0
    no_entries [] e = refl
    no_entries (x ∷ xs) e = absurd cc
