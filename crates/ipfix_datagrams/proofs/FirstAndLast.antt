-- The first and the last definitions in events.
use Rattle.std.proofs.Common.{◌≡◌, ℕ, ◌+◌, ◌<◌, arith, Bool, true, false, cond, ltb, eqb, List, [], ◌∷◌, ◌++◌, append_assoc, length, Option, Some, None, Ok, Err, refl, sym, ap, subst, ◌∙◌, inl, inr}
use Rattle.std.specs.Prelude.{count_by, reverse, flat_map}
use Rattle.std.specs.Option.{option_or}
use Rattle.std.specs.Ordering.{nat_cmp}
use Rattle.std.specs.BTreeMap.{get}
use Rattle.std.proofs.lemmas.List.{append-nil, reverse-append}
use Rattle.std.proofs.lemmas.List.Sums.{sum_by_push}
use Rattle.std.proofs.lemmas.Bool.{lt-ltb}
use Rattle.std.proofs.lemmas.Bool.Decides.{eqb_tells}
use Rattle.ipfix_session.specs.Ledger.{capped}
use Rattle.ipfix_session.proofs.Accounts.{capped-capped}
use Rattle.ipfix_wire.specs.InTurn.{Parts}
use Rattle.ipfix_wire.proofs.Parts.{parts_of-next, parts_of-none}
use Rattle.ipfix_message.specs.declared.fault.MessageFault.{MessageFault}
use Rattle.ipfix_message.specs.declared.fault.MessageFault.TheVariants.{TemplateCut}
use Rattle.ipfix_message.specs.declared.record.Template.{Template}
use Rattle.ipfix_message.specs.declared.template_record.TemplateKind.{TemplateKind}
use Rattle.ipfix_message.specs.declared.template_record.Event.{Event}
use Rattle.ipfix_message.specs.declared.template_record.Event.TheVariants.{Define, Withdraw, WithdrawAll}
use Rattle.ipfix_message.specs.TemplateRecords.{event_at, events_of}
use Rattle.ipfix_message.specs.Sets.{Set, next_set, sets_of}
use Rattle.ipfix_message.proofs.TemplateRecords.{events_shrink}
use Rattle.ipfix_message.proofs.MessageSets.{sets_shrink, next_set-nil}
use Rattle.ipfix_datagrams.specs.declared.definitions.Definitions.{Definitions}
use Rattle.ipfix_datagrams.specs.Datagrams.{definition_of, events_of_set, is_withdrawal}
use Rattle.ipfix_datagrams.specs.Attempts.{Defines}

-- ---- the first definition

pub none_defined : (id : ℕ) → definition_of [] id ≡ None
unfolding definition_of
none_defined id = refl

-- one more event
pub defined_or : (e : Event) (es : List Event) (id : ℕ) → definition_of (e ∷ es) id ≡ option_or (definition_of (e ∷ []) id) (definition_of es id)
unfolding definition_of
defined_or (Define t) es id = by_test (eqb id t.id)
  where
    by_test : (b : Bool) → cond b (Some t) (definition_of es id) ≡ option_or (cond b (Some t) None) (definition_of es id)
    by_test true = refl
    by_test false = refl
defined_or (Withdraw kind i) es id = refl
defined_or (WithdrawAll kind) es id = refl

or_or : {X : Type 0} (a b c : Option X) → option_or a (option_or b c) ≡ option_or (option_or a b) c
or_or None b c = refl
or_or (Some x) b c = refl

pub or_none : {X : Type 0} (o : Option X) → option_or o None ≡ o
or_none None = refl
or_none (Some x) = refl

-- those of the first events, and then of the others
pub definition-append : (es fs : List Event) (id : ℕ) → definition_of (es ++ fs) id ≡ option_or (definition_of es id) (definition_of fs id)
definition-append [] fs id = ap (λ (o : Option Template). option_or o (definition_of fs id)) (sym (none_defined id))
definition-append (e ∷ es) fs id =
    defined_or e (es ++ fs) id ∙ ap (option_or (definition_of (e ∷ []) id)) (definition-append es fs id)
    ∙ or_or (definition_of (e ∷ []) id) (definition_of es id) (definition_of fs id) ∙ ap (λ (o : Option Template). option_or o (definition_of fs id)) (sym (defined_or e es id))

pub one_definition : (t : Template) (id : ℕ) → definition_of (Define t ∷ []) id ≡ cond (eqb id t.id) (Some t) None
unfolding definition_of
one_definition t id = refl

pub one_withdrawal : (kind : TemplateKind) (i id : ℕ) → definition_of (Withdraw kind i ∷ []) id ≡ None
unfolding definition_of
one_withdrawal kind i id = refl

pub all_withdrawal : (kind : TemplateKind) (id : ℕ) → definition_of (WithdrawAll kind ∷ []) id ≡ None
unfolding definition_of
all_withdrawal kind id = refl

-- it has the id
pub defined_id : (es : List Event) (id : ℕ) (t : Template) → definition_of es id ≡ Some t → t.id ≡ id
defined_id [] id t e = let no : None ≡ Some t = sym (none_defined id) ∙ e in absurd (none_some t no)
  where
    none_some : (u : Template) → None ≡ Some u → ⊥
    none_some u h = cc
defined_id (e ∷ es) id t is = by_cases (definition_of (e ∷ []) id) refl (sym (defined_or e es id) ∙ is) (defined_id es id t)
  where
    some_is : (u v : Template) → Some u ≡ Some v → u ≡ v
    some_is u v h = cc

    none_some : (u : Template) → None ≡ Some u → ⊥
    none_some u h = cc

    of_one : (f : Event) (u : Template) → definition_of (f ∷ []) id ≡ Some u → u.id ≡ id
    of_one (Define u) v h = elim (eqb_tells id u.id) [
      | inl here ↦ let same : Some u ≡ Some v = sym (one_definition u id ∙ rw here.0 refl) ∙ h in ap (λ (x : Template). x.id) (sym (some_is u v same)) ∙ sym here.1
      | inr other ↦ absurd (none_some v (sym (one_definition u id ∙ rw other.0 refl) ∙ h))
    ]
    of_one (Withdraw kind i) v h = absurd (none_some v (sym (one_withdrawal kind i id) ∙ h))
    of_one (WithdrawAll kind) v h = absurd (none_some v (sym (all_withdrawal kind id) ∙ h))

    by_cases : (o : Option Template) → definition_of (e ∷ []) id ≡ o → option_or o (definition_of es id) ≡ Some t → (definition_of es id ≡ Some t → t.id ≡ id) → t.id ≡ id
    by_cases (Some u) h same later = of_one e t (h ∙ same)
    by_cases None h same later = later same

-- ---- one event more

pub reverse_more : (es : List Event) (e : Event) → reverse (es ++ e ∷ []) ≡ e ∷ reverse es
reverse_more es e = reverse-append es (e ∷ [])

-- one for a withdrawal, and none for a definition
abbrev pub withdrawals_of : Event → ℕ
withdrawals_of e = cond (is_withdrawal e) 1 0

counted_more : (es : List Event) (e : Event) → capped (count_by is_withdrawal (es ++ e ∷ [])) ≡ capped (capped (count_by is_withdrawal es) + withdrawals_of e)
counted_more es e = capped-capped (count_by is_withdrawal es) (withdrawals_of e) (count_by is_withdrawal (es ++ e ∷ [])) (sum_by_push withdrawals_of es e)

-- by what it puts among the first and the last definitions, and how many withdrawals it adds
pub defines_more : (d new : Definitions) (es : List Event) (e : Event) → Defines d es → ((q : ℕ) → get nat_cmp new.first q ≡ option_or (get nat_cmp d.first q) (definition_of (e ∷ []) q))
    → ((q : ℕ) → get nat_cmp new.last q ≡ option_or (definition_of (e ∷ []) q) (get nat_cmp d.last q)) → new.withdrawals ≡ capped (d.withdrawals + withdrawals_of e) → Defines new (es ++ e ∷ [])
defines_more d new es e before firsts lasts counts = record {
  first = λ q. firsts q ∙ ap (λ (o : Option Template). option_or o (definition_of (e ∷ []) q)) (before.first q) ∙ sym (definition-append es (e ∷ []) q);
  last = λ q. lasts q ∙ ap (option_or (definition_of (e ∷ []) q)) (before.last q) ∙ sym (defined_or e (reverse es) q) ∙ ap (λ (fs : List Event). definition_of fs q) (sym (reverse_more es e));
  withdrawals = counts ∙ ap (λ (n : ℕ). capped (n + withdrawals_of e)) before.withdrawals ∙ sym (counted_more es e);
}

-- a definition
pub defines_one : (d new : Definitions) (es : List Event) (t : Template) → Defines d es → ((q : ℕ) → get nat_cmp new.first q ≡ option_or (get nat_cmp d.first q) (cond (eqb q t.id) (Some t) None))
    → ((q : ℕ) → get nat_cmp new.last q ≡ cond (eqb q t.id) (Some t) (get nat_cmp d.last q)) → new.withdrawals ≡ d.withdrawals → Defines new (es ++ Define t ∷ [])
defines_one d new es t before firsts lasts same = defines_more d new es (Define t) before
    (λ q. firsts q ∙ ap (option_or (get nat_cmp d.first q)) (sym (one_definition t q)))
    (λ q. lasts q ∙ by_test (eqb q t.id) (get nat_cmp d.last q) ∙ ap (λ (o : Option Template). option_or o (get nat_cmp d.last q)) (sym (one_definition t q)))
    (same ∙ before.withdrawals ∙ capped_again (count_by is_withdrawal es) ∙ ap (λ (n : ℕ). capped (n + 0)) (sym before.withdrawals))
  where
    by_test : (b : Bool) (o : Option Template) → cond b (Some t) o ≡ option_or (cond b (Some t) None) o
    by_test true o = refl
    by_test false o = refl

    capped_again : (n : ℕ) → capped n ≡ capped (capped n + 0)
    capped_again n = omega arith

-- and a withdrawal
pub defines_none : (d new : Definitions) (es : List Event) (e : Event) → Defines d es → ((q : ℕ) → definition_of (e ∷ []) q ≡ None) → is_withdrawal e ≡ true → new ≡ record d { withdrawals = capped (d.withdrawals + 1) } → Defines new (es ++ e ∷ [])
defines_none d new es e before none is same = subst (λ (f : Definitions). Defines f (es ++ e ∷ [])) (sym same) (defines_more d (record d { withdrawals = capped (d.withdrawals + 1) }) es e before
    (λ q. sym (or_none (get nat_cmp d.first q)) ∙ ap (option_or (get nat_cmp d.first q)) (sym (none q)))
    (λ q. ap (λ (o : Option Template). option_or o (get nat_cmp d.last q)) (sym (none q)))
    (ap (λ (b : Bool). capped (d.withdrawals + cond b 1 0)) (sym is)))

-- whatever else it is
pub defines_as : (d : Definitions) (only : Bool) (es : List Event) → Defines d es → Defines (record d { withdraws_only = only }) es
defines_as d only es h = record { first = h.first; last = h.last; withdrawals = h.withdrawals }

-- none yet
pub defines_nothing : (d : Definitions) → ((q : ℕ) → get nat_cmp d.first q ≡ None) → ((q : ℕ) → get nat_cmp d.last q ≡ None) → d.withdrawals ≡ 0 → Defines d []
defines_nothing d firsts lasts none = record { first = λ q. firsts q ∙ sym (none_defined q); last = λ q. lasts q ∙ sym (none_defined q); withdrawals = none }

-- ---- events in turn, of which the rest is still to be taken

pub record Taking (d : Definitions) (es all rest : List Event) : Type 0 where
  pub done : List Event
  pub defines : Defines d (es ++ done)
  pub whole : all ≡ done ++ rest

pub taking_first : (d : Definitions) (es all : List Event) → Defines d es → Taking d es all all
taking_first d es all before = record { done = []; defines = subst (Defines d) (sym (append-nil es)) before; whole = refl }

pub taking_more : (d new : Definitions) (es all more rest : List Event) → Taking d es all (more ++ rest) → ((fs : List Event) → Defines d fs → Defines new (fs ++ more)) → Taking new es all rest
taking_more d new es all more rest t step = record {
  done = t.done ++ more;
  defines = subst (Defines new) (append_assoc es t.done more) (step (es ++ t.done) t.defines);
  whole = t.whole ∙ sym (append_assoc t.done more rest);
}

pub taken_all : (d : Definitions) (es all rest : List Event) → Taking d es all rest → rest ≡ [] → Defines d (es ++ all)
taken_all d es all rest t none =
    let same : t.done ≡ all = sym (t.whole ∙ ap (λ (fs : List Event). t.done ++ fs) none ∙ append-nil t.done) in
    subst (λ (fs : List Event). Defines d (es ++ fs)) same t.defines

-- ---- the events of a set

pub next_events : (kind : TemplateKind) (w : List ℕ) (e : Event) (r : List ℕ) → event_at kind w ≡ Ok (e, r) → (events_of kind w).items ≡ e ∷ (events_of kind r).items
next_events kind w e r is = ap (λ (p : Parts Event). p.items) (parts_of-next (event_at kind) (events_shrink kind) w e r is)

pub no_events : (kind : TemplateKind) (w : List ℕ) (f : MessageFault) → event_at kind w ≡ Err f → (events_of kind w).items ≡ []
no_events kind w f is = ap (λ (p : Parts Event). p.items) (parts_of-none (event_at kind) w f is)

pub cut_event : (kind : TemplateKind) (w : List ℕ) → ltb (length w) 4 ≡ true → event_at kind w ≡ Err TemplateCut
unfolding event_at
cut_event kind w h = rw h refl

pub short_events : (kind : TemplateKind) (w : List ℕ) → length w < 4 → (events_of kind w).items ≡ []
short_events kind w short = no_events kind w TemplateCut (cut_event kind w (lt-ltb (length w) 4 short))

-- ---- the events of the sets

abbrev pub events_in_sets : List ℕ → List Event
events_in_sets w = flat_map events_of_set (sets_of w).items

pub next_set_events : (w : List ℕ) (s : Set) (r : List ℕ) → next_set w ≡ Ok (s, r) → events_in_sets w ≡ events_of_set s ++ events_in_sets r
next_set_events w s r is = ap (λ (p : Parts Set). flat_map events_of_set p.items) (parts_of-next next_set sets_shrink w s r is)

pub no_set_events : (w : List ℕ) (f : MessageFault) → next_set w ≡ Err f → events_in_sets w ≡ []
no_set_events w f is = ap (λ (p : Parts Set). flat_map events_of_set p.items) (parts_of-none next_set w f is)

pub end_events : (w : List ℕ) → length w ≡ 0 → events_in_sets w ≡ []
end_events w none = let e = next_set-nil w none in no_set_events w e.0 e.1
