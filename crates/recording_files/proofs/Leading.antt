-- What stands before a message in a file.
use Rattle.std.proofs.Common.{◌≡◌, ℕ, ◌^◌, ◌<◌, Bool, true, false, cond, eqb, is_some, List, [], ◌∷◌, ◌++◌, Option, Some, None, refl, sym, ap, subst, ◌∙◌}
use Rattle.std.specs.Prelude.{◌≢◌, Result, Ok, Err, OnOk, ◌||◌, ◌&&◌, not, All}
use Rattle.std.specs.Map.{lookup}
use Rattle.std.specs.Option.{unwrap_or, option_and_then, option_flatten}
use Rattle.std.specs.Ordering.{nat_cmp}
use Rattle.std.specs.BTreeMap.{BTreeMap, get, values, IsOrdered}
use Rattle.std.proofs.lemmas.List.{append-nil}
use Rattle.std.proofs.lemmas.List.Elements.{All-nil}
use Rattle.ipfix_wire.proofs.Choices.{or_false}
use Rattle.ipfix_wire.specs.declared.header.Header.{Header}
use Rattle.ipfix_message.specs.declared.record.Template.{Template}
use Rattle.ipfix_message.specs.declared.template_record.Event.{Event}
use Rattle.ipfix_message.specs.TemplatesInForce.{in_force}
use Rattle.ipfix_message.specs.Domains.{History, Message, events_in, template_for}
use Rattle.ipfix_session.specs.Given.{known_after, octets_of}
use Rattle.ipfix_session.specs.Ledger.{messages_of, due_of}
use Rattle.ipfix_message.specs.declared.stamp.Stamp.{Stamp}
use Rattle.recording_files.specs.Preambles.{IsStamp, IsTemplate, IsPreamble, templates_message, preamble}
use Rattle.ipfix_session.specs.TemplateLists.{AreInForce}
use Rattle.recording_files.specs.Recordings.{has, begins_again, stamp_for, Leads}
use Rattle.recording_files.specs.Heads.{AppendsHead, goes_on_with, head_messages, number_at, number_in, stamp_at, written}
use Rattle.recording_files.specs.KeptOptions.{Kept, kept_after}
use Rattle.recording_files.specs.Recorders.{ForMessages, Heading, KeepsWithin, Leading, State}
use Rattle.recording_files.proofs.Beside.{has-append}
use Rattle.recording_files.proofs.KeptCopied.{template_for-is}
use Rattle.ipfix_session.proofs.Ledgers.{own-append}
use Rattle.recording_files.proofs.Ledgers.{own_none}
use Rattle.recording_files.proofs.PreamblesAre.{is_preamble}
use Rattle.ipfix_session.proofs.TemplateLists.{map_in_force}

-- what holds of an answer that is Ok
pub on_ok : {A E P Q : Type 0} (r : Result A E) → (P → Q) → OnOk r P → OnOk r Q
on_ok (Ok x) f p = f p
on_ok (Err e) f p = tt

-- what holds on Ok of whatever a recorder stands for
pub ok_for : {A E : Type 0} (s : State) (P : List Message → List Message → Type 0) (r : Result A E) → ForMessages s (λ before here. OnOk r (P before here)) → OnOk r (ForMessages s P)
ok_for s P (Ok x) f = f
ok_for s P (Err e) f = tt

pub on_ok_3 : {A E P Q R S : Type 0} (r : Result A E) → (P → Q → R → S) → OnOk r P → OnOk r Q → OnOk r R → OnOk r S
on_ok_3 (Ok x) f p q s = f p q s
on_ok_3 (Err e) f p q s = tt

not_due : (d : Option ℕ) (b : Bool) → cond b (Some d) None ≡ None → b ≡ false
not_due d true e = absurd cc
not_due d false e = refl

is_due : (d e : Option ℕ) (b : Bool) → cond b (Some d) None ≡ Some e → (b ≡ true) × (d ≡ e)
is_due d e true h = (refl, cc)
is_due d e false h = absurd cc

-- where the domain doesn't begin again, nothing stands before the message
nothing_leads : (before here : List Message) (h : Header) (old : List ℕ) → begins_again before here h.domain ≡ false → Leading h old old before here
nothing_leads before here h old off = record { lead = []; is = rw off refl; octets = sym (append-nil old) }

pub new_domain : {limit : Option ℕ} (s : State) (before here : List Message) (h : Header) (old : List ℕ) → KeepsWithin limit s before here → lookup (eqb h.domain) s.due ≡ None → Leading h old old before here
new_domain s before here h old keeps none =
    let both = or_false (has before h.domain) (has here h.domain) (sym (has-append before here h.domain) ∙ not_due (due_of (messages_of h.domain (before ++ here))) (has (before ++ here) h.domain) (sym (keeps.due h.domain) ∙ none)) in
    let was : has before h.domain ≡ false = both.0 in
    nothing_leads before here h old (rw was refl)

and_not_true : (a : Bool) → (a && not true) ≡ false
and_not_true true = refl
and_not_true false = refl

pub is_here : {limit : Option ℕ} (s : State) (before here : List Message) (h : Header) (old : List ℕ) → KeepsWithin limit s before here → is_some (lookup (eqb h.domain) s.here) ≡ true → Leading h old old before here
is_here s before here h old keeps there =
    let now : has here h.domain ≡ true = sym (keeps.in_file h.domain) ∙ there in
    nothing_leads before here h old (rw now (and_not_true (has before h.domain)))

-- where it does, its templates do
begins : {limit : Option ℕ} (s : State) (before here : List Message) (h : Header) (due : Option ℕ) → KeepsWithin limit s before here → lookup (eqb h.domain) s.due ≡ Some due → is_some (lookup (eqb h.domain) s.here) ≡ false
    → (begins_again before here h.domain ≡ true) × (due_of (messages_of h.domain before) ≡ due)
begins s before here h due keeps found absent =
    let now : has here h.domain ≡ false = sym (keeps.in_file h.domain) ∙ absent in
    let known = is_due (due_of (messages_of h.domain (before ++ here))) due (has (before ++ here) h.domain) (sym (keeps.due h.domain) ∙ found) in
    let was : has before h.domain ≡ true = first (has before h.domain) (has here h.domain) (sym (has-append before here h.domain) ∙ known.0) now in
    let own : messages_of h.domain (before ++ here) ≡ messages_of h.domain before =
    own-append h.domain before here ∙ ap (λ (k : List Message). messages_of h.domain before ++ k) (own_none h.domain here now) ∙ append-nil (messages_of h.domain before) in
    (rw (was, now) refl, ap due_of (sym own) ∙ known.1)
  where
    first : (a b : Bool) → (a || b) ≡ true → b ≡ false → a ≡ true
    first true b p q = refl
    first false b p q = absurd cc

abbrev with_sequence : Header → ℕ → Stamp
with_sequence h n = record { export_time = h.export_time; sequence = n; domain = h.domain }

-- the octets of a preamble of these templates lead the message
pub leads : {limit : Option ℕ} (s : State) (before here : List Message) (h : Header) (due : Option ℕ) (sequence : ℕ) (ts : List Template) (old new : List ℕ) → KeepsWithin limit s before here → lookup (eqb h.domain) s.due ≡ Some due
    → is_some (lookup (eqb h.domain) s.here) ≡ false → sequence ≡ unwrap_or due h.sequence → h.export_time < 2 ^ 32 → sequence < 2 ^ 32 → h.domain < 2 ^ 32
    → AreInForce ts (events_in (known_after [] (before ++ here)) h.domain) → All IsTemplate ts
    → new ≡ old ++ octets_of (preamble (record { export_time = h.export_time; sequence = sequence; domain = h.domain }) ts)
    → Leading h old new before here
leads s before here h due sequence ts old new keeps found absent is_sequence time small domain force spelled is_new =
    let again = begins s before here h due keeps found absent in
    let q : sequence ≡ unwrap_or (due_of (messages_of h.domain before)) h.sequence = is_sequence ∙ ap (λ (o : Option ℕ). unwrap_or o h.sequence) (sym again.1) in
    let st : Stamp = record { export_time = h.export_time; sequence = sequence; domain = h.domain } in
    let same : st ≡ stamp_for before h = ap (λ (n : ℕ). with_sequence h n) q in
    let yes = again.0 in
    let all : Leads before here h (preamble st ts) = record {
      templates = ts;
      in_force = force;
      spelled = spelled;
      fits = subst IsStamp same (record { export_time = time; sequence = small; domain = domain });
      is = subst (λ (x : Stamp). IsPreamble x ts (preamble st ts)) same (is_preamble st ts spelled);
    } in
    record { lead = preamble st ts; is = rw yes all; octets = is_new }

no_templates : (o : Option Template) (t : Template) → None ≡ o → o ≡ Some t → ⊥
no_templates o t a b = cc

none_for : (es : List Event) → ((id : ℕ) → None ≡ in_force es id) → AreInForce [] es
none_for es none = record { each = All-nil (λ (t : Template). in_force es t.id ≡ Some t); all = λ t there. absurd (no_templates (in_force es t.id) t (none t.id) there) }

-- what the look-up of a domain's templates found
abbrev pub found_at : Option (BTreeMap ℕ Template) → ℕ → Option Template
found_at o id = option_and_then (λ t. get nat_cmp t id) o

pub none_found : (ds : History) (d : ℕ) (o : Option (BTreeMap ℕ Template)) → o ≡ None → ((id : ℕ) → found_at o id ≡ template_for ds d id) → AreInForce [] (events_in ds d)
none_found ds d o none same = none_for (events_in ds d) (λ id. sym (ap (λ (x : Option (BTreeMap ℕ Template)). found_at x id) none) ∙ same id ∙ template_for-is ds d id)

pub all_found : (ds : History) (d : ℕ) (o : Option (BTreeMap ℕ Template)) (m : BTreeMap ℕ Template) → o ≡ Some m → IsOrdered nat_cmp m → ((id : ℕ) → found_at o id ≡ template_for ds d id) → AreInForce (values m) (events_in ds d)
all_found ds d o m some ordered same = map_in_force m (events_in ds d) ordered (λ id. sym (ap (λ (x : Option (BTreeMap ℕ Template)). found_at x id) some) ∙ same id ∙ template_for-is ds d id)

-- a preamble of no templates is a message without sets
pub bare : (old new : List ℕ) (s : Stamp) → new ≡ old ++ templates_message s [] → new ≡ old ++ octets_of (preamble s [])
bare old new s is = is ∙ ap (λ (w : List ℕ). old ++ w) (sym (append-nil (templates_message s [])))

-- the sequence number that is due
pub due_is : {limit : Option ℕ} (s : State) (before here : List Message) (d : ℕ) → KeepsWithin limit s before here → option_flatten (lookup (eqb d) s.due) ≡ due_of (messages_of d (before ++ here))
due_is s before here d keeps = by_cases (has (before ++ here) d) refl (keeps.due d)
  where
    by_cases : (b : Bool) → has (before ++ here) d ≡ b → lookup (eqb d) s.due ≡ cond b (Some (due_of (messages_of d (before ++ here)))) None → option_flatten (lookup (eqb d) s.due) ≡ due_of (messages_of d (before ++ here))
    by_cases true e is = ap option_flatten is
    by_cases false e is = ap option_flatten is ∙ sym (ap due_of (own_none d (before ++ here) e))

-- ---- the head of a file

-- a file that has a message has its head
pub no_heading : (before here : List Message) (h : Header) (old : List ℕ) → here ≢ [] → Heading h old old before here
no_heading before [] h old some = absurd (some refl)
no_heading before (x ∷ xs) h old some = record { head = []; is = refl; octets = sym (append-nil old) }

-- the records that are written are those of the session's earlier files
pub heading : {limit : Option ℕ} (s : State) (before here : List Message) (h : Header) (old new : List ℕ) → KeepsWithin limit s before here → here ≡ [] → h.export_time < 2 ^ 32 → h.sequence < 2 ^ 32
    → AppendsHead (known_after [] (before ++ here)) (number_at s.due (stamp_at h)) h.export_time s.kept old new → Heading h old new before here
heading s before here h old new keeps none time small appends =
    let all : before ++ here ≡ before = ap (λ (hs : List Message). before ++ hs) none ∙ append-nil before in
    let at : (d : ℕ) → number_at s.due (stamp_at h) d ≡ number_in before h d =
    λ d. ap (λ (o : Option ℕ). goes_on_with o h.domain h.sequence d) (due_is s before here d keeps ∙ ap (λ (ms : List Message). due_of (messages_of d ms)) all) in
    let numbers : number_at s.due (stamp_at h) ≡ number_in before h = λ i d. at d i in
    let kept : s.kept ≡ kept_after before = keeps.kept ∙ ap kept_after all in
    let known : AppendsHead (known_after [] before) (number_at s.due (stamp_at h)) h.export_time s.kept old new = subst (λ (ms : List Message). AppendsHead (known_after [] ms) (number_at s.due (stamp_at h)) h.export_time s.kept old new) all appends in
    let numbered : AppendsHead (known_after [] before) (number_in before h) h.export_time s.kept old new = subst (λ (n : ℕ → Option ℕ). AppendsHead (known_after [] before) n h.export_time s.kept old new) numbers known in
    let whole : AppendsHead (known_after [] before) (number_in before h) h.export_time (kept_after before) old new = subst (λ (ks : List Kept). AppendsHead (known_after [] before) (number_in before h) h.export_time ks old new) kept numbered in
    let first : Heading h old new before [] = record {
      head = head_messages h.export_time (number_in before h) (written before h);
      is = record { is = refl; writable = whole.writable; export_time = time; sequence = small };
      octets = whole.octets;
    } in
    subst (λ (hs : List Message). Heading h old new before hs) (sym none) first
