-- A message that withdraws a template is read: it gives no record, and the template is in force no more.
use Rattle.std.proofs.Common.{◌≡◌, ℕ, ◌+◌, ◌*◌, ◌^◌, ◌<◌, ◌≤◌, Bool, true, false, eqb, ltb, is_some, length-append, Option, Some, None, List, [], ◌∷◌, ◌++◌, length, drop, Result, Ok, Err, refl, sym, ap, ap₂, append_assoc, ◌∙◌, arith}
use Rattle.std.specs.Prelude.{All, OnOk}
use Rattle.std.specs.Map.{lookup}
use Rattle.std.specs.Option.{unwrap_or}
use Rattle.std.proofs.lemmas.Bool.{eq-eqb, le-ltb}
use Rattle.std.proofs.lemmas.List.Elements.{All-head, All-tail}
use Rattle.std.proofs.lemmas.Map.Steps.{set_value_same}
use Rattle.std.proofs.lemmas.List.{append-nil, drop_at}
use Rattle.ipfix_wire.specs.MessageHeader.{header_octets, header_at}
use Rattle.ipfix_wire.specs.declared.header.Header.{Header}
use Rattle.ipfix_message.specs.declared.fault.MessageFault.{MessageFault}
use Rattle.ipfix_message.specs.declared.template_record.TemplateKind.{TemplateKind}
use Rattle.ipfix_message.specs.declared.template_record.TemplateKind.TheVariants.{Plain, Options}
use Rattle.ipfix_message.specs.declared.template_record.Event.{Event}
use Rattle.ipfix_message.specs.declared.template_record.Event.TheVariants.{Withdraw}
use Rattle.ipfix_message.specs.Outcome.{◌>>=◌}
use Rattle.ipfix_message.specs.TemplateRecords.{set_id_of, event_at}
use Rattle.ipfix_message.specs.TemplatesInForce.{is_ignored, event_gives, template_set_gives}
use Rattle.ipfix_message.specs.Sets.{Set, next_set}
use Rattle.ipfix_message.specs.Messages.{Decoding, before, more_ignored, templates_in, set_gives, sets_from}
use Rattle.ipfix_message.specs.Domains.{History, Message, admit, events_in, with_events, message_header, message_gives}
use Rattle.ipfix_message.specs.Alike.{knows}
use Rattle.ipfix_message.proofs.TemplateRecords.{events_read}
use Rattle.ipfix_message.proofs.TemplateSets.{plus, count_of, template_set_gives-next, template_set_gives-done}
use Rattle.ipfix_message.proofs.MessageSets.{next_set-only}
use Rattle.ipfix_message.proofs.Decoding.{sets_from-next, sets_from-done}
use Rattle.ipfix_message.proofs.History.{after_admit, after_sets}
use Rattle.ipfix_datagrams.specs.declared.withdrawn_template.WithdrawnTemplate.{WithdrawnTemplate}
use Rattle.ipfix_datagrams.specs.Withdrawals.{HasTemplateId, kind_withdrawn, withdrawal_header, withdrawal_record, withdrawal_set, withdrawal_sets, withdrawal_message}
use Rattle.ipfix_datagrams.specs.Datagrams.{with_one_withdrawn, with_withdrawn}
use Rattle.ipfix_datagrams.proofs.Events.{events_now}

-- ---- its sets

event_is : (kind : TemplateKind) (id : ℕ) → 256 ≤ id → id < 2 ^ 16 → event_at kind (withdrawal_record id) ≡ Ok (Withdraw kind id, [])
event_is kind id low high =
    ap (event_at kind) (sym (append-nil (withdrawal_record id))) ∙ (events_read kind).only (Withdraw kind id) (withdrawal_record id) [] (refl, low, high, refl)

taken : (es : List Event) (kind : TemplateKind) (id : ℕ) → event_gives es (Withdraw kind id) ≡ Ok (is_ignored es (Withdraw kind id))
unfolding event_gives
taken es kind id = refl

-- how many withdrawals were ignored
abbrev count : List Event → TemplateKind → ℕ → ℕ
count es kind id = count_of (is_ignored es (Withdraw kind id)) + 0

templates_are : (es : List Event) (kind : TemplateKind) (id : ℕ) → 256 ≤ id → id < 2 ^ 16 → template_set_gives kind es (withdrawal_record id) ≡ Ok (Withdraw kind id ∷ es, count es kind id)
templates_are es kind id low high =
    template_set_gives-next kind es (withdrawal_record id) (Withdraw kind id) [] (is_ignored es (Withdraw kind id)) (event_is kind id low high) (taken es kind id)
    ∙ ap (plus (count_of (is_ignored es (Withdraw kind id)))) (template_set_gives-done kind (Withdraw kind id ∷ es) [] refl)

abbrev set_of : TemplateKind → ℕ → Set
set_of kind id = record { id = set_id_of kind; body = withdrawal_record id }

set_is : (k : TemplateKind) (h : Header) (d : Decoding) (body : List ℕ) → set_gives h d (record { id = set_id_of k; body = body }) ≡ templates_in k d body
unfolding set_gives
set_is Plain h d body = refl
set_is Options h d body = refl

abbrev withdrawing : TemplateKind → ℕ → Decoding → Decoding
withdrawing kind id d = record d { events = Withdraw kind id ∷ d.events; passed_over = more_ignored (count d.events kind id) d.passed_over }

one_set : (h : Header) (d : Decoding) (kind : TemplateKind) (id : ℕ) → 256 ≤ id → id < 2 ^ 16 → set_gives h d (set_of kind id) ≡ Ok (withdrawing kind id d)
unfolding templates_in
one_set h d kind id low high =
    set_is kind h d (withdrawal_record id)
    ∙ ap (λ (r : Result (List Event × ℕ) MessageFault). r >>= λ x. Ok (record d { events = x.0; passed_over = more_ignored x.1 d.passed_over })) (templates_are d.events kind id low high)

small_id : (k : TemplateKind) → set_id_of k < 2 ^ 16
small_id Plain = omega arith
small_id Options = omega arith

next_is : (kind : TemplateKind) (id : ℕ) (rest : List ℕ) → next_set (withdrawal_set kind id ++ rest) ≡ Ok (set_of kind id, rest)
next_is kind id rest = next_set-only (set_of kind id) (withdrawal_set kind id) rest (record { id = small_id kind; size = omega arith; octets = refl })

-- sets in turn
abbrev pub withdrawing_all : List WithdrawnTemplate → Decoding → Decoding
withdrawing_all [] d = d
withdrawing_all (w ∷ ws) d = withdrawing_all ws (withdrawing (kind_withdrawn w) w.id d)

sets_are : (h : Header) (d : Decoding) (ws : List WithdrawnTemplate) → All HasTemplateId ws → sets_from h d (withdrawal_sets ws) ≡ Ok (withdrawing_all ws d)
sets_are h d [] ids = sets_from-done h d [] refl
sets_are h d (w ∷ ws) ids =
    let kind = kind_withdrawn w in
    let e = withdrawing kind w.id d in
    let id = All-head HasTemplateId w ws ids in
    sets_from-next h d e (withdrawal_sets (w ∷ ws)) (set_of kind w.id) (withdrawal_sets ws) (next_is kind w.id (withdrawal_sets ws)) (one_set h d kind w.id id.0 id.1)
    ∙ sets_are h e ws (All-tail HasTemplateId w ws ids)

no_record : (ws : List WithdrawnTemplate) (d : Decoding) → (withdrawing_all ws d).records ≡ d.records
no_record [] d = refl
no_record (w ∷ ws) d = no_record ws (withdrawing (kind_withdrawn w) w.id d)

-- ---- the message

-- each set has 8 octets
pub sized : (ws : List WithdrawnTemplate) → length (withdrawal_sets ws) ≡ length ws * 8
sized [] = refl
sized (w ∷ ws) = omega (arith, length-append (withdrawal_set (kind_withdrawn w) w.id) (withdrawal_sets ws), sized ws)

pub header_is : (h : Header) (ws : List WithdrawnTemplate) → header_at (header_octets (withdrawal_header h ws) ++ withdrawal_sets ws) ≡ Ok (withdrawal_header h ws) → message_header (withdrawal_message h ws) ≡ Ok (withdrawal_header h ws)
unfolding message_header
header_is h ws at =
    let m = withdrawal_message h ws in
    let k = withdrawal_header h ws in
    let size : length m ≡ 16 + length (withdrawal_sets ws) = omega (arith, length-append (header_octets k) (withdrawal_sets ws)) in
    let long : ltb (length m) 16 ≡ false = le-ltb (length m) 16 (omega (arith, size)) in
    let same : eqb (16 + length (withdrawal_sets ws)) (length m) ≡ true = eq-eqb (16 + length (withdrawal_sets ws)) (length m) (sym size) in
    rw (long, at, same) refl

pub always : {T E P : Type 0} (r : Result T E) → P → OnOk r P
always (Ok x) p = p
always (Err e) p = tt

-- what was appended in two steps
pub written : {T E : Type 0} (r : Result T E) (new mid old front x y : List ℕ) → mid ≡ old ++ front → x ≡ y → OnOk r (new ≡ mid ++ x) → OnOk r (new ≡ old ++ (front ++ y))
written (Ok v) new mid old front x y first same h = h ∙ ap₂ (λ (a b : List ℕ). a ++ b) first same ∙ append_assoc old front y
written (Err e) new mid old front x y first same h = tt

-- a message of a domain that is known is read so
pub given_by : (ds : History) (m : List ℕ) (h : Header) (known : History) → message_header m ≡ Ok h → admit ds h.domain ≡ Ok known → message_gives ds m ≡ after_admit h m known
unfolding message_gives
given_by ds m h known good admitted =
    ap (λ (r : Result Header MessageFault). r >>= λ g. admit ds g.domain >>= λ k. after_admit g m k) good
    ∙ ap (λ (r : Result History MessageFault). r >>= λ k. after_admit h m k) admitted

pub admitted : (ds : History) (domain : ℕ) → knows ds domain ≡ true → admit ds domain ≡ Ok ds
unfolding admit
admitted ds domain there = rw there refl

-- ---- what it gives

-- the domains after it are those after each withdrawal in turn
set_twice : (domain : ℕ) (ds : History) (es fs : List Event) → with_events (with_events ds domain es) domain fs ≡ with_events ds domain fs
set_twice domain [] es fs = refl
set_twice domain (e ∷ ds) es fs = by_test (eqb domain e.0) refl (set_twice domain ds es fs)
  where
    by_test : (b : Bool) → eqb domain e.0 ≡ b → with_events (with_events ds domain es) domain fs ≡ with_events ds domain fs → with_events (with_events (e ∷ ds) domain es) domain fs ≡ with_events (e ∷ ds) domain fs
    by_test true is same = rw (is, is) refl
    by_test false is same = rw (is, is) (ap (λ (rest : History). e ∷ rest) same)

found : (o : Option (List Event)) → is_some o ≡ true → o ≡ Some (unwrap_or o [])
found (Some es) there = refl
found None there = absurd cc

put_back : (ds : History) (domain : ℕ) → knows ds domain ≡ true → with_events ds domain (events_in ds domain) ≡ ds
put_back ds domain there = set_value_same (eqb domain) ds (events_in ds domain) (found (lookup (eqb domain) ds) there)

domains_are : (ds : History) (domain : ℕ) (ws : List WithdrawnTemplate) (d : Decoding) → knows ds domain ≡ true → with_events ds domain (withdrawing_all ws d).events ≡ with_withdrawn (with_events ds domain d.events) domain ws
domains_are ds domain [] d there = refl
domains_are ds domain (w ∷ ws) d there =
    let e = withdrawing (kind_withdrawn w) w.id d in
    let now : events_in (with_events ds domain d.events) domain ≡ d.events = events_now ds domain d.events there in
    let step : with_one_withdrawn (with_events ds domain d.events) domain w ≡ with_events ds domain e.events =
    ap (λ (es : List Event). with_events (with_events ds domain d.events) domain (Withdraw (kind_withdrawn w) w.id ∷ es)) now ∙ set_twice domain ds d.events e.events in
    domains_are ds domain ws e there ∙ ap (λ (k : History). with_withdrawn k domain ws) (sym step)

pub record Withdrawn (ds : History) (h : Header) (ws : List WithdrawnTemplate) (y : Message) : Type 0 where
  pub is : message_gives ds (withdrawal_message h ws) ≡ Ok y
  pub domains : y.domains ≡ with_withdrawn ds h.domain ws
  pub records : y.decoding.records ≡ []
  pub header : y.header ≡ withdrawal_header h ws

pub withdraws : (ds : History) (h : Header) (ws : List WithdrawnTemplate) → message_header (withdrawal_message h ws) ≡ Ok (withdrawal_header h ws) → knows ds h.domain ≡ true → All HasTemplateId ws → (y : Message) × Withdrawn ds h ws y
withdraws ds h ws good there ids =
    let k = withdrawal_header h ws in
    let es = events_in ds h.domain in
    let d = withdrawing_all ws (before es) in
    let sets : sets_from k (before es) (drop 16 (withdrawal_message h ws)) ≡ Ok d =
    ap (sets_from k (before es)) (drop_at (header_octets k) (withdrawal_sets ws) 16 refl) ∙ sets_are k (before es) ws ids in (
      record { header = k; decoding = d; domains = with_events ds h.domain d.events },
      record {
        is = given_by ds (withdrawal_message h ws) k ds good (admitted ds h.domain there) ∙ ap (λ (r : Result Decoding MessageFault). r >>= λ x. after_sets k ds x) sets;
        domains = domains_are ds h.domain ws (before es) there ∙ ap (λ (q : History). with_withdrawn q h.domain ws) (put_back ds h.domain there);
        records = no_record ws (before es);
        header = refl;
      },
    )
