-- A whole message: what is read is what is spelled.
use Rattle.std.proofs.Common.{◌≡◌, ℕ, List, drop, map, Result, Ok, Err, refl, sym, ap, subst, ◌∙◌}
use Rattle.ipfix_wire.specs.InTurn.{InTurn}
use Rattle.ipfix_wire.specs.Numbers.{IsOctets}
use Rattle.ipfix_wire.specs.declared.header.Header.{Header}
use Rattle.ipfix_wire.proofs.Octets.{IsOctets-drop}
use Rattle.ipfix_message.specs.declared.fault.MessageFault.{MessageFault}
use Rattle.ipfix_message.specs.declared.fault.MessageFault.TheVariants as faults
use Rattle.ipfix_message.specs.declared.message.Decoded.{Decoded}
use Rattle.ipfix_message.specs.declared.passed_over.PassedOver.{PassedOver}
use Rattle.ipfix_message.specs.declared.record.DataRecord.{DataRecord}
use Rattle.ipfix_message.specs.declared.record.Template.{Template}
use Rattle.ipfix_message.specs.declared.template_record.Event.{Event}
use Rattle.ipfix_message.specs.Outcome.{◌>>=◌, Fails}
use Rattle.ipfix_message.specs.Sets.{Set, SpellsSet}
use Rattle.ipfix_message.specs.Messages.{Decoding, before, sets_from}
use Rattle.ipfix_message.specs.Domains.{History, Message, Decodes, admit, events_in, with_events, message_header, message_gives}
use Rattle.ipfix_message.proofs.History.{after_admit, after_sets}
use Rattle.ipfix_message.proofs.Reading.{ok_is, not_both, bind_ok}
use Rattle.laws_messages.specs.WholeMessages.{Answers, Content, IsReadAs, Kept}
use Rattle.laws_messages.proofs.Headers.{header-found, header-only}
use Rattle.laws_messages.proofs.InTurns.{cut-found, cut-only, bodies}
use Rattle.laws_messages.proofs.Totals.{with_sets, passed_over-all, sets-found, sets-only}

abbrev message : Header → History → Decoding → Message
message h known d = record { header = h; decoding = d; domains = with_events known h.domain d.events }

pub message-found : (ds : History) (m : List ℕ) (x : Message) → IsOctets m → message_gives ds m ≡ Ok x → IsReadAs ds m x
unfolding message_gives
message-found ds m x fits read =
    let h = bind_ok (message_header m) (λ h. admit ds h.domain >>= λ known. after_admit h m known) x read in
    let known = bind_ok (admit ds h.0.domain) (after_admit h.0 m) x h.2 in
    let es = events_in known.0 h.0.domain in
    let d = bind_ok (sets_from h.0 (before es) (drop 16 m)) (after_sets h.0 known.0) x known.2 in
    let headed = header-found m h.0 fits h.1 in
    let cut = cut-found h.0 (before es) d.0 (drop 16 m) (IsOctets-drop 16 m fits) d.1 in
    let all = sets-found cut.sets h.0 (before es) d.0 (bodies cut.sets (drop 16 m) (IsOctets-drop 16 m fits) cut.in_turn) cut.give in
    subst (IsReadAs ds m) (ok_is (message h.0 known.0 d.0) x d.2) (record {
      known = known.0;
      admitted = known.1;
      sets = all.sets;
      message = record {
        text = drop 16 m;
        octets = headed.octets;
        header = headed.header;
        whole = headed.whole;
        in_turn = subst (λ (ss : List Set). InTurn SpellsSet ss (drop 16 m)) (sym all.are_sets) cut.in_turn;
        contents = all.stand;
      };
      records = ap (λ (e : Decoding). e.records) (sym all.are);
      events = ap (λ (e : Decoding). e.events) (sym all.are);
      passed = ap (λ (e : Decoding). e.passed_over) (sym all.are) ∙ passed_over-all h.0 es all.sets;
      domains = refl;
    })

-- a decoding by its parts
same_decoding : (d e : Decoding) → d.events ≡ e.events → d.records ≡ e.records → d.passed_over ≡ e.passed_over → d ≡ e
same_decoding d e a b c = parts d.events e.events d.records e.records d.passed_over e.passed_over a b c
  where
    made : List Event → List DataRecord → PassedOver → Decoding
    made es rs p = record { events = es; records = rs; passed_over = p }

    parts : (es fs : List Event) (rs qs : List DataRecord) (p q : PassedOver) → es ≡ fs → rs ≡ qs → p ≡ q → made es rs p ≡ made fs qs q
    parts es fs rs qs p q a b c = rw (a, b, c) refl

pub message-only : (ds : History) (m : List ℕ) (x : Message) → IsOctets m → IsReadAs ds m x → message_gives ds m ≡ Ok x
unfolding message_gives
message-only ds m x fits is =
    let h = x.header in
    let es = events_in is.known h.domain in
    let headed = header-only m is.message.text h is.message.octets is.message.header is.message.whole in
    let ss : List Set = map (λ (p : Set × Content). p.0) is.sets in
    let in_turn : InTurn SpellsSet ss (drop 16 m) = subst (InTurn SpellsSet ss) (sym headed.1) is.message.in_turn in
    let held = sets-only is.sets h (before es) (bodies ss (drop 16 m) (IsOctets-drop 16 m fits) in_turn) is.message.contents in
    let read : sets_from h (before es) (drop 16 m) ≡ Ok (with_sets h (before es) is.sets) = cut-only h (before es) (with_sets h (before es) is.sets) (drop 16 m) ss in_turn held in
    let same : with_sets h (before es) is.sets ≡ x.decoding = same_decoding (with_sets h (before es) is.sets) x.decoding (sym is.events) (sym is.records) (passed_over-all h es is.sets ∙ sym is.passed) in
    ap (λ (r : Result Header MessageFault). r >>= λ k. admit ds k.domain >>= λ known. after_admit k m known) headed.0
    ∙ ap (λ (r : Result History MessageFault). r >>= λ known. after_admit h m known) is.admitted
    ∙ ap (λ (r : Result Decoding MessageFault). r >>= λ d. after_sets h is.known d) (read ∙ ap (λ (d : Decoding). Ok d) same)
    ∙ ap (λ (ds' : History). Ok (whole h x.decoding ds')) (sym is.domains)
  where
    whole : Header → Decoding → History → Message
    whole h d ds' = record { header = h; decoding = d; domains = ds' }

-- ---- what decode answers

pub decode-found : (ds : History) (m : List ℕ) (decoded : Decoded) (kept : Kept) → IsOctets m → Decodes (Ok decoded) kept (message_gives ds m) → (x : Message) × IsReadAs ds m x × Answers x (Ok decoded) kept
decode-found ds m decoded kept fits decodes = (decodes.0, message-found ds m decodes.0 fits decodes.1, (decodes.2, decodes.3))

-- reading that succeeds fails only without memory
only_memory : {X : Type 0} (e : MessageFault) (x : X) → Fails e (Ok x) → e ≡ faults.OutOfMemory
only_memory faults.OutOfMemory x fails = refl
only_memory faults.Version x fails = absurd (not_both x _ fails)
only_memory faults.MessageLength x fails = absurd (not_both x _ fails)
only_memory faults.SetHeader x fails = absurd (not_both x _ fails)
only_memory faults.SetLength x fails = absurd (not_both x _ fails)
only_memory faults.TemplateId x fails = absurd (not_both x _ fails)
only_memory faults.TemplateCut x fails = absurd (not_both x _ fails)
only_memory faults.Scope x fails = absurd (not_both x _ fails)
only_memory faults.ZeroLength x fails = absurd (not_both x _ fails)
only_memory faults.TemplateChanged x fails = absurd (not_both x _ fails)
only_memory faults.RecordCut x fails = absurd (not_both x _ fails)
only_memory faults.TooManyDomains x fails = absurd (not_both x _ fails)
only_memory faults.Spent x fails = absurd (not_both x _ fails)
only_memory faults.TooManyFields x fails = absurd (not_both x _ fails)

answers : (x : Message) (r : Result Decoded MessageFault) (kept : Kept) → Decodes r kept (Ok x) → Answers x r kept
answers x (Ok decoded) kept decodes =
    let same : decodes.0 ≡ x = sym (ok_is x decodes.0 decodes.1) in
    subst (λ (y : Message). Answers y (Ok decoded) kept) same (decodes.2, decodes.3)
answers x (Err e) kept decodes = only_memory e x decodes

pub decode-only : (ds : History) (m : List ℕ) (x : Message) (r : Result Decoded MessageFault) (kept : Kept) → IsOctets m → IsReadAs ds m x → Decodes r kept (message_gives ds m) → Answers x r kept
decode-only ds m x r kept fits is decodes = answers x r kept (subst (Decodes r kept) (message-only ds m x fits is) decodes)
