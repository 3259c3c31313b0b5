-- The head of a file is read: it gives the options records that are written there.
use Rattle.std.proofs.Common.{◌≡◌, ℕ, ◌+◌, ◌^◌, ◌<◌, ◌≤◌, Bool, true, false, cond, ltb, eqb, is_some, List, [], ◌∷◌, ◌++◌, length, drop, filter, Option, Some, None, Ok, refl, sym, ap, subst, ◌∙◌, arith, inl, inr}
use Rattle.std.specs.Prelude.{◌&&◌, All}
use Rattle.std.specs.Map.{lookup}
use Rattle.std.specs.Option.{unwrap_or}
use Rattle.std.proofs.lemmas.Bool.{cases_Bool, le-ltb, eq-eqb}
use Rattle.std.proofs.Math.Nat.{mod-lt}
use Rattle.std.proofs.lemmas.List.{append-nil, length-append, drop_at}
use Rattle.std.proofs.lemmas.List.Elements.{All-nil, All-cons, All-head, All-tail}
use Rattle.ipfix_wire.specs.MessageHeader.{header_octets, header_at}
use Rattle.ipfix_wire.specs.SetHeader.{set_octets}
use Rattle.ipfix_wire.specs.declared.header.Header.{Header}
use Rattle.ipfix_wire.proofs.Choices.{both_true, different, or_right}
use Rattle.ipfix_wire.proofs.Headers.{read}
use Rattle.ipfix_wire.proofs.Written.{header_again}
use Rattle.ipfix_message.specs.Alike.{knows}
use Rattle.ipfix_message.specs.DataRecords.{IsBody, record_of, records_of_body}
use Rattle.ipfix_message.specs.Domains.{History, Message, events_in, message_header, template_for}
use Rattle.ipfix_message.specs.Fields.{Field}
use Rattle.ipfix_message.specs.Messages.{Decoding, before, data_in, set_gives, sets_from}
use Rattle.ipfix_message.specs.Sets.{Set, next_set}
use Rattle.ipfix_message.specs.SpelledFields.{Spells, fields_in}
use Rattle.ipfix_message.specs.TemplatesInForce.{in_force, same_template}
use Rattle.ipfix_message.specs.declared.record.DataRecord.{DataRecord}
use Rattle.ipfix_message.specs.declared.record.Template.{Template}
use Rattle.ipfix_message.specs.declared.stamp.Stamp.{Stamp}
use Rattle.ipfix_message.specs.declared.template_record.Event.{Event}
use Rattle.ipfix_message.specs.declared.template_record.Event.TheVariants.{Define}
use Rattle.ipfix_message.proofs.Bodies.{records_of_body-only}
use Rattle.ipfix_message.proofs.Decoding.{sets_from-next, sets_from-done}
use Rattle.ipfix_message.proofs.History.{none_is}
use Rattle.ipfix_message.proofs.MessageSets.{next_set-only}
use Rattle.ipfix_message.proofs.PartsOf.{Steps, reads}
use Rattle.ipfix_message.proofs.Same.{same_template-Decides}
use Rattle.ipfix_message.proofs.TemplateMessages.{Below, Stands, below_all}
use Rattle.ipfix_session.specs.Given.{known_after}
use Rattle.ipfix_session.proofs.Chains.{GivesAll}
use Rattle.recording_files.specs.Heads.{CanBeWritten, head_messages, is_now, is_written, options_message, options_set, stamp_of, two_messages}
use Rattle.recording_files.specs.KeptOptions.{Kept, read_again}
use Rattle.recording_files.specs.Preambles.{IsStamp, IsTemplate, sets_octets, stamped, template_set}
use Rattle.recording_files.proofs.Beside.{BesideOf, beside_leads, room_beside}
use Rattle.recording_files.proofs.KeptCopied.{IsCopied, fields_are, template_for-is}
use Rattle.recording_files.proofs.PreamblesRead.{IsLead, one_message}

-- ---- a message of one record

-- the set of a record is read under its template
data_read : (h : Header) (es : List Event) (t : Template) (fs : List Field) (w : List ℕ) → IsTemplate t → in_force es t.id ≡ Some t → Spells t.specs fs w
    → set_gives h (before es) (record { id = t.id; body = w }) ≡ Ok (record (before es) { records = record_of h t fs ∷ [] })
unfolding set_gives data_in
data_read h es t fs w is force spelled =
    let two : eqb t.id 2 ≡ false = different t.id 2 (λ e. omega (arith, e, is.lowest)) in
    let three : eqb t.id 3 ≡ false = different t.id 3 (λ e. omega (arith, e, is.lowest)) in
    let large : ltb t.id 256 ≡ false = le-ltb t.id 256 is.lowest in
    let body : IsBody t.specs (fs ∷ []) w = record { octets = w; padding = []; whole = sym (append-nil w); spelled = (w, [], sym (append-nil w), spelled, refl); short = is.positive } in
    let read : records_of_body t.specs w ≡ Ok (fs ∷ []) = records_of_body-only t.specs w (fs ∷ []) is.positive body in
    rw (two, three, large, force, read) refl

options_read : (h : Header) (es : List Event) (k : Kept) (fs : List Field) → IsTemplate k.template → length k.octets ≤ 512 → in_force es k.template.id ≡ Some k.template → Spells k.template.specs fs k.octets
    → sets_from h (before es) (options_set k) ≡ Ok (record (before es) { records = record_of h k.template fs ∷ [] })
options_read h es k fs is short force spelled =
    let s : Set = record { id = k.template.id; body = k.octets } in
    let all : Decoding = record (before es) { records = record_of h k.template fs ∷ [] } in
    let next : next_set (options_set k) ≡ Ok (s, []) =
    ap next_set (sym (append-nil (options_set k))) ∙ next_set-only s (options_set k) [] (record { id = is.highest; size = omega (arith, short); octets = refl }) in
    sets_from-next h (before es) all (options_set k) s [] next (data_read h es k.template fs k.octets is force spelled) ∙ sets_from-done h all [] refl

header_stamped : (s : Stamp) (w : List ℕ) → IsStamp s → 16 + length w < 2 ^ 16 → message_header (header_octets (stamped s (length w)) ++ w) ≡ Ok (stamped s (length w))
unfolding message_header
header_stamped s w is fits =
    let h = stamped s (length w) in
    let m = header_octets h ++ w in
    let size : length m ≡ 16 + length w = omega (arith, length-append (header_octets h) w) in
    let long : ltb (length m) 16 ≡ false = le-ltb (length m) 16 (omega (arith, size)) in
    let at : header_at m ≡ read h = header_again h w (omega arith) fits is.export_time is.sequence is.domain in
    let same : eqb (16 + length w) (length m) ≡ true = eq-eqb (16 + length w) (length m) (sym size) in
    rw (long, at, same) refl

-- a message of one record, and what is due after it
pub record IsOptions (s : Stamp) (k : Kept) (y : Message) : Type 0 where
  pub sequence : y.header.sequence ≡ s.sequence
  pub domain : y.header.domain ≡ k.domain
  pub records : y.decoding.records ≡ read_again s.export_time k ∷ []
  pub passed_over : y.decoding.passed_over ≡ (before []).passed_over

-- ---- the messages of a head

-- what they give
abbrev pub HeadRead : ℕ → (ℕ → Option ℕ) → List Kept → List Message → Type 0
HeadRead time number [] ys = ys ≡ []
HeadRead time number (k ∷ ks) ys =
    (t : Message) × (y : Message) × (rest : List Message) × (ys ≡ t ∷ y ∷ rest) × IsLead (stamp_of time number k ks) t × IsOptions (stamp_of time number k ks) k y × HeadRead time number ks rest

abbrev pub IsInForce : History → Kept → Type 0
IsInForce ds k = in_force (events_in ds k.domain) k.template.id ≡ Some k.template

empty_force : (id : ℕ) → in_force [] id ≡ None
unfolding in_force
empty_force id = refl

no_some : (t : Template) → None ≡ Some t → ⊥
no_some t e = cc

in_force_known : (ds : History) (k : Kept) → IsInForce ds k → knows ds k.domain ≡ true
in_force_known ds k force = elim (cases_Bool (knows ds k.domain)) [
  | inl t ↦ t
  | inr f ↦
      let none : events_in ds k.domain ≡ [] = ap (λ (o : Option (List Event)). unwrap_or o []) (none_is (lookup (eqb k.domain) ds) f) in
      absurd (no_some k.template (sym (empty_force k.template.id) ∙ ap (λ (es : List Event). in_force es k.template.id) (sym none) ∙ force))
]

defined_now : (t : Template) (es : List Event) → in_force (Define t ∷ es) t.id ≡ Some t
unfolding in_force
defined_now t es = let e : eqb t.id t.id ≡ true = eq-eqb t.id t.id refl in rw e refl

abbrev stamp_at : ℕ → ℕ → Kept → Stamp
stamp_at time n k = record { export_time = time; sequence = n; domain = k.domain }

-- a template and a record of it
record TwoRead (ds : History) (all : List Message) (fs : History) (s : Stamp) (k : Kept) : Type 0 where
  lead : Message
  options : Message
  is : GivesAll fs (two_messages s k) (lead ∷ options ∷ [])
  is_lead : IsLead s lead
  is_options : IsOptions s k options
  beside : BesideOf ds all [] options.domains

two_read : (ds : History) (all : List Message) (fs : History) (time n : ℕ) (k : Kept) (rs : List DataRecord) → BesideOf ds all [] fs → IsCopied rs k → CanBeWritten k → IsInForce ds k → IsStamp (stamp_at time n k)
    → TwoRead ds all fs (stamp_at time n k) k
two_read ds all fs time n k rs b copy can force is =
    let s = stamp_at time n k in
    let d = k.domain in
    let t = k.template in
    let there = in_force_known ds k force in
    let full = events_in ds d in
    let es = events_in fs d in
    let stand : All (Stands full) (t ∷ []) = All-cons (Stands full) t [] force (All-nil (Stands full)) in
    let one_set : length (sets_octets (t ∷ [])) ≡ length (template_set t) = ap length (append-nil (template_set t)) in
    let fits : 16 + length (sets_octets (t ∷ [])) < 2 ^ 16 = omega (arith, can.0.fits, one_set) in
    let one = one_message fs s (t ∷ []) full is (room_beside ds all [] fs d b there) fits (All-cons IsTemplate t [] can.0 (All-nil IsTemplate)) stand (b.below d) in
    let x = one.0 in
    let steps : Steps fs d (Define t ∷ es) x.domains = one.1.steps in
    let below : Below (Define t ∷ es) full = below_all (t ∷ []) es full (b.below d) stand in
    let first = beside_leads ds all [] fs x.domains d (Define t ∷ es) b steps there below (λ h. absurd cc) in
    let e : eqb d d ≡ true = eq-eqb d d refl in
    let events_now : events_in x.domains d ≡ Define t ∷ es = steps.events_at d ∙ ap (λ (c : Bool). cond c (Define t ∷ es) (events_in fs d)) e in
    let known_now : knows x.domains d ≡ true = steps.knows_at d ∙ or_right (knows fs d) (eqb d d) e in
    let force_now : in_force (events_in x.domains d) t.id ≡ Some t = ap (λ (gs : List Event). in_force gs t.id) events_now ∙ defined_now t es in
    let w = options_set k in
    let h = stamped s (length w) in
    let size : 16 + length w < 2 ^ 16 = omega (arith, copy.short, length-append (set_octets t.id (length k.octets)) k.octets) in
    let decoding : Decoding = record (before (events_in x.domains d)) { records = record_of h t copy.given.fields ∷ [] } in
    let sets : sets_from h (before (events_in x.domains d)) (drop 16 (options_message s k)) ≡ Ok decoding =
    ap (sets_from h (before (events_in x.domains d))) (drop_at (header_octets h) w 16 refl) ∙ options_read h (events_in x.domains d) k copy.given.fields can.0 copy.short force_now copy.spelled in
    let r = reads x.domains (options_message s k) h decoding (header_stamped s w is size) (inl known_now) sets in
    let y = r.0 in
    let steps_on : Steps x.domains d (events_in x.domains d) y.domains = by_parts x.domains y h decoding r.2 r.3 r.4.steps in
    let fields : fields_in t.specs k.octets ≡ copy.given.fields = fields_are rs k copy in
    record {
      lead = x;
      options = y;
      is = (one.1.is, (r.1, tt));
      is_lead = one.1.lead;
      is_options = record {
        sequence = ap (λ (g : Header). g.sequence) r.2;
        domain = ap (λ (g : Header). g.domain) r.2;
        records = ap (λ (g : Decoding). g.records) r.3 ∙ ap (λ (fs : List Field). record_of h t fs ∷ []) (sym fields);
        passed_over = ap (λ (g : Decoding). g.passed_over) r.3;
      };
      beside = beside_leads ds all [] x.domains y.domains d (events_in x.domains d) first steps_on there (first.below d) (λ h. absurd cc);
    }
  where
    by_parts : (fs : History) (y : Message) (h : Header) (decoding : Decoding) → y.header ≡ h → y.decoding ≡ decoding → Steps fs y.header.domain y.decoding.events y.domains → Steps fs h.domain decoding.events y.domains
    by_parts fs y h decoding a b steps = subst (λ (x : Decoding). Steps fs h.domain x.events y.domains) b (subst (λ (x : Header). Steps fs x.domain y.decoding.events y.domains) a steps)

pub record HeadIsRead (ds : History) (all : List Message) (fs : History) (time : ℕ) (number : ℕ → Option ℕ) (ks : List Kept) : Type 0 where
  pub given : List Message
  pub is : GivesAll fs (head_messages time number ks) given
  pub reads : HeadRead time number ks given
  pub beside : BesideOf ds all [] (known_after fs given)

pub head_read : (ds : History) (all : List Message) (fs : History) (time : ℕ) (number : ℕ → Option ℕ) (rs : List DataRecord) (ks : List Kept) → BesideOf ds all [] fs → time < 2 ^ 32
    → All (IsCopied rs) ks → All CanBeWritten ks → All (IsInForce ds) ks → HeadIsRead ds all fs time number ks
head_read ds all fs time number rs [] b small copies can force = record { given = []; is = tt; reads = refl; beside = b }
head_read ds all fs time number rs (k ∷ ks) b small copies can force =
    let s = stamp_of time number k ks in
    let written = All-head CanBeWritten k ks can in
    let is : IsStamp s = record { export_time = small; sequence = mod-lt _ (omega arith); domain = written.1 } in
    let two = two_read ds all fs time s.sequence k rs b (All-head (IsCopied rs) k ks copies) written (All-head (IsInForce ds) k ks force) is in
    let more = head_read ds all two.options.domains time number rs ks two.beside small (All-tail (IsCopied rs) k ks copies) (All-tail CanBeWritten k ks can) (All-tail (IsInForce ds) k ks force) in
    record {
      given = two.lead ∷ two.options ∷ more.given;
      is = (two.is.0, (two.is.1.0, more.is));
      reads = (two.lead, two.options, more.given, refl, two.is_lead, two.is_options, more.reads);
      beside = more.beside;
    }

-- ---- those that are written are in force

pub now_in_force : (ds : History) (number : ℕ → Option ℕ) (ks : List Kept) → All (IsInForce ds) (filter (is_written ds number) ks)
now_in_force ds number [] = All-nil (IsInForce ds)
now_in_force ds number (k ∷ ks) = by_test (is_written ds number k) refl (now_in_force ds number ks)
  where
    by_template : (o : Option Template) → template_for ds k.domain k.template.id ≡ o → (is_now k.template o && is_some (number k.domain)) ≡ true → IsInForce ds k
    by_template None is h = absurd cc
    by_template (Some u) is h =
        let same : k.template ≡ u = (same_template-Decides k.template u).0 (both_true (same_template k.template u) (is_some (number k.domain)) h).0 in
        sym (template_for-is ds k.domain k.template.id) ∙ is ∙ ap (λ (t : Template). Some t) (sym same)

    by_test : (b : Bool) → is_written ds number k ≡ b → All (IsInForce ds) (filter (is_written ds number) ks) → All (IsInForce ds) (cond b (k ∷ filter (is_written ds number) ks) (filter (is_written ds number) ks))
    by_test true e more = All-cons (IsInForce ds) k (filter (is_written ds number) ks) (by_template (template_for ds k.domain k.template.id) refl e) more
    by_test false e more = more
