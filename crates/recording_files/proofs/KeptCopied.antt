-- What is kept is options records that came.
use Rattle.std.proofs.Common.{◌≡◌, ◌+◌, ◌≤◌, ℕ, Bool, true, false, cond, eqb, leb, ltb, List, [], ◌∷◌, ◌++◌, length, drop, filter, Option, Some, None, refl, sym, ap, subst, ◌∙◌, append_assoc, arith}
use Rattle.std.specs.Prelude.{◌&&◌, All, Contains, fold, not}
use Rattle.std.specs.Map.{lookup}
use Rattle.std.specs.Option.{option_and_then, option_map, unwrap_or}
use Rattle.std.proofs.lemmas.Bool.{eqb-true}
use Rattle.std.proofs.lemmas.List.{append-nil, length-append}
use Rattle.std.proofs.lemmas.List.Elements.{All-append, All-cons, All-filter, All-head, All-nil, All-tail, Contains-append_left, Contains-append_right}
use Rattle.ipfix_wire.specs.declared.header.Header.{Header}
use Rattle.ipfix_wire.proofs.Choices.{both_true}
use Rattle.ipfix_message.specs.Domains.{History, Message, events_in, template_for}
use Rattle.ipfix_message.specs.Fields.{Field}
use Rattle.ipfix_message.specs.SpelledFields.{Spells, fields_in}
use Rattle.ipfix_message.specs.TemplatesInForce.{in_force}
use Rattle.ipfix_message.specs.declared.record.DataRecord.{DataRecord}
use Rattle.ipfix_message.specs.declared.record.Template.{Template}
use Rattle.ipfix_message.specs.declared.template_record.Event.{Event}
use Rattle.ipfix_message.proofs.LastDefinition.{in_force-found}
use Rattle.ipfix_message.proofs.SpelledFields.{fields_in-read, spelled-read}
use Rattle.ipfix_session.specs.Given.{known_after, records_in}
use Rattle.exporter_options.specs.Telling.{told_by}
use Rattle.exporter_options.specs.declared.telling.Told.{Told}
use Rattle.recording_files.specs.Heads.{is_written, number_in, written}
use Rattle.recording_files.specs.KeptOptions.{Kept, if_short, keep, keep_some, kept_after, kept_as, kept_of, kept_telling, kept_then, kept_under, kept_with, read_again, short_under, tells_again, tells_some, with_room}
use Rattle.recording_files.specs.RecordOctets.{record_octets}
use Rattle.recording_files.proofs.RecordsSpelled.{record_spelled}

-- ---- the template that is in force

none_in_force : (id : ℕ) → None ≡ in_force [] id
unfolding in_force
none_in_force id = refl

pub template_for-is : (ds : History) (d id : ℕ) → template_for ds d id ≡ in_force (events_in ds d) id
template_for-is ds d id = by_cases (lookup (eqb d) ds)
  where
    no_force : None ≡ in_force [] id
    no_force = none_in_force id

    by_cases : (o : Option (List Event)) → option_and_then (λ es. in_force es id) o ≡ in_force (unwrap_or o []) id
    by_cases None = no_force
    by_cases (Some es) = refl

-- ---- what came

-- one of these records is kept
pub record IsCopied (rs : List DataRecord) (k : Kept) : Type 0 where
  pub given : DataRecord
  pub among : Contains rs given
  pub spelled : Spells k.template.specs given.fields k.octets
  pub domain : given.domain ≡ k.domain
  pub template : given.template ≡ k.template.id
  pub scope : given.scope ≡ k.template.scope
  pub tells : told_by given ≡ Some k.told
  pub short : length k.octets ≤ 512

-- ---- how one is found

abbrev some_told : Told → Option Told
some_told t = Some t

abbrev some_kept : Kept → Option Kept
some_kept k = Some k

abbrev some_template : Template → Option Template
some_template t = Some t

abbrev some_octets : List ℕ → Option (List ℕ)
some_octets w = Some w

-- its octets
record IsSpelled (t : Template) (r : DataRecord) (w : List ℕ) : Type 0 where
  spelled : Spells t.specs r.fields w
  scope : t.scope ≡ r.scope
  short : length w ≤ 512

spelled_is : (r : DataRecord) (t : Template) (w : List ℕ) → short_under r t ≡ Some w → IsSpelled t r w
spelled_is r t w h = by_test ((eqb t.scope r.scope) && leb (length t.specs) 64) refl h
  where
    by_size : (v : List ℕ) → (eqb t.scope r.scope && leb (length t.specs) 64) ≡ true → record_octets t.specs r.fields ≡ Some v → (b : Bool) → leb (length v) 512 ≡ b → cond b (some_octets v) None ≡ Some w → IsSpelled t r w
    by_size v e is true small h =
        let same : v ≡ w = cc in
        record {
          spelled = record_spelled t.specs r.fields w (is ∙ ap some_octets same);
          scope = eqb-true t.scope r.scope (both_true (eqb t.scope r.scope) (leb (length t.specs) 64) e).0;
          short = subst (λ (u : List ℕ). length u ≤ 512) same (grind arith);
        }
    by_size v e is false small h = absurd cc

    by_octets : (eqb t.scope r.scope && leb (length t.specs) 64) ≡ true → (o : Option (List ℕ)) → record_octets t.specs r.fields ≡ o → option_and_then if_short o ≡ Some w → IsSpelled t r w
    by_octets e (Some v) is h = by_size v e is (leb (length v) 512) refl h
    by_octets e None is h = absurd cc

    by_test : (b : Bool) → (eqb t.scope r.scope && leb (length t.specs) 64) ≡ b → option_and_then if_short (cond b (record_octets t.specs r.fields) None) ≡ Some w → IsSpelled t r w
    by_test true e h = by_octets e (record_octets t.specs r.fields) refl h
    by_test false e h = absurd cc

-- what is kept of a record
record IsKeptOf (ds : History) (r : DataRecord) (k : Kept) : Type 0 where
  told : told_by r ≡ Some k.told
  some : tells_some k.told ≡ true
  template : template_for ds r.domain r.template ≡ Some k.template
  spelled : IsSpelled k.template r k.octets
  domain : r.domain ≡ k.domain

kept_is : (ds : History) (r : DataRecord) (k : Kept) → kept_of ds r ≡ Some k → IsKeptOf ds r k
kept_is ds r k h = by_told (told_by r) refl h
  where
    by_octets : (told : Told) (t : Template) → told_by r ≡ Some told → tells_some told ≡ true → template_for ds r.domain r.template ≡ Some t → (o : Option (List ℕ)) → short_under r t ≡ o → option_map (kept_as r told t) o ≡ Some k → IsKeptOf ds r k
    by_octets told t tells some force (Some w) is h =
        let same : kept_as r told t w ≡ k = cc in
        subst (IsKeptOf ds r) same (record { told = tells; some = some; template = force; spelled = spelled_is r t w is; domain = refl })
    by_octets told t tells some force None is h = absurd cc

    by_template : (told : Told) → told_by r ≡ Some told → tells_some told ≡ true → (o : Option Template) → template_for ds r.domain r.template ≡ o → option_and_then (kept_under r told) o ≡ Some k → IsKeptOf ds r k
    by_template told tells some (Some t) force h = by_octets told t tells some force (short_under r t) refl h
    by_template told tells some None force h = absurd cc

    by_some : (told : Told) → told_by r ≡ Some told → (b : Bool) → tells_some told ≡ b → cond b (option_and_then (kept_under r told) (template_for ds r.domain r.template)) None ≡ Some k → IsKeptOf ds r k
    by_some told tells true some h = by_template told tells some (template_for ds r.domain r.template) refl h
    by_some told tells false some h = absurd cc

    by_told : (o : Option Told) → told_by r ≡ o → option_and_then (kept_telling ds r) o ≡ Some k → IsKeptOf ds r k
    by_told (Some told) tells h = by_some told tells (tells_some told) refl h
    by_told None tells h = absurd cc

copied_one : (rs : List DataRecord) (ds : History) (r : DataRecord) (k : Kept) → Contains rs r → IsKeptOf ds r k → IsCopied rs k
copied_one rs ds r k among is =
    let force : in_force (events_in ds r.domain) r.template ≡ Some k.template = sym (template_for-is ds r.domain r.template) ∙ is.template in
    record {
      given = r;
      among = among;
      spelled = is.spelled.spelled;
      domain = is.domain;
      template = sym (in_force-found (events_in ds r.domain) r.template k.template force).0;
      scope = sym is.spelled.scope;
      tells = is.told;
      short = is.spelled.short;
    }

-- ---- all that is kept

more_came : (rs qs : List DataRecord) (k : Kept) → IsCopied rs k → IsCopied (rs ++ qs) k
more_came rs qs k is =
    record { given = is.given; among = Contains-append_left rs qs is.given is.among; spelled = is.spelled; domain = is.domain; template = is.template; scope = is.scope; tells = is.tells; short = is.short }

all_more : (rs qs : List DataRecord) (ks : List Kept) → All (IsCopied rs) ks → All (IsCopied (rs ++ qs)) ks
all_more rs qs [] all = All-nil (IsCopied (rs ++ qs))
all_more rs qs (k ∷ ks) all = All-cons (IsCopied (rs ++ qs)) k ks (more_came rs qs k (All-head (IsCopied rs) k ks all)) (all_more rs qs ks (All-tail (IsCopied rs) k ks all))

all_dropped : (P : Kept → Type 0) (ks : List Kept) → All P ks → All P (drop 1 ks)
all_dropped P [] all = all
all_dropped P (k ∷ ks) all = All-tail P k ks all

all_roomy : (P : Kept → Type 0) (ks : List Kept) → All P ks → All P (with_room ks)
all_roomy P ks all = by_test (ltb (length ks) 256)
  where
    by_test : (b : Bool) → All P (cond b ks (drop 1 ks))
    by_test true = all
    by_test false = all_dropped P ks all

pub all_kept : (P : Kept → Type 0) (k : Kept) (ks : List Kept) → P k → All P ks → All P (keep k ks)
all_kept P k ks one all =
    let others = filter (λ (o : Kept). not (tells_again k.told o.told)) ks in
    All-append P (with_room others) (k ∷ []) (all_roomy P others (All-filter (λ (o : Kept). not (tells_again k.told o.told)) P ks all)) (All-cons P k [] one (All-nil P))

copied_with : (rs : List DataRecord) (ds : History) (ks : List Kept) (r : DataRecord) → All (IsCopied rs) ks → All (IsCopied (rs ++ r ∷ [])) (kept_with ds ks r)
copied_with rs ds ks r all = by_kept (kept_of ds r) refl
  where
    old : All (IsCopied (rs ++ r ∷ [])) ks
    old = all_more rs (r ∷ []) ks all

    there : Contains (rs ++ r ∷ []) r
    there = Contains-append_right rs (r ∷ []) r (0, omega arith, refl)

    by_kept : (o : Option Kept) → kept_of ds r ≡ o → All (IsCopied (rs ++ r ∷ [])) (keep_some ks o)
    by_kept None is = old
    by_kept (Some k) is = all_kept (IsCopied (rs ++ r ∷ [])) k ks (copied_one (rs ++ r ∷ []) ds r k there (kept_is ds r k is)) old

copied_all : (rs : List DataRecord) (ds : History) (ks : List Kept) (qs : List DataRecord) → All (IsCopied rs) ks → All (IsCopied (rs ++ qs)) (fold (kept_with ds) ks qs)
copied_all rs ds ks [] all = subst (λ (ps : List DataRecord). All (IsCopied ps) ks) (sym (append-nil rs)) all
copied_all rs ds ks (q ∷ qs) all =
    subst (λ (ps : List DataRecord). All (IsCopied ps) (fold (kept_with ds) (kept_with ds ks q) qs)) (append_assoc rs (q ∷ []) qs) (copied_all (rs ++ q ∷ []) ds (kept_with ds ks q) qs (copied_with rs ds ks q all))

copied_from : (rs : List DataRecord) (ks : List Kept) (ms : List Message) → All (IsCopied rs) ks → All (IsCopied (rs ++ records_in ms)) (fold kept_then ks ms)
copied_from rs ks [] all = subst (λ (ps : List DataRecord). All (IsCopied ps) ks) (sym (append-nil rs)) all
copied_from rs ks (x ∷ xs) all =
    let one = copied_all rs x.domains ks x.decoding.records all in
    let here : records_in (x ∷ xs) ≡ x.decoding.records ++ records_in xs = refl in
    subst (λ (ps : List DataRecord). All (IsCopied ps) (fold kept_then (kept_then ks x) xs))
    (append_assoc rs x.decoding.records (records_in xs) ∙ ap (λ (ps : List DataRecord). rs ++ ps) (sym here)) (copied_from (rs ++ x.decoding.records) (kept_then ks x) xs one)

pub copied : (ms : List Message) → All (IsCopied (records_in ms)) (kept_after ms)
copied ms = copied_from [] [] ms (All-nil (IsCopied []))

-- ---- how they are read again

pub fields_are : (rs : List DataRecord) (k : Kept) (is : IsCopied rs k) → fields_in k.template.specs k.octets ≡ is.given.fields
fields_are rs k is = fields_in-read k.template.specs k.octets is.given.fields [] (spelled-read k.template.specs is.given.fields k.octets is.spelled)

abbrev record_with : ℕ → ℕ → ℕ → ℕ → List Field → DataRecord
record_with domain time template scope fields = record { domain = domain; export_time = time; template = template; scope = scope; fields = fields }

pub read_as_given : (rs : List DataRecord) (k : Kept) (time : ℕ) (is : IsCopied rs k) → read_again time k ≡ record is.given { export_time = time }
read_as_given rs k time is =
    let fields = fields_are rs k is in
    let d = is.domain in
    let t = is.template in
    let s = is.scope in
    ap (λ (fs : List Field). record_with k.domain time k.template.id k.template.scope fs) fields
    ∙ ap (λ (n : ℕ). record_with n time k.template.id k.template.scope is.given.fields) (sym d)
    ∙ ap (λ (n : ℕ). record_with is.given.domain time n k.template.scope is.given.fields) (sym t)
    ∙ ap (λ (n : ℕ). record_with is.given.domain time is.given.template n is.given.fields) (sym s)

-- ---- how many there are

few_roomy : (ks : List Kept) → length ks ≤ 256 → length (with_room ks) + 1 ≤ 256
few_roomy ks few = by_test (ltb (length ks) 256) refl
  where
    dropped : (qs : List Kept) → length qs ≤ 256 → length (drop 1 qs) + 1 ≤ 256
    dropped [] few = omega arith
    dropped (q ∷ qs) few = omega (arith, few)

    by_test : (b : Bool) → ltb (length ks) 256 ≡ b → length (cond b ks (drop 1 ks)) + 1 ≤ 256
    by_test true e = grind arith
    by_test false e = dropped ks few

pub length-filter_at_most : (p : Kept → Bool) (ks : List Kept) → length (filter p ks) ≤ length ks
length-filter_at_most p [] = omega arith
length-filter_at_most p (k ∷ ks) = by_test (p k) (length-filter_at_most p ks)
  where
    by_test : (b : Bool) → length (filter p ks) ≤ length ks → length (cond b (k ∷ filter p ks) (filter p ks)) ≤ length (k ∷ ks)
    by_test true le = omega arith
    by_test false le = omega arith

few_keep : (k : Kept) (ks : List Kept) → length ks ≤ 256 → length (keep k ks) ≤ 256
few_keep k ks few =
    let others = filter (λ (o : Kept). not (tells_again k.told o.told)) ks in
    let less = length-filter_at_most (λ (o : Kept). not (tells_again k.told o.told)) ks in
    omega (arith, length-append (with_room others) (k ∷ []), few_roomy others (omega (arith, few, less)))

few_some : (ks : List Kept) (o : Option Kept) → length ks ≤ 256 → length (keep_some ks o) ≤ 256
few_some ks None few = few
few_some ks (Some k) few = few_keep k ks few

few_with : (ds : History) (ks : List Kept) (rs : List DataRecord) → length ks ≤ 256 → length (fold (kept_with ds) ks rs) ≤ 256
few_with ds ks [] few = few
few_with ds ks (r ∷ rs) few = few_with ds (kept_with ds ks r) rs (few_some ks (kept_of ds r) few)

few_from : (ks : List Kept) (ms : List Message) → length ks ≤ 256 → length (fold kept_then ks ms) ≤ 256
few_from ks [] few = few
few_from ks (x ∷ xs) few = few_from (kept_then ks x) xs (few_with x.domains ks x.decoding.records few)

pub few_kept : (ms : List Message) → length (kept_after ms) ≤ 256
few_kept ms = few_from [] ms (omega arith)

pub few_written : (before : List Message) (h : Header) → length (written before h) ≤ 256
few_written before h = omega (arith, few_kept before, length-filter_at_most (is_written (known_after [] before) (number_in before h)) (kept_after before))
