-- The head of a file is written, record by record.
use Rattle.std.proofs.Common.{◌≡◌, ℕ, ◌+◌, Bool, true, false, cond, eqb, List, [], ◌∷◌, ◌++◌, length, filter, Option, Some, None, refl, sym, ap, ap₂, subst, ◌∙◌, append_assoc, arith}
use Rattle.std.specs.Prelude.{All, Err, Ok, OnOk, Result, not}
use Rattle.std.specs.Bool.{Decides}
use Rattle.std.specs.Result.{is_ok}
use Rattle.std.proofs.lemmas.List.{append-nil, length-append}
use Rattle.std.proofs.lemmas.List.Elements.{All-cons, All-nil, filter-append}
use Rattle.ipfix_wire.specs.MessageHeader.{header_octets}
use Rattle.ipfix_wire.specs.SetHeader.{set_octets}
use Rattle.ipfix_wire.specs.declared.header.Header.{Header}
use Rattle.ipfix_message.specs.Domains.{History, template_for}
use Rattle.ipfix_message.specs.TemplatesInForce.{same_template}
use Rattle.ipfix_message.specs.declared.record.Template.{Template}
use Rattle.ipfix_message.specs.declared.stamp.Stamp.{Stamp}
use Rattle.ipfix_message.proofs.Same.{is_same_template}
use Rattle.ipfix_session.specs.Given.{octets_of}
use Rattle.ipfix_session.proofs.MessagesTaken.{octets-append}
use Rattle.recording_files.specs.Heads.{AppendsFirst, AppendsHead, AppendsIf, CanBeWritten, count_in, head_messages, is_now, is_written, options_set, stamp_of, two_messages}
use Rattle.recording_files.specs.KeptOptions.{Kept, keep, tells_again, with_room}
use Rattle.recording_files.specs.Preambles.{stamped, templates_message}

pub none_left : {X : Type 0} (xs : List X) → length xs ≡ 0 → xs ≡ []
none_left [] none = refl
none_left (x ∷ xs) none = absurd (omega (arith, none))

-- ---- two messages

regroup : (o t h s x : List ℕ) → (((o ++ t) ++ h) ++ s) ++ x ≡ o ++ (t ++ ((h ++ (s ++ x)) ++ []))
regroup o t h s x =
    append_assoc ((o ++ t) ++ h) s x ∙ append_assoc (o ++ t) h (s ++ x) ∙ append_assoc o t (h ++ (s ++ x))
    ∙ ap (λ (w : List ℕ). o ++ (t ++ w)) (sym (append-nil (h ++ (s ++ x))))

abbrev with_length : Stamp → ℕ → Header
with_length s n = record { length = n; export_time = s.export_time; sequence = s.sequence; domain = s.domain }

pub options_written : (s : Stamp) (k : Kept) (t : Template) (w : List ℕ) (n len : ℕ) (out a b d new : List ℕ) → t ≡ k.template → w ≡ k.octets → a ≡ out ++ templates_message s (t ∷ []) → b ≡ a ++ header_octets (with_length s n)
    → d ≡ b ++ set_octets t.id len → new ≡ d ++ w → len ≡ length w → n ≡ 20 + len → new ≡ out ++ octets_of (two_messages s k)
options_written s k t w n len out a b d new same octets is_a is_b is_d is_new is_len is_n =
    let count : len ≡ length k.octets = is_len ∙ ap (λ (v : List ℕ). length v) octets in
    let whole : n ≡ 16 + length (options_set k) = omega (arith, is_n, count, length-append (set_octets k.template.id (length k.octets)) k.octets) in
    let set : set_octets t.id len ≡ set_octets k.template.id (length k.octets) = ap₂ (λ (u : Template) (m : ℕ). set_octets u.id m) same count in
    let lead : a ≡ out ++ templates_message s (k.template ∷ []) = is_a ∙ ap (λ (u : Template). out ++ templates_message s (u ∷ [])) same in
    let header : b ≡ (out ++ templates_message s (k.template ∷ [])) ++ header_octets (stamped s (length (options_set k))) =
    is_b ∙ ap₂ (λ (v : List ℕ) (m : ℕ). v ++ header_octets (with_length s m)) lead whole in
    is_new
    ∙ ap₂ (λ (v u : List ℕ). v ++ u) (is_d ∙ ap₂ (λ (v u : List ℕ). v ++ u) header set) octets
    ∙ regroup out (templates_message s (k.template ∷ [])) (header_octets (stamped s (length (options_set k)))) (set_octets k.template.id (length k.octets)) k.octets

pub if_appended : {A E P : Type 0} (r : Result A E) (old w new : List ℕ) → new ≡ cond (is_ok r) (old ++ w) old → (new ≡ old ++ w → P) → OnOk r P
if_appended (Ok x) old w new is f = f is
if_appended (Err e) old w new is f = tt

-- ---- which are written

pub force_tells : (ds : History) (t u : Template) (k : Kept) (domain : ℕ) (r : Bool) → Decides r (t ≡ u) → t ≡ k.template → domain ≡ k.domain → template_for ds domain t.id ≡ Some u
    → r ≡ is_now k.template (template_for ds k.domain k.template.id)
force_tells ds t u k domain r tells same own force =
    let here : template_for ds k.domain k.template.id ≡ Some u = sym (ap₂ (λ (n : ℕ) (x : Template). template_for ds n x.id) own same) ∙ force in
    is_same_template r t u tells ∙ ap (λ (x : Template). same_template x u) same ∙ sym (ap (is_now k.template) here)

pub kept_last : (k : Kept) (old others roomy new : List Kept) → others ≡ filter (λ o. not (tells_again k.told o.told)) old → roomy ≡ with_room others → new ≡ roomy ++ k ∷ [] → new ≡ keep k old
kept_last k old others roomy new a b c = c ∙ ap (λ (ks : List Kept). ks ++ k ∷ []) (b ∙ ap with_room a)

module _ (ds : History) (number : ℕ → Option ℕ) (time : ℕ) where
  abbrev pub written_of : List Kept → List Kept
  written_of ks = filter (is_written ds number) ks

  -- those that are left are still to be appended
  pub record HeadSoFar (all left : List Kept) (old new : List ℕ) : Type 0 where
    pub octets : new ++ octets_of (head_messages time number (written_of left)) ≡ old ++ octets_of (head_messages time number (written_of all))
    pub writable : All CanBeWritten (written_of left) → All CanBeWritten (written_of all)

  pub head_begins : (all : List Kept) (old : List ℕ) → HeadSoFar all all old old
  head_begins all old = record { octets = refl; writable = λ h. h }

  abbrev with_first : Kept → List Kept → Bool → List Kept
  with_first k others b = cond b (k ∷ written_of others) (written_of others)

  abbrev stamp : Kept → List Kept → Bool → Option Stamp
  stamp k others b = cond b (Some (stamp_of time number k (written_of others))) None

  pub head_goes_on : (all left others : List Kept) (k : Kept) (old out new : List ℕ) → left ≡ k ∷ others → HeadSoFar all left old out → AppendsFirst ds number time k others out new → HeadSoFar all others old new
  head_goes_on all left others k old out new is so_far appends = by_test (is_written ds number k) refl (rw is at so_far) appends
    where
      regrouped : (s : Stamp) → new ≡ out ++ octets_of (two_messages s k) → new ++ octets_of (head_messages time number (written_of others)) ≡ out ++ octets_of (two_messages s k ++ head_messages time number (written_of others))
      regrouped s more =
          ap (λ (w : List ℕ). w ++ octets_of (head_messages time number (written_of others))) more
          ∙ append_assoc out (octets_of (two_messages s k)) (octets_of (head_messages time number (written_of others)))
          ∙ ap (λ (w : List ℕ). out ++ w) (sym (octets-append (two_messages s k) (head_messages time number (written_of others))))

      by_test : (b : Bool) → is_written ds number k ≡ b → HeadSoFar all (k ∷ others) old out → AppendsIf k (stamp k others (is_written ds number k)) out new → HeadSoFar all others old new
      by_test true e far more =
          let here : AppendsIf k (Some (stamp_of time number k (written_of others))) out new = subst (λ (b : Bool). AppendsIf k (stamp k others b) out new) e more in
          let octets : out ++ octets_of (head_messages time number (with_first k others true)) ≡ old ++ octets_of (head_messages time number (written_of all)) =
          subst (λ (b : Bool). out ++ octets_of (head_messages time number (with_first k others b)) ≡ old ++ octets_of (head_messages time number (written_of all))) e far.octets in
          let writable : All CanBeWritten (with_first k others true) → All CanBeWritten (written_of all) = subst (λ (b : Bool). All CanBeWritten (with_first k others b) → All CanBeWritten (written_of all)) e far.writable in
          record {
            octets = regrouped (stamp_of time number k (written_of others)) here.0 ∙ octets;
            writable = λ rest. writable (All-cons CanBeWritten k (written_of others) here.1 rest);
          }
      by_test false e far more =
          let here : new ≡ out = subst (λ (b : Bool). AppendsIf k (stamp k others b) out new) e more in
          let octets : out ++ octets_of (head_messages time number (with_first k others false)) ≡ old ++ octets_of (head_messages time number (written_of all)) =
          subst (λ (b : Bool). out ++ octets_of (head_messages time number (with_first k others b)) ≡ old ++ octets_of (head_messages time number (written_of all))) e far.octets in
          record {
            octets = ap (λ (w : List ℕ). w ++ octets_of (head_messages time number (written_of others))) here ∙ octets;
            writable = subst (λ (b : Bool). All CanBeWritten (with_first k others b) → All CanBeWritten (written_of all)) e far.writable;
          }

  pub head_ends : (all left : List Kept) (old new : List ℕ) → length left ≡ 0 → HeadSoFar all left old new → AppendsHead ds number time all old new
  head_ends all [] old new none so_far = record { octets = sym (append-nil new) ∙ so_far.octets; writable = so_far.writable (All-nil CanBeWritten) }
  head_ends all (k ∷ ks) old new none so_far = absurd (omega (arith, none))

  -- ---- how many there are

  counted_first : (domain : ℕ) (k : Kept) (others : List Kept) → count_in domain (written_of (k ∷ others)) ≡ count_in domain (written_of (k ∷ [])) + count_in domain (written_of others)
  counted_first domain k others =
      let of_domain : Kept → Bool = λ (j : Kept). eqb j.domain domain in
      let parts : written_of (k ∷ others) ≡ written_of (k ∷ []) ++ written_of others = filter-append (is_written ds number) (k ∷ []) others in
      ap (λ (ks : List Kept). length (filter of_domain ks)) parts
      ∙ ap (λ (ks : List Kept). length ks) (filter-append of_domain (written_of (k ∷ [])) (written_of others))
      ∙ length-append (filter of_domain (written_of (k ∷ []))) (filter of_domain (written_of others))

  pub counts_on : (domain : ℕ) (left others : List Kept) (k : Kept) (count one whole : ℕ) → left ≡ k ∷ others → one ≡ count_in domain (written_of (k ∷ [])) → count + count_in domain (written_of left) ≡ whole
      → count + one + count_in domain (written_of others) ≡ whole
  counts_on domain left others k count one whole split is so_far =
      let first : count_in domain (written_of left) ≡ count_in domain (written_of (k ∷ [])) + count_in domain (written_of others) = ap (λ (ks : List Kept). count_in domain (written_of ks)) split ∙ counted_first domain k others in
      omega (arith, is, so_far, first)

  pub counts_end : (domain : ℕ) (left : List Kept) (count whole : ℕ) → length left ≡ 0 → count + count_in domain (written_of left) ≡ whole → count ≡ whole
  counts_end domain [] count whole none so_far = omega (arith, so_far)
  counts_end domain (k ∷ ks) count whole none so_far = absurd (omega (arith, none))
