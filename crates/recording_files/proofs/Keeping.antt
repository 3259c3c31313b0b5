-- A recorder after one more message.
use Rattle.std.proofs.Common.{◌≡◌, ℕ, ◌<◌, arith, Bool, true, false, cond, eqb, is_some, List, [], ◌∷◌, ◌++◌, length, Option, Some, None, Result, Ok, refl, sym, ap, subst, ◌∙◌, append_assoc, inl, inr}
use Rattle.std.specs.Prelude.{◌||◌, ◌≢◌, ◌↔◌, not, IsTrue, MatchBool}
use Rattle.std.specs.Map.{lookup}
use Rattle.std.proofs.lemmas.Bool.Decides.{eqb_tells}
use Rattle.std.proofs.lemmas.List.{append-nil}
use Rattle.std.proofs.lemmas.List.Sums.{fold-append}
use Rattle.indexmap.specs.IndexMap.{insert_entry}
use Rattle.ipfix_wire.specs.declared.header.Header.{Header}
use Rattle.ipfix_message.specs.Domains.{Message, StandsFor, message_header}
use Rattle.ipfix_message.specs.TemplateLimits.{IsWithin}
use Rattle.ipfix_message.specs.declared.fault.MessageFault.{MessageFault}
use Rattle.ipfix_session.specs.Given.{known_after}
use Rattle.ipfix_session.specs.Ledger.{count_in, due_after, messages_of, due_of}
use Rattle.recording_files.specs.KeptOptions.{Kept, kept_after, kept_then}
use Rattle.recording_files.specs.Recordings.{has}
use Rattle.recording_files.specs.Recorders.{State, KeepsWithin, due_for}
use Rattle.ipfix_session.proofs.Chains.{known-append}
use Rattle.recording_files.proofs.Beside.{has-push}
use Rattle.ipfix_session.proofs.Accounts.{of_last-push}
use Rattle.ipfix_session.proofs.Ledgers.{own_one, own_other, own-append}
use Rattle.recording_files.proofs.Ledgers.{eqb-sym}

lookup-insert : {V : Type 0} (es : List (ℕ × V)) (k : ℕ) (v : V) (d : ℕ) → lookup (eqb d) (insert_entry eqb es k v) ≡ cond (eqb d k) (Some v) (lookup (eqb d) es)
lookup-insert [] k v d = refl
lookup-insert {V} (e ∷ es) k v d =
    elim (eqb_tells k e.0) [
      | inl here ↦ rw here.0 (at_key (eqb d e.0) (eqb d k) (ap (eqb d) (sym here.1)))
      | inr other ↦ rw other.0 (elim (eqb_tells d e.0) [
        | inl same ↦ rw (same.0) (ap (λ (b : Bool). cond b (Some v) (Some e.1)) (sym (apart same.1 other.1)))
        | inr not_same ↦ rw not_same.0 (lookup-insert es k v d)
      ])
    ]
  where
    at_key : (a b : Bool) → a ≡ b → cond a (Some v) (lookup (eqb d) es) ≡ cond b (Some v) (cond a (Some e.1) (lookup (eqb d) es))
    at_key true true h = refl
    at_key false false h = refl
    at_key true false h = absurd cc
    at_key false true h = absurd cc

    apart : d ≡ e.0 → (k ≡ e.0 → ⊥) → eqb d k ≡ false
    apart p q = elim (eqb_tells d k) [ inl y ↦ absurd (q (sym y.1 ∙ p)) | inr n ↦ n.0 ]

-- what is due in each domain, after one more message
due_more : (all : List Message) (x : Message) (d : ℕ) (o : Option (Option ℕ)) → o ≡ cond (has all d) (Some (due_of (messages_of d all))) None
    → cond (eqb d x.header.domain) (Some (due_after x)) o ≡ cond (has (all ++ x ∷ []) d) (Some (due_of (messages_of d (all ++ x ∷ [])))) None
due_more all x d o is = rw (has-push all x d) (by_test (eqb d x.header.domain) refl)
  where
    own_in : eqb d x.header.domain ≡ true → due_of (messages_of d (all ++ x ∷ [])) ≡ due_after x
    own_in e =
        ap due_of (own-append d all (x ∷ []) ∙ ap (λ (k : List Message). messages_of d all ++ k) (own_one d x [] (eqb-sym x.header.domain d ∙ e))) ∙ of_last-push due_after (messages_of d all) x

    own_out : eqb d x.header.domain ≡ false → messages_of d (all ++ x ∷ []) ≡ messages_of d all
    own_out e = own-append d all (x ∷ []) ∙ ap (λ (k : List Message). messages_of d all ++ k) (own_other d x [] (eqb-sym x.header.domain d ∙ e)) ∙ append-nil (messages_of d all)

    right : (b : Bool) → (b || true) ≡ true
    right true = refl
    right false = refl

    left : (b : Bool) → (b || false) ≡ b
    left true = refl
    left false = refl

    by_test : (b : Bool) → eqb d x.header.domain ≡ b → cond b (Some (due_after x)) o ≡ cond (has all d || b) (Some (due_of (messages_of d (all ++ x ∷ [])))) None
    by_test true e = rw (right (has all d)) (ap (λ (p : Option ℕ). Some p) (sym (own_in e)))
    by_test false e = rw (left (has all d), own_out e) is

pub keeps_on : (limit : Option ℕ) (s t : State) (before here : List Message) (x : Message) (h : Header) (records unknown : ℕ) → KeepsWithin limit s before here → t.domains.spent ≡ false → StandsFor t.domains.domains x.domains → t.limit ≡ s.limit
    → IsWithin limit x.domains
    → h ≡ x.header → records ≡ count_in x → unknown ≡ x.decoding.passed_over.unknown_sets
    → t.due ≡ insert_entry eqb s.due h.domain (due_for h records unknown) → t.here ≡ insert_entry eqb s.here h.domain true → t.kept ≡ kept_then s.kept x → KeepsWithin limit t before (here ++ x ∷ [])
keeps_on limit s t before here x h records unknown keeps fresh stands same_limit fits is_header is_records is_unknown is_due is_here is_kept =
    let now : known_after [] (before ++ (here ++ x ∷ [])) ≡ x.domains = ap (known_after []) (sym (append_assoc before here (x ∷ []))) ∙ known-append [] (before ++ here) (x ∷ []) in
    let due : due_for h records unknown ≡ due_after x = rw (is_header, is_records, is_unknown) refl in
    let where_to : insert_entry eqb s.due h.domain (due_for h records unknown) ≡ insert_entry eqb s.due x.header.domain (due_after x) =
    ap (insert_entry eqb s.due h.domain) due ∙ ap (λ (k : Header). insert_entry eqb s.due k.domain (due_after x)) is_header in
    record {
      not_spent = fresh;
      known = rw now stands;
      has_limit = same_limit ∙ keeps.has_limit;
      within = subst (IsWithin limit) (sym now) fits;
      due = λ d.
          ap (lookup (eqb d)) (is_due ∙ where_to) ∙ lookup-insert s.due x.header.domain (due_after x) d ∙ due_more (before ++ here) x d (lookup (eqb d) s.due) (keeps.due d)
          ∙ ap (λ (ms : List Message). cond (has ms d) (Some (due_of (messages_of d ms))) None) (append_assoc before here (x ∷ []));
      in_file = λ d.
          ap (λ (es : List (ℕ × Bool)). is_some (lookup (eqb d) es)) (is_here ∙ ap (λ (k : Header). insert_entry eqb s.here k.domain true) is_header)
          ∙ ap is_some (lookup-insert s.here x.header.domain true d) ∙ there (eqb d x.header.domain) (lookup (eqb d) s.here) (has here d) (keeps.in_file d) ∙ sym (has-push here x d);
      kept = is_kept ∙ ap (λ (ks : List Kept). kept_then ks x) keeps.kept ∙ sym (fold-append kept_then [] (before ++ here) (x ∷ [])) ∙ ap kept_after (append_assoc before here (x ∷ []));
    }
  where
    there : (b : Bool) (o : Option Bool) (a : Bool) → is_some o ≡ a → is_some (cond b (Some true) o) ≡ (a || b)
    there true o true e = refl
    there true o false e = refl
    there false o true e = e
    there false o false e = e

abbrev read_as : Result Header MessageFault → Result Header MessageFault
read_as r = r

-- nothing counts nothing
pub none_fit : (limit : Option ℕ) → IsWithin limit []
none_fit None = tt
none_fit (Some n) = omega arith

-- a message's header is the one that is read
pub one_header : (m : List ℕ) (h k : Header) → message_header m ≡ Ok h → message_header m ≡ Ok k → h ≡ k
one_header m h k one other = let both : read_as (Ok h) ≡ read_as (Ok k) = sym one ∙ other in cc

-- a file that has a domain has a message
has_begun : {limit : Option ℕ} (s : State) (before here : List Message) → KeepsWithin limit s before here → 0 < length s.here → here ≡ [] → ⊥
has_begun s before here keeps some none = by_cases s.here keeps.in_file some
  where
    found : (d : ℕ) (b : Bool) (es : List (ℕ × Bool)) → is_some (lookup (eqb d) ((d, b) ∷ es)) ≡ true
    found d b es = elim (eqb_tells d d) [ inl y ↦ rw y.0 refl | inr n ↦ absurd (n.1 refl) ]

    by_cases : (es : List (ℕ × Bool)) → ((d : ℕ) → is_some (lookup (eqb d) es) ≡ has here d) → 0 < length es → ⊥
    by_cases [] in_file some = omega (arith, some)
    by_cases (e ∷ es) in_file some =
        let yes : true ≡ false = sym (found e.0 e.1 es) ∙ in_file e.0 ∙ ap (λ (ms : List Message). has ms e.0) none in
        absurd cc

none_begun : {limit : Option ℕ} (s : State) (before here : List Message) → KeepsWithin limit s before here → length s.here ≡ 0 → here ≡ []
none_begun s before [] keeps none = refl
none_begun s before (x ∷ xs) keeps none = absurd (by_cases s.here (keeps.in_file x.header.domain) none)
  where
    there : has (x ∷ xs) x.header.domain ≡ true
    there = elim (eqb_tells x.header.domain x.header.domain) [ inl y ↦ rw y.0 refl | inr n ↦ absurd (n.1 refl) ]

    by_cases : (es : List (ℕ × Bool)) → is_some (lookup (eqb x.header.domain) es) ≡ has (x ∷ xs) x.header.domain → length es ≡ 0 → ⊥
    by_cases [] in_file none = let no : false ≡ true = in_file ∙ there in absurd cc
    by_cases (e ∷ es) in_file none = omega (arith, none)

-- whether a file has a message
pub begun : {limit : Option ℕ} (s : State) (before here : List Message) (b : Bool) → KeepsWithin limit s before here → IsTrue b ↔ (length s.here ≡ 0) → MatchBool (not b) (here ≢ []) (here ≡ [])
begun s before here true keeps is = none_begun s before here keeps (is.0 refl)
begun s before here false keeps is = has_begun s before here keeps (omega (arith, some))
  where
    some : length s.here ≡ 0 → ⊥
    some empty = let no : false ≡ true = is.1 empty in absurd cc
