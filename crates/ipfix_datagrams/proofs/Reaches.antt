-- The reach of a domain, message by message.
use Rattle.std.proofs.Common.{◌≡◌, ℕ, ◌+◌, Bool, cond, eqb, Option, Some, None, List, [], ◌∷◌, ◌++◌, map, refl, sym, ap, ◌∙◌, arith, inl, inr}
use Rattle.std.specs.Prelude.{◌≢◌, ◌⊎◌, sum_by}
use Rattle.std.proofs.lemmas.Bool.Decides.{eqb_tells}
use Rattle.std.proofs.lemmas.List.{append-nil}
use Rattle.std.proofs.lemmas.List.Sums.{sum_by_push}
use Rattle.std.specs.Map.{lookup}
use Rattle.std.specs.Option.{unwrap_or}
use Rattle.indexmap.specs.IndexMap.{insert_entry}
use Rattle.ipfix_message.specs.Domains.{Message}
use Rattle.ipfix_session.specs.Ledger.{capped, count_in, sequence_behind, messages_of, domains_of}
use Rattle.ipfix_session.proofs.Accounts.{Absent, table, table-insert, first_appearances_distinct, messages_of-push, domains_of-push, itself, apart, no_messages, capped-capped}
use Rattle.ipfix_datagrams.specs.declared.domain_advance.DomainAdvance.{DomainAdvance}
use Rattle.ipfix_datagrams.specs.declared.reach.Reach.{Reach}
use Rattle.ipfix_datagrams.specs.Advances.{forward, further, advance_from, furthest_from, domain_advance, advances_of}
use Rattle.ipfix_datagrams.specs.Reaches.{reach_of, reach_after, reaches_of, told_of}

-- ---- one more message of a domain

advance_from-push : (n : ℕ) (xs : List Message) (m : Message) → advance_from n (xs ++ m ∷ []) ≡ advance_from n xs + forward (furthest_from n xs) (sequence_behind m)
advance_from-push n [] m = omega arith
advance_from-push n (x ∷ xs) m = omega (arith, advance_from-push (further n (sequence_behind x)) xs m)

furthest_from-push : (n : ℕ) (xs : List Message) (m : Message) → furthest_from n (xs ++ m ∷ []) ≡ further (furthest_from n xs) (sequence_behind m)
furthest_from-push n [] m = refl
furthest_from-push n (x ∷ xs) m = furthest_from-push (further n (sequence_behind x)) xs m

abbrev reach : Option ℕ → ℕ → ℕ → Reach
reach furthest advance came = record { furthest = furthest; advance = advance; came = came }

reach-same : (o p : Option ℕ) (a b c d : ℕ) → o ≡ p → a ≡ b → c ≡ d → reach o a c ≡ reach p b d
reach-same o p a b c d i j k = rw (i, j, k) refl

some : ℕ → Option ℕ
some n = Some n

pub reach_of-push : (xs : List Message) (m : Message) → reach_of (xs ++ m ∷ []) ≡ reach_after (reach_of xs) m.header.sequence (count_in m)
reach_of-push [] m =
    reach-same _ _ _ _ _ _ refl (ap capped (omega arith)) (ap capped (sum_by_push count_in [] m))
reach_of-push (x ∷ xs) m =
    let n = x.header.sequence in
    let own = x ∷ xs in
    reach-same _ _ _ _ _ _ (ap (λ (k : ℕ). Some k) (furthest_from-push n own m))
    (capped-capped (advance_from n own) (forward (furthest_from n own) (sequence_behind m)) (advance_from n (own ++ m ∷ [])) (advance_from-push n own m))
    (capped-capped (sum_by count_in own) (count_in m) (sum_by count_in (own ++ m ∷ [])) (sum_by_push count_in own m))

-- ---- the domains

abbrev none : Option Reach
none = None

abbrev one : Reach → Option Reach
one r = Some r

lookup-table : (f : ℕ → Reach) (d : ℕ) (ks : List ℕ) → (Absent d ks × (lookup (eqb d) (table f ks) ≡ none)) ⊎ (lookup (eqb d) (table f ks) ≡ one (f d))
lookup-table f d [] = inl (tt, refl)
lookup-table f d (k ∷ ks) =
    elim (eqb_tells d k) [
      | inl here ↦ inr (rw here.0 (ap (λ (n : ℕ). one (f n)) (sym here.1)))
      | inr other ↦ elim (lookup-table f d ks) [
        | inl out ↦ inl ((λ e. other.1 (sym e), out.0), rw other.0 out.1)
        | inr at ↦ inr (rw other.0 at)
      ]
    ]

reach_at : (ms : List Message) (d : ℕ) → unwrap_or (lookup (eqb d) (reaches_of ms)) (reach_of []) ≡ reach_of (messages_of d ms)
reach_at ms d =
    elim (lookup-table (λ k. reach_of (messages_of k ms)) d (domains_of ms)) [
      | inl out ↦ ap (λ (o : Option Reach). unwrap_or o (reach_of [])) out.1 ∙ ap reach_of (sym (no_messages d ms out.0))
      | inr at ↦ ap (λ (o : Option Reach). unwrap_or o (reach_of [])) at
    ]

reaches_of-push : (ms : List Message) (m : Message)
    → insert_entry eqb (reaches_of ms) m.header.domain (reach_after (reach_of (messages_of m.header.domain ms)) m.header.sequence (count_in m)) ≡ reaches_of (ms ++ m ∷ [])
reaches_of-push ms m =
    let d = m.header.domain in
    let old : ℕ → Reach = λ k. reach_of (messages_of k ms) in
    let new : ℕ → Reach = λ k. reach_of (messages_of k (ms ++ m ∷ [])) in
    let here : messages_of d (ms ++ m ∷ []) ≡ messages_of d ms ++ m ∷ [] = messages_of-push d ms m ∙ ap (λ (b : Bool). messages_of d ms ++ cond b (m ∷ []) []) (itself d) in
    let at : reach_after (reach_of (messages_of d ms)) m.header.sequence (count_in m) ≡ new d = sym (reach_of-push (messages_of d ms) m) ∙ ap reach_of (sym here) in
    let others : (k : ℕ) → k ≢ d → old k ≡ new k = λ k ne. ap reach_of (sym (append-nil (messages_of k ms)) ∙ ap (λ (b : Bool). messages_of k ms ++ cond b (m ∷ []) []) (sym (apart d k (λ e. ne (sym e)))) ∙ sym (messages_of-push k ms m)) in
    ap (λ (r : Reach). insert_entry eqb (reaches_of ms) d r) at
    ∙ table-insert old new d (domains_of ms) (first_appearances_distinct (map (λ (n : Message). n.header.domain) ms)) others
    ∙ ap (λ (ks : List ℕ). table new ks) (sym (domains_of-push ms m))

-- what an insertion leaves, in the words of the code
pub noted : (entries news : List (ℕ × Reach)) (domain sequence records : ℕ) (before after : Reach) (ms : List Message) (m : Message) → entries ≡ reaches_of ms → m.header.domain ≡ domain → m.header.sequence ≡ sequence → count_in m ≡ records
    → before ≡ unwrap_or (lookup (eqb domain) entries) (reach_of []) → after ≡ reach_after before sequence records → news ≡ insert_entry eqb entries domain after → news ≡ reaches_of (ms ++ m ∷ [])
noted entries news domain sequence records before after ms m are is_domain is_sequence is_count is_before is_after is_news =
    let found : before ≡ reach_of (messages_of m.header.domain ms) =
    is_before ∙ ap (λ (es : List (ℕ × Reach)). unwrap_or (lookup (eqb domain) es) (reach_of [])) are
    ∙ ap (λ (d : ℕ). unwrap_or (lookup (eqb d) (reaches_of ms)) (reach_of [])) (sym is_domain) ∙ reach_at ms m.header.domain in
    let goes_on : after ≡ reach_after (reach_of (messages_of m.header.domain ms)) m.header.sequence (count_in m) =
    is_after ∙ after-same before (reach_of (messages_of m.header.domain ms)) sequence m.header.sequence records (count_in m) found (sym is_sequence) (sym is_count) in
    is_news ∙ ap (λ (es : List (ℕ × Reach)). insert_entry eqb es domain after) are
    ∙ ap (λ (d : ℕ). insert_entry eqb (reaches_of ms) d after) (sym is_domain)
    ∙ ap (λ (r : Reach). insert_entry eqb (reaches_of ms) m.header.domain r) goes_on
    ∙ reaches_of-push ms m
  where
    after-same : (a b : Reach) (c d e f : ℕ) → a ≡ b → c ≡ d → e ≡ f → reach_after a c e ≡ reach_after b d f
    after-same a b c d e f i j k = rw (i, j, k) refl

-- ---- what is told

told_of-table : (ms : List Message) (ks : List ℕ) → told_of (table (λ domain. reach_of (messages_of domain ms)) ks) ≡ map (domain_advance ms) ks
told_of-table ms [] = refl
told_of-table ms (k ∷ ks) = ap (λ (ds : List DomainAdvance). domain_advance ms k ∷ ds) (told_of-table ms ks)

-- the reaches tell the advances of the domains
pub told_of-reaches : (ms : List Message) → told_of (reaches_of ms) ≡ advances_of ms
told_of-reaches ms = told_of-table ms (domains_of ms)
