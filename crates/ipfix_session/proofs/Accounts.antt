-- The account of a domain, message by message.
use Rattle.std.proofs.Common.{◌≡◌, ℕ, ◌+◌, Bool, true, false, not, cond, eqb, Option, Some, None, List, [], ◌∷◌, ◌++◌, map, filter, refl, sym, ap, subst, ◌∙◌, arith, inl, inr}
use Rattle.std.specs.Prelude.{◌≢◌, ◌⊎◌, sum_by}
use Rattle.std.proofs.lemmas.Bool.Decides.{eqb_tells}
use Rattle.std.proofs.lemmas.List.Elements.{filter-append}
use Rattle.std.proofs.lemmas.List.{append-nil, map-append}
use Rattle.std.proofs.lemmas.List.Sums.{sum_by_push}
use Rattle.std.specs.Map.{lookup}
use Rattle.std.specs.Option.{unwrap_or}
use Rattle.indexmap.specs.IndexMap.{insert_entry}
use Rattle.ipfix_message.specs.Domains.{Message}
use Rattle.ipfix_message.specs.declared.passed_over.PassedOver.{PassedOver}
use Rattle.ipfix_session.specs.declared.report.DomainReport.{DomainReport}
use Rattle.ipfix_session.specs.declared.account.Account.{Account}
use Rattle.ipfix_session.specs.declared.report.DomainBalance.{DomainBalance}
use Rattle.ipfix_session.specs.Ledger.{capped, count_in, due_after, unsure_after, lost_at, backward_at, lost_between, backward_between, sum_neighbours, of_last, messages_of, first_appearances, domains_of, domain_report}
use Rattle.ipfix_session.specs.Accounts.{account_of, accounts_of, account_after, report_of, balance_of}
use Rattle.ipfix_session.specs.Balances.{unaccounted_between, late_between, domain_balance}
use Rattle.ipfix_session.specs.Reports.{passed_over_in}
use Rattle.ipfix_session.specs.Tallies.{added_up}

-- ---- one more message of a domain

pub neighbours-push : (f : Message → Message → ℕ) (after : Message → Option ℕ) (g : Option ℕ → ℕ → ℕ) → ((n : ℕ) → g None n ≡ 0) → ((m n : Message) → f m n ≡ g (after m) n.header.sequence)
    → (xs : List Message) (m : Message) → sum_neighbours f (xs ++ m ∷ []) ≡ sum_neighbours f xs + g (of_last after xs) m.header.sequence
neighbours-push f after g none is [] m = omega (arith, none m.header.sequence)
neighbours-push f after g none is (x ∷ []) m = omega (arith, is x m)
neighbours-push f after g none is (x ∷ y ∷ ys) m = omega (arith, neighbours-push f after g none is (y ∷ ys) m)

pub of_last-push : (after : Message → Option ℕ) (xs : List Message) (m : Message) → of_last after (xs ++ m ∷ []) ≡ after m
of_last-push after [] m = refl
of_last-push after (x ∷ []) m = refl
of_last-push after (x ∷ y ∷ ys) m = of_last-push after (y ∷ ys) m

abbrev account : ℕ → ℕ → ℕ → PassedOver → ℕ → ℕ → Option ℕ → Option ℕ → Account
account count lost backward passed_over unaccounted late due unsure =
    record { count = count; lost = lost; backward = backward; passed_over = passed_over; unaccounted = unaccounted; late = late; due = due; unsure = unsure }

account-same : (a b c d e f g h t u : ℕ) (x y : PassedOver) (p q r s : Option ℕ) → a ≡ e → b ≡ f → c ≡ g → x ≡ y → d ≡ h → t ≡ u → p ≡ q → r ≡ s → account a b c x d t p r ≡ account e f g y h u q s
account-same a b c d e f g h t u x y p q r s i j k l m v n o = rw (i, j, k, l, m, v, n, o) refl

pub capped-capped : (a b c : ℕ) → c ≡ a + b → capped c ≡ capped (capped a + b)
capped-capped a b c e = omega arith

abbrev passed : ℕ → ℕ → ℕ → PassedOver
passed skipped unknown ignored = record { skipped_sets = skipped; unknown_sets = unknown; ignored_withdrawals = ignored }

passed-same : (a b c d e f : ℕ) → a ≡ d → b ≡ e → c ≡ f → passed a b c ≡ passed d e f
passed-same a b c d e f h i j = rw (h, i, j) refl

passed-push : (xs : List Message) (m : Message) → passed_over_in (xs ++ m ∷ []) ≡ added_up (passed_over_in xs) m.decoding.passed_over
passed-push xs m =
    passed-same _ _ _ _ _ _ (one_more (λ n. n.decoding.passed_over.skipped_sets)) (one_more (λ n. n.decoding.passed_over.unknown_sets)) (one_more (λ n. n.decoding.passed_over.ignored_withdrawals))
  where
    one_more : (f : Message → ℕ) → capped (sum_by f (xs ++ m ∷ [])) ≡ capped (capped (sum_by f xs) + f m)
    one_more f = capped-capped (sum_by f xs) (f m) (sum_by f (xs ++ m ∷ [])) (sum_by_push f xs m)

pub account_of-push : (xs : List Message) (m : Message) → account_of (xs ++ m ∷ []) ≡ account_after (account_of xs) m.header.sequence (count_in m) m.decoding.passed_over (due_after m) (unsure_after m)
account_of-push xs m =
    account-same _ _ _ _ _ _ _ _ _ _ _ _ _ _ _ _
    (capped-capped (sum_by count_in xs) (count_in m) (sum_by count_in (xs ++ m ∷ [])) (sum_by_push count_in xs m))
    (capped-capped (sum_neighbours lost_between xs) (lost_at (of_last due_after xs) m.header.sequence) (sum_neighbours lost_between (xs ++ m ∷ [])) (neighbours-push lost_between due_after lost_at (λ n. refl) (λ a b. refl) xs m))
    (capped-capped (sum_neighbours backward_between xs) (backward_at (of_last due_after xs) m.header.sequence) (sum_neighbours backward_between (xs ++ m ∷ [])) (neighbours-push backward_between due_after backward_at (λ n. refl) (λ a b. refl) xs m))
    (passed-push xs m)
    (capped-capped (sum_neighbours unaccounted_between xs) (lost_at (of_last unsure_after xs) m.header.sequence) (sum_neighbours unaccounted_between (xs ++ m ∷ [])) (neighbours-push unaccounted_between unsure_after lost_at (λ n. refl) (λ a b. refl) xs m))
    (capped-capped (sum_neighbours late_between xs) (backward_at (of_last unsure_after xs) m.header.sequence) (sum_neighbours late_between (xs ++ m ∷ [])) (neighbours-push late_between unsure_after backward_at (λ n. refl) (λ a b. refl) xs m))
    (of_last-push due_after xs m)
    (of_last-push unsure_after xs m)

-- ---- the accounts of all domains

-- the key at the end, unless it is there
abbrev pub insert_key : List ℕ → ℕ → List ℕ
insert_key [] y = y ∷ []
insert_key (x ∷ xs) y = cond (eqb y x) (x ∷ xs) (x ∷ insert_key xs y)

-- a key that is none of these
abbrev pub Absent : ℕ → List ℕ → Type 0
Absent y [] = Unit {0}
Absent y (x ∷ xs) = (x ≢ y) × Absent y xs

abbrev pub Distinct : List ℕ → Type 0
Distinct [] = Unit {0}
Distinct (x ∷ xs) = Absent x xs × Distinct xs

abbrev without : ℕ → List ℕ → List ℕ
without x xs = filter (λ y. not (eqb y x)) xs

-- keys with their values
abbrev pub table : {V : Type 0} → (ℕ → V) → List ℕ → List (ℕ × V)
table f ks = map (λ k. (k, f k)) ks

same_apart : {V : Type 0} (f g : ℕ → V) (d : ℕ) (ks : List ℕ) → Absent d ks → ((k : ℕ) → k ≢ d → f k ≡ g k)
    → table f ks ≡ table g ks
same_apart f g d [] absent same = refl
same_apart {V} f g d (k ∷ ks) absent same =
    ap (λ (v : V). (k, v) ∷ table f ks) (same k absent.0)
    ∙ ap (λ (es : List (ℕ × V)). (k, g k) ∷ es) (same_apart f g d ks absent.1 same)

-- a table of values by key, where the value at one key changes or comes
pub table-insert : {V : Type 0} (f g : ℕ → V) (d : ℕ) (ks : List ℕ) → Distinct ks → ((k : ℕ) → k ≢ d → f k ≡ g k)
    → insert_entry eqb (table f ks) d (g d) ≡ table g (insert_key ks d)
table-insert f g d [] distinct same = refl
table-insert {V} f g d (k ∷ ks) distinct same =
    elim (eqb_tells d k) [
      | inl here ↦ rw here.0 (
          ap (λ (v : V). (k, v) ∷ table f ks) (ap g here.1)
          ∙ ap (λ (es : List (ℕ × V)). (k, g k) ∷ es) (same_apart f g d ks (subst (λ (n : ℕ). Absent n ks) (sym here.1) distinct.0) same))
      | inr other ↦ rw other.0 (
          ap (λ (v : V). (k, v) ∷ insert_entry eqb (table f ks) d (g d)) (same k (λ e. other.1 (sym e)))
          ∙ ap (λ (es : List (ℕ × V)). (k, g k) ∷ es) (table-insert f g d ks distinct.1 same))
    ]

absent_without : (y x : ℕ) (zs : List ℕ) → Absent y zs → Absent y (without x zs)
absent_without y x [] absent = tt
absent_without y x (z ∷ zs) absent = by_test (eqb z x) (absent_without y x zs absent.1)
  where
    by_test : (b : Bool) → Absent y (without x zs) → Absent y (cond (not b) (z ∷ without x zs) (without x zs))
    by_test true more = more
    by_test false more = (absent.0, more)

left_out : (x : ℕ) (zs : List ℕ) → Absent x (without x zs)
left_out x [] = tt
left_out x (z ∷ zs) =
    elim (eqb_tells z x) [
      | inl here ↦ rw here.0 (left_out x zs)
      | inr other ↦ rw other.0 (other.1, left_out x zs)
    ]

distinct_without : (x : ℕ) (zs : List ℕ) → Distinct zs → Distinct (without x zs)
distinct_without x [] distinct = tt
distinct_without x (z ∷ zs) distinct = by_test (eqb z x) (distinct_without x zs distinct.1)
  where
    by_test : (b : Bool) → Distinct (without x zs) → Distinct (cond (not b) (z ∷ without x zs) (without x zs))
    by_test true more = more
    by_test false more = (absent_without z x zs distinct.0, more)

pub first_appearances_distinct : (xs : List ℕ) → Distinct (first_appearances xs)
first_appearances_distinct [] = tt
first_appearances_distinct (x ∷ xs) = (left_out x (first_appearances xs), distinct_without x (first_appearances xs) (first_appearances_distinct xs))

-- leaving a key out before or after another came
without-insert_same : (x : ℕ) (zs : List ℕ) → without x (insert_key zs x) ≡ without x zs
without-insert_same x [] = rw (same x) refl
  where
    same : (n : ℕ) → eqb n n ≡ true
    same n = elim (eqb_tells n n) [ inl y ↦ y.0 | inr m ↦ absurd (m.1 refl) ]
without-insert_same x (z ∷ zs) =
    elim (eqb_tells x z) [
      | inl here ↦ rw here.0 refl
      | inr other ↦ rw other.0 (ap (λ (ks : List ℕ). cond (not (eqb z x)) (z ∷ ks) ks) (without-insert_same x zs))
    ]

without-insert_other : (x y : ℕ) (zs : List ℕ) → eqb y x ≡ false → without x (insert_key zs y) ≡ insert_key (without x zs) y
without-insert_other x y [] other = rw other refl
without-insert_other x y (z ∷ zs) other =
    elim (eqb_tells y z) [
      | inl here ↦
          let apart : eqb z x ≡ false = subst (λ (n : ℕ). eqb n x ≡ false) here.1 other in
          rw (here.0, apart, here.0) refl
      | inr differs ↦ rw differs.0 (by_test (eqb z x) differs.0 (without-insert_other x y zs other))
    ]
  where
    by_test : (b : Bool) → eqb y z ≡ false → without x (insert_key zs y) ≡ insert_key (without x zs) y
        → cond (not b) (z ∷ without x (insert_key zs y)) (without x (insert_key zs y)) ≡ insert_key (cond (not b) (z ∷ without x zs) (without x zs)) y
    by_test true e more = more
    by_test false e more = rw e (ap (λ (ks : List ℕ). z ∷ ks) more)

pub first_appearances-push : (xs : List ℕ) (y : ℕ) → first_appearances (xs ++ y ∷ []) ≡ insert_key (first_appearances xs) y
first_appearances-push [] y = refl
first_appearances-push (x ∷ xs) y =
    ap (λ (ks : List ℕ). x ∷ without x ks) (first_appearances-push xs y)
    ∙ elim (eqb_tells y x) [
      | inl here ↦ rw (here.0) (ap (λ (ks : List ℕ). x ∷ ks) (subst (λ (n : ℕ). without x (insert_key (first_appearances xs) n) ≡ without x (first_appearances xs)) (sym here.1) (without-insert_same x (first_appearances xs))))
      | inr other ↦ rw other.0 (ap (λ (ks : List ℕ). x ∷ ks) (without-insert_other x y (first_appearances xs) other.0))
    ]

-- ---- one more message

pub messages_of-push : (d : ℕ) (ms : List Message) (m : Message) → messages_of d (ms ++ m ∷ []) ≡ messages_of d ms ++ cond (eqb m.header.domain d) (m ∷ []) []
messages_of-push d ms m = filter-append (λ (n : Message). eqb n.header.domain d) ms (m ∷ [])

pub domains_of-push : (ms : List Message) (m : Message) → domains_of (ms ++ m ∷ []) ≡ insert_key (domains_of ms) m.header.domain
domains_of-push ms m =
    ap first_appearances (map-append (λ (n : Message). n.header.domain) ms (m ∷ []))
    ∙ first_appearances-push (map (λ (n : Message). n.header.domain) ms) m.header.domain

pub itself : (n : ℕ) → eqb n n ≡ true
itself n = elim (eqb_tells n n) [ inl y ↦ y.0 | inr m ↦ absurd (m.1 refl) ]

pub apart : (a b : ℕ) → a ≢ b → eqb a b ≡ false
apart a b ne = elim (eqb_tells a b) [ inl y ↦ absurd (ne y.1) | inr n ↦ n.0 ]

-- the accounts after one more message: its domain's account goes on, and the others stay
pub accounts_of-push : (ms : List Message) (m : Message)
    → insert_entry eqb (accounts_of ms) m.header.domain (account_after (account_of (messages_of m.header.domain ms)) m.header.sequence (count_in m) m.decoding.passed_over (due_after m) (unsure_after m)) ≡ accounts_of (ms ++ m ∷ [])
accounts_of-push ms m =
    let d = m.header.domain in
    let old : ℕ → Account = λ k. account_of (messages_of k ms) in
    let new : ℕ → Account = λ k. account_of (messages_of k (ms ++ m ∷ [])) in
    let here : messages_of d (ms ++ m ∷ []) ≡ messages_of d ms ++ m ∷ [] = messages_of-push d ms m ∙ ap (λ (b : Bool). messages_of d ms ++ cond b (m ∷ []) []) (itself d) in
    let at : account_after (account_of (messages_of d ms)) m.header.sequence (count_in m) m.decoding.passed_over (due_after m) (unsure_after m) ≡ new d = sym (account_of-push (messages_of d ms) m) ∙ ap account_of (sym here) in
    let others : (k : ℕ) → k ≢ d → old k ≡ new k = λ k ne. ap account_of (sym (append-nil (messages_of k ms)) ∙ ap (λ (b : Bool). messages_of k ms ++ cond b (m ∷ []) []) (sym (apart d k (λ e. ne (sym e)))) ∙ sym (messages_of-push k ms m)) in
    ap (λ (a : Account). insert_entry eqb (accounts_of ms) d a) at
    ∙ table-insert old new d (domains_of ms) (first_appearances_distinct (map (λ (n : Message). n.header.domain) ms)) others
    ∙ ap (λ (ks : List ℕ). table new ks) (sym (domains_of-push ms m))

absent_before : (y x : ℕ) (zs : List ℕ) → x ≢ y → Absent y (without x zs) → Absent y zs
absent_before y x [] ne absent = tt
absent_before y x (z ∷ zs) ne absent =
    elim (eqb_tells z x) [
      | inl here ↦ (subst (λ (n : ℕ). n ≢ y) (sym here.1) ne, absent_before y x zs ne (subst (λ (b : Bool). Absent y (cond (not b) (z ∷ without x zs) (without x zs))) here.0 absent))
      | inr other ↦
          let both = subst (λ (b : Bool). Absent y (cond (not b) (z ∷ without x zs) (without x zs))) other.0 absent in
          (both.0, absent_before y x zs ne both.1)
    ]

pub no_messages : (d : ℕ) (ms : List Message) → Absent d (domains_of ms) → messages_of d ms ≡ []
no_messages d [] absent = refl
no_messages d (m ∷ ms) absent =
    rw (apart m.header.domain d absent.0) (no_messages d ms (absent_before d m.header.domain (domains_of ms) absent.0 absent.1))

abbrev none : Option Account
none = None

abbrev some : Account → Option Account
some a = Some a

lookup-table : (f : ℕ → Account) (d : ℕ) (ks : List ℕ) → (Absent d ks × (lookup (eqb d) (table f ks) ≡ none)) ⊎ (lookup (eqb d) (table f ks) ≡ Some (f d))
lookup-table f d [] = inl (tt, refl)
lookup-table f d (k ∷ ks) =
    elim (eqb_tells d k) [
      | inl here ↦ inr (rw here.0 (ap (λ (n : ℕ). some (f n)) (sym here.1)))
      | inr other ↦ elim (lookup-table f d ks) [
        | inl out ↦ inl ((λ e. other.1 (sym e), out.0), rw other.0 out.1)
        | inr at ↦ inr (rw other.0 at)
      ]
    ]

-- the account at a domain is that of its messages, and a domain without one has no messages yet
pub account_at : (ms : List Message) (d : ℕ) → unwrap_or (lookup (eqb d) (accounts_of ms)) (account_of []) ≡ account_of (messages_of d ms)
account_at ms d =
    elim (lookup-table (λ k. account_of (messages_of k ms)) d (domains_of ms)) [
      | inl out ↦ ap (λ (o : Option Account). unwrap_or o (account_of [])) out.1 ∙ ap account_of (sym (no_messages d ms out.0))
      | inr at ↦ ap (λ (o : Option Account). unwrap_or o (account_of [])) at
    ]

-- what an insertion leaves, in the words of the code
pub taken : (entries news : List (ℕ × Account)) (domain sequence count : ℕ) (over : PassedOver) (due unsure : Option ℕ) (before after : Account) (ms : List Message) (m : Message)
    → entries ≡ accounts_of ms → domain ≡ m.header.domain → sequence ≡ m.header.sequence → count ≡ count_in m → over ≡ m.decoding.passed_over → due ≡ due_after m → unsure ≡ unsure_after m
    → before ≡ unwrap_or (lookup (eqb domain) entries) (account_of []) → after ≡ account_after before sequence count over due unsure
    → news ≡ insert_entry eqb entries domain after → news ≡ accounts_of (ms ++ m ∷ [])
taken entries news domain sequence count over due unsure before after ms m are is_domain is_sequence is_count is_over is_due is_unsure is_before is_after is_news =
    let found : before ≡ account_of (messages_of m.header.domain ms) =
    is_before ∙ ap (λ (es : List (ℕ × Account)). unwrap_or (lookup (eqb domain) es) (account_of [])) are
    ∙ ap (λ (d : ℕ). unwrap_or (lookup (eqb d) (accounts_of ms)) (account_of [])) is_domain ∙ account_at ms m.header.domain in
    let goes_on : after ≡ account_after (account_of (messages_of m.header.domain ms)) m.header.sequence (count_in m) m.decoding.passed_over (due_after m) (unsure_after m) =
    is_after ∙ after-same before (account_of (messages_of m.header.domain ms)) sequence m.header.sequence count (count_in m) over m.decoding.passed_over due (due_after m) unsure (unsure_after m) found is_sequence is_count is_over is_due is_unsure in
    is_news ∙ ap (λ (es : List (ℕ × Account)). insert_entry eqb es domain after) are
    ∙ ap (λ (d : ℕ). insert_entry eqb (accounts_of ms) d after) is_domain
    ∙ ap (λ (a : Account). insert_entry eqb (accounts_of ms) m.header.domain a) goes_on
    ∙ accounts_of-push ms m
  where
    after-same : (a b : Account) (c d e f : ℕ) (x y : PassedOver) (p q r s : Option ℕ) → a ≡ b → c ≡ d → e ≡ f → x ≡ y → p ≡ q → r ≡ s → account_after a c e x p r ≡ account_after b d f y q s
    after-same a b c d e f x y p q r s i j k l m n = rw (i, j, k, l, m, n) refl

-- ---- reports

reports_of-table : (ms : List Message) (ks : List ℕ) → map report_of (table (λ domain. account_of (messages_of domain ms)) ks) ≡ map (domain_report ms) ks
reports_of-table ms [] = refl
reports_of-table ms (k ∷ ks) = ap (λ (rs : List DomainReport). domain_report ms k ∷ rs) (reports_of-table ms ks)

-- the accounts make the reports of the domains
pub reports_of-accounts : (ms : List Message) → map report_of (accounts_of ms) ≡ map (domain_report ms) (domains_of ms)
reports_of-accounts ms = reports_of-table ms (domains_of ms)

balances_of-table : (ms : List Message) (ks : List ℕ) → map balance_of (table (λ domain. account_of (messages_of domain ms)) ks) ≡ map (domain_balance ms) ks
balances_of-table ms [] = refl
balances_of-table ms (k ∷ ks) = ap (λ (bs : List DomainBalance). domain_balance ms k ∷ bs) (balances_of-table ms ks)

-- and their balances
pub balances_of-accounts : (ms : List Message) → map balance_of (accounts_of ms) ≡ map (domain_balance ms) (domains_of ms)
balances_of-accounts ms = balances_of-table ms (domains_of ms)
