-- The report of a file, message by message.
use Rattle.std.proofs.Common.{◌≡◌, ℕ, ◌+◌, ◌≤◌, Bool, cond, Option, List, [], ◌∷◌, ◌++◌, length, map, refl, sym, ap, ap₂, subst, ◌∙◌, append_assoc, arith, inl, inr}
use Rattle.std.specs.Prelude.{◌≢◌, None, sum_by}
use Rattle.std.proofs.lemmas.Bool.Decides.{eqb_tells}
use Rattle.std.proofs.lemmas.List.{append-nil, length-append}
use Rattle.std.proofs.lemmas.List.Sums.{sum_by_push, sum_by-cons}
use Rattle.ipfix_message.specs.Domains.{Message}
use Rattle.ipfix_wire.specs.declared.header.Header.{Header}
use Rattle.ipfix_message.specs.declared.passed_over.PassedOver.{PassedOver}
use Rattle.ipfix_session.specs.declared.account.Account.{Account}
use Rattle.ipfix_session.specs.Ledger.{capped, count_in, due_after, unsure_after, lost_at, backward_at, lost_between, backward_between, sum_neighbours, of_last, messages_of, domains_of}
use Rattle.ipfix_session.specs.Balances.{unaccounted_between}
use Rattle.ipfix_session.specs.Accounts.{account_of}
use Rattle.ipfix_session.proofs.Accounts.{Absent, Distinct, insert_key, neighbours-push, capped-capped, messages_of-push, domains_of-push, no_messages, first_appearances_distinct, itself, apart}
use Rattle.recording_files.specs.declared.file_report.FileReport.{FileReport}
use Rattle.recording_files.specs.declared.message_count.MessageCount.{MessageCount}
use Rattle.recording_files.specs.FileReports.{in_ledger, in_ledger_from, file_report}
use Rattle.recording_files.specs.Recorders.{IsCountOf}
use Rattle.recording_files.specs.Counting.{file_after}

-- ---- sums over keys

same_sum : (f g : ℕ → ℕ) (d : ℕ) (ks : List ℕ) → Absent d ks → ((k : ℕ) → k ≢ d → f k ≡ g k) → sum_by g ks ≡ sum_by f ks
same_sum f g d [] absent same = refl
same_sum f g d (k ∷ ks) absent same = omega (arith, sum_by-cons g k ks, sum_by-cons f k ks, same k absent.0, same_sum f g d ks absent.1 same)

-- it grows by n at one key, which may be new
sum_insert : (f g : ℕ → ℕ) (d n : ℕ) (ks : List ℕ) → Distinct ks → ((k : ℕ) → k ≢ d → f k ≡ g k) → g d ≡ f d + n → (Absent d ks → f d ≡ 0) → sum_by g (insert_key ks d) ≡ sum_by f ks + n
sum_insert f g d n [] distinct same here new = omega (arith, sum_by-cons g d [], here, new tt)
sum_insert f g d n (k ∷ ks) distinct same here new =
    elim (eqb_tells d k) [
      | inl is ↦
          let others = same_sum f g d ks (subst (λ (m : ℕ). Absent m ks) (sym is.1) distinct.0) same in
          rw is.0 (omega (arith, sum_by-cons g k ks, sum_by-cons f k ks, ap g is.1, ap f is.1, here, others))
      | inr other ↦
          let ne : k ≢ d = λ e. other.1 (sym e) in
          let more = sum_insert f g d n ks distinct.1 same here (λ absent. new (ne, absent)) in
          rw other.0 (omega (arith, sum_by-cons g k (insert_key ks d), sum_by-cons f k ks, same k ne, more))
    ]

-- ---- a ledger that goes on

module _ (f : Message → Message → ℕ) (after : Message → Option ℕ) (g : Option ℕ → ℕ → ℕ) (none : (n : ℕ) → g None n ≡ 0) (is : (m n : Message) → f m n ≡ g (after m) n.header.sequence) where
  -- what a message adds to the ledger of those before it
  abbrev adds : List Message → Message → ℕ
  adds ms m = g (of_last after (messages_of m.header.domain ms)) m.header.sequence

  own_here : (ms : List Message) (m : Message) → messages_of m.header.domain (ms ++ m ∷ []) ≡ messages_of m.header.domain ms ++ m ∷ []
  own_here ms m = messages_of-push m.header.domain ms m ∙ ap (λ (b : Bool). messages_of m.header.domain ms ++ cond b (m ∷ []) []) (itself m.header.domain)

  own_apart : (k : ℕ) (ms : List Message) (m : Message) → k ≢ m.header.domain → messages_of k ms ≡ messages_of k (ms ++ m ∷ [])
  own_apart k ms m ne =
      sym (append-nil (messages_of k ms)) ∙ ap (λ (b : Bool). messages_of k ms ++ cond b (m ∷ []) []) (sym (apart m.header.domain k (λ e. ne (sym e)))) ∙ sym (messages_of-push k ms m)

  pub in_ledger-push : (ms : List Message) (m : Message) → in_ledger f (ms ++ m ∷ []) ≡ in_ledger f ms + adds ms m
  in_ledger-push ms m =
      let d = m.header.domain in
      let old : ℕ → ℕ = λ k. sum_neighbours f (messages_of k ms) in
      let new : ℕ → ℕ = λ k. sum_neighbours f (messages_of k (ms ++ m ∷ [])) in
      let here : new d ≡ old d + adds ms m = ap (sum_neighbours f) (own_here ms m) ∙ neighbours-push f after g none is (messages_of d ms) m in
      ap (sum_by new) (domains_of-push ms m)
      ∙ sum_insert old new d (adds ms m) (domains_of ms) (first_appearances_distinct (map (λ (n : Message). n.header.domain) ms)) (λ k ne. ap (sum_neighbours f) (own_apart k ms m ne)) here
      (λ absent. ap (sum_neighbours f) (no_messages d ms absent))

  pub in_ledger-grows : (ms more : List Message) → in_ledger f ms ≤ in_ledger f (ms ++ more)
  in_ledger-grows ms [] = let same : in_ledger f (ms ++ []) ≡ in_ledger f ms = ap (in_ledger f) (append-nil ms) in omega (arith, same)
  in_ledger-grows ms (m ∷ more) =
      let same : in_ledger f ((ms ++ m ∷ []) ++ more) ≡ in_ledger f (ms ++ m ∷ more) = ap (in_ledger f) (append_assoc ms (m ∷ []) more) in
      omega (arith, in_ledger-push ms m, in_ledger-grows (ms ++ m ∷ []) more, same)

  from-push : (before here : List Message) (m : Message) → in_ledger_from f before (here ++ m ∷ []) ≡ in_ledger_from f before here + adds (before ++ here) m
  from-push before here m =
      let same : in_ledger f (before ++ (here ++ m ∷ [])) ≡ in_ledger f ((before ++ here) ++ m ∷ []) = ap (in_ledger f) (sym (append_assoc before here (m ∷ []))) in
      omega (arith, same, in_ledger-push (before ++ here) m, in_ledger-grows before here)

  capped-push : (before here : List Message) (m : Message) (n : ℕ) → n ≡ adds (before ++ here) m → capped (in_ledger_from f before (here ++ m ∷ [])) ≡ capped (capped (in_ledger_from f before here) + n)
  capped-push before here m n e =
      capped-capped (in_ledger_from f before here) n (in_ledger_from f before (here ++ m ∷ [])) (from-push before here m ∙ ap (λ (k : ℕ). in_ledger_from f before here + k) (sym e))

  from-none : (before : List Message) → capped (in_ledger_from f before []) ≡ 0
  from-none before = let same : in_ledger f (before ++ []) ≡ in_ledger f before = ap (in_ledger f) (append-nil before) in omega (arith, same)

-- ---- the report

abbrev report : ℕ → ℕ → ℕ → ℕ → ℕ → ℕ → FileReport
report messages records lost backward unknown_sets unaccounted =
    record { messages = messages; records = records; lost = lost; backward = backward; unknown_sets = unknown_sets; unaccounted = unaccounted; ignored_withdrawals = 0 }

report-same : (a b c d e f g h i j k l : ℕ) → a ≡ g → b ≡ h → c ≡ i → d ≡ j → e ≡ k → f ≡ l → report a b c d e f ≡ report g h i j k l
report-same a b c d e f g h i j k l o p q r s t = rw (o, p, q, r, s, t) refl

sum-push : (f : Message → ℕ) (here : List Message) (m : Message) (n : ℕ) → n ≡ f m → capped (sum_by f (here ++ m ∷ [])) ≡ capped (capped (sum_by f here) + n)
sum-push f here m n e = capped-capped (sum_by f here) n (sum_by f (here ++ m ∷ [])) (sum_by_push f here m ∙ ap (λ (k : ℕ). sum_by f here + k) (sym e))

length-push : (here : List Message) (m : Message) → capped (length (here ++ m ∷ [])) ≡ capped (capped (length here) + 1)
length-push here m = omega (arith, length-append here (m ∷ []))

-- one more message, which adds what the account of its domain says
pub report-push : (before here : List Message) (m : Message) (c : MessageCount) (a : Account) → IsCountOf c m → a ≡ account_of (messages_of m.header.domain (before ++ here))
    → file_report before (here ++ m ∷ []) ≡ file_after (file_report before here) a c
unfolding file_report
report-push before here m c a count account =
    let own = messages_of m.header.domain (before ++ here) in
    let sequence : c.header.sequence ≡ m.header.sequence = ap (λ (h : Header). h.sequence) (sym count.header) in
    let due : a.due ≡ of_last due_after own = ap (λ (x : Account). x.due) account in
    let unsure : a.unsure ≡ of_last unsure_after own = ap (λ (x : Account). x.unsure) account in
    report-same _ _ _ _ _ _ _ _ _ _ _ _
    (length-push here m)
    (sum-push count_in here m c.records (sym count.records))
    (capped-push lost_between due_after lost_at (λ n. refl) (λ x y. refl) before here m (lost_at a.due c.header.sequence) (ap₂ lost_at due sequence))
    (capped-push backward_between due_after backward_at (λ n. refl) (λ x y. refl) before here m (backward_at a.due c.header.sequence) (ap₂ backward_at due sequence))
    (sum-push (λ (n : Message). n.decoding.passed_over.unknown_sets) here m c.passed_over.unknown_sets (ap (λ (p : PassedOver). p.unknown_sets) (sym count.passed_over)))
    (capped-push unaccounted_between unsure_after lost_at (λ n. refl) (λ x y. refl) before here m (lost_at a.unsure c.header.sequence) (ap₂ lost_at unsure sequence))

pub report-none : (before : List Message) → file_report before [] ≡ report 0 0 0 0 0 0
unfolding file_report
report-none before =
    report-same _ _ _ _ _ _ _ _ _ _ _ _ refl refl
    (from-none lost_between due_after lost_at (λ n. refl) (λ x y. refl) before)
    (from-none backward_between due_after backward_at (λ n. refl) (λ x y. refl) before)
    refl
    (from-none unaccounted_between unsure_after lost_at (λ n. refl) (λ x y. refl) before)
