-- The counts after more messages.
use Rattle.std.proofs.Common.{◌≡◌, ℕ, ◌+◌, ◌≤◌, List, [], ◌∷◌, ◌++◌, length, refl, sym, ap, subst, ◌∙◌, append_assoc, arith}
use Rattle.std.proofs.lemmas.List.{append-nil}
use Rattle.ipfix_message.specs.Domains.{Message}
use Rattle.ipfix_session.specs.declared.account.Account.{Account}
use Rattle.ipfix_session.specs.declared.ledger.Ledger.{Ledger}
use Rattle.ipfix_session.specs.Given.{records_in}
use Rattle.ipfix_session.specs.Ledger.{capped, count_in, messages_of}
use Rattle.ipfix_session.specs.Accounts.{account_of}
use Rattle.ipfix_session.specs.Feeding.{Counts, Tells}
use Rattle.ipfix_session.specs.Puts.{CountsOn}
use Rattle.ipfix_session.specs.Rooms.{HasRoom}
use Rattle.ipfix_session.proofs.Reaching.{delivered-push}
use Rattle.recording_files.specs.declared.file_report.FileReport.{FileReport}
use Rattle.recording_files.specs.declared.message_count.MessageCount.{MessageCount}
use Rattle.recording_files.specs.FileReports.{file_report}
use Rattle.recording_files.specs.Recorders.{Told, Counted, IsCountOf, AreCountsOf}
use Rattle.recording_files.specs.Counting.{file_after, CountsUpTo}
use Rattle.recording_files.proofs.FileCounts.{report-push, report-none}

-- ---- one more message

pub counts_on : (old more : ℕ) → CountsOn old more (capped (old + more))
counts_on old more = λ n e. omega (arith, e)

-- a session's counts after one more message of the file
tells_on : (c : Counts) (before here : List Message) (m : Message) (records : ℕ) → count_in m ≡ records → Tells c ((before ++ here) ++ m ∷ []) (length (records_in (before ++ here)) + records)
    → Tells c (before ++ (here ++ m ∷ [])) (length (records_in (before ++ (here ++ m ∷ []))))
tells_on c before here m records is tells =
    let all = (before ++ here) ++ m ∷ [] in
    let number : length (records_in (before ++ here)) + records ≡ length (records_in all) =
    ap (λ (n : ℕ). length (records_in (before ++ here)) + n) (sym is) ∙ sym (delivered-push (before ++ here) m) in
    subst (λ (ms : List Message). Tells c ms (length (records_in ms))) (append_assoc before here (m ∷ [])) (subst (λ (n : ℕ). Tells c all n) number tells)

pub counted-push : (c : Told) (f : FileReport) (before here : List Message) (m : Message) (count : MessageCount) (a : Account) → IsCountOf count m → a ≡ account_of (messages_of m.header.domain (before ++ here))
    → Tells c.session ((before ++ here) ++ m ∷ []) (length (records_in (before ++ here)) + count.records) → f ≡ file_report before here → c.file ≡ file_after f a count
    → Counted c before (here ++ m ∷ [])
counted-push c f before here m count a is account tells old new = record {
  session = tells_on c.session before here m count.records is.records tells;
  file = new ∙ ap (λ (r : FileReport). file_after r a count) old ∙ sym (report-push before here m count a is account);
}

-- ---- the next file

pub counted-turned : (c d : Told) (before here : List Message) → Counted c before here → d.session ≡ c.session → d.file ≡ record { messages = 0; records = 0; lost = 0; backward = 0; unknown_sets = 0; unaccounted = 0; ignored_withdrawals = 0 }
    → Counted d (before ++ here) []
counted-turned c d before here counted session file = record {
  session = subst (λ (ms : List Message). Tells d.session ms (length (records_in ms))) (sym (append-nil (before ++ here))) (subst (λ (k : Counts). Tells k (before ++ here) (length (records_in (before ++ here)))) (sym session) counted.session);
  file = file ∙ sym (report-none (before ++ here));
}

pub counted-first : (c : Told) → Tells c.session [] 0 → c.file ≡ record { messages = 0; records = 0; lost = 0; backward = 0; unknown_sets = 0; unaccounted = 0; ignored_withdrawals = 0 } → Counted c [] []
counted-first c tells file = record { session = tells; file = file ∙ sym (report-none []) }

-- ---- several

-- the last of them apart
pub split_last : (cs : List MessageCount) (c : MessageCount) (ms : List Message) → AreCountsOf (cs ++ c ∷ []) ms → (front : List Message) × (m : Message) × (ms ≡ front ++ m ∷ []) × AreCountsOf cs front × IsCountOf c m
split_last [] c [] are = absurd are
split_last [] c (m ∷ []) are = ([], m, refl, tt, are.0)
split_last [] c (m ∷ n ∷ ms) are = absurd are.1
split_last (x ∷ cs) c [] are = absurd are
split_last (x ∷ cs) c (m ∷ ms) are =
    let more = split_last cs c ms are.1 in
    (m ∷ more.0, more.1, ap (λ (l : List Message). m ∷ l) more.2, (are.0, more.3), more.4)

pub counts-push : (cs : List MessageCount) (c : MessageCount) (ms : List Message) (m : Message) → AreCountsOf cs ms → IsCountOf c m → AreCountsOf (cs ++ c ∷ []) (ms ++ m ∷ [])
counts-push [] c [] m are is = (is, tt)
counts-push [] c (n ∷ ms) m are is = absurd are
counts-push (x ∷ cs) c [] m are is = absurd are
counts-push (x ∷ cs) c (n ∷ ms) m are is = (are.0, counts-push cs c ms m are.1 is)

pub no_counts : (cs : List MessageCount) (ms : List Message) → cs ≡ [] → AreCountsOf cs ms → ms ≡ []
no_counts [] [] e are = refl
no_counts [] (m ∷ ms) e are = absurd are
no_counts (c ∷ cs) ms e are = absurd cc

pub up_to-none : (c : Told) (cs : List MessageCount) → cs ≡ [] → CountsUpTo c c cs
up_to-none c cs none = λ before here given counted are.
    subst (λ (ms : List Message). Counted c before ms) (sym (append-nil here) ∙ ap (λ (ms : List Message). here ++ ms) (sym (no_counts cs given none are))) counted

pub up_to-push : (old now new : Told) (cs : List MessageCount) (c : MessageCount) → CountsUpTo old now cs
    → CountsUpTo now new (c ∷ []) → CountsUpTo old new (cs ++ c ∷ [])
up_to-push old now new cs c first next = λ before here given counted are.
    let s = split_last cs c given are in
    subst (λ (ms : List Message). Counted new before ms) (append_assoc here s.0 (s.1 ∷ []) ∙ ap (λ (ms : List Message). here ++ ms) (sym s.2))
    (next before (here ++ s.0) (s.1 ∷ []) (first before here s.0 counted s.3) (s.4, tt))

pub up_to-one : (old new : Told) (c : MessageCount) → ((before here : List Message) (m : Message) → Counted old before here → IsCountOf c m → Counted new before (here ++ m ∷ [])) → CountsUpTo old new (c ∷ [])
up_to-one old new c next before here [] counted are = absurd are
up_to-one old new c next before here (m ∷ []) counted are = next before here m counted are.0
up_to-one old new c next before here (m ∷ n ∷ ms) counted are = absurd are.1

-- ---- room

-- room for fewer messages
pub room_at : (l : Ledger) (m n : ℕ) → n ≤ m → HasRoom l m → HasRoom l n
room_at l m n less room = record { accounts = omega (arith, room.accounts, less); reports = omega (arith, room.reports, less); balances = omega (arith, room.balances, less) }
