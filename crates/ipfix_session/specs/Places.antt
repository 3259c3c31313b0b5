-- Where a message begins in its session, and the full report, which says where the session stopped.
use Rattle.std.specs.Prelude.{◌≡◌, ℕ, ◌+◌, false, List, [], length, map, take, sum_by, is_some, IfSome, Option, None}
use Rattle.ipfix_message.specs.Domains.{DomainsView, Message, StandsFor}
use Rattle.ipfix_session.specs.declared.report.MessagePlace.{MessagePlace}
use Rattle.ipfix_session.specs.declared.report.FullReport.{FullReport}
use Rattle.ipfix_session.specs.MessageStream.{cut}
use Rattle.ipfix_session.specs.Given.{IsToldOf, given_within, known_after}
use Rattle.ipfix_session.specs.Ledger.{capped, domains_of}
use Rattle.ipfix_session.specs.Balances.{domain_balance}
use Rattle.ipfix_session.specs.Reports.{Reports}
use Rattle.ipfix_session.specs.Faults.{end_within, ends_open}

-- a message's own length (RFC 7011, section 3.1)
abbrev pub length_of : Message → ℕ
length_of m = m.header.length

-- the place after so many messages, which have so many octets
abbrev pub place_behind : ℕ → ℕ → MessagePlace
place_behind messages octets = record { message = capped (messages + 1); octet = capped octets }

-- the place after messages that were read
abbrev pub place_after : List Message → MessagePlace
place_after ms = place_behind (length ms) (sum_by length_of ms)

-- the messages of a text, as octets, that stand before the first with a fault
abbrev pub messages_up_to : Option ℕ → List ℕ → List (List ℕ)
messages_up_to limit text = take (length (given_within limit text).messages) (cut text).items

abbrev pub messages_before_fault : List ℕ → List (List ℕ)
messages_before_fault text = messages_up_to None text

-- where the first message of a text with a fault begins; without one, where its whole messages end
abbrev pub place_within : Option ℕ → List ℕ → MessagePlace
place_within limit text = let ms = messages_up_to limit text in place_behind (length ms) (sum_by length ms)

abbrev pub place_of_fault : List ℕ → MessagePlace
place_of_fault text = place_within None text

-- the numbers of a full report are of these messages, and of that many records that were taken
pub record CountsInFull (r : FullReport) (ms : List Message) (delivered : ℕ) : Type 0 where
  pub reports : Reports r.report ms delivered
  pub balances : r.balances.items ≡ map (domain_balance ms) (domains_of ms)
  pub stopped_at : r.stopped_at ≡ place_after ms

-- these are the domains of messages, each with the templates in force after them (RFC 7011, section 8)
pub record AreDomainsOf (ms : List Message) (d : DomainsView) : Type 0 where
  pub not_spent : d.spent ≡ false
  pub stands : StandsFor d.domains (known_after [] ms)

-- a full report is of these messages, and of that many records that were taken
pub record ReportsInFull (r : FullReport) (ms : List Message) (delivered : ℕ) : Type 0 where
  pub counts : CountsInFull r ms delivered
  -- it has domains exactly if the session could have gone on, and then those of the messages
  pub has_domains : is_some r.domains ≡ ends_open r.report.fault
  pub in_force : IfSome r.domains (AreDomainsOf ms)

-- the full report of a whole text, whose templates may count so much, or anything
pub record IsFullReportWithin (limit : Option ℕ) (r : FullReport) (text : List ℕ) : Type 0 where
  pub reports : IsToldOf (ReportsInFull r) limit text
  pub fault : r.report.fault ≡ end_within limit text
  pub stopped_at : r.stopped_at ≡ place_within limit text

abbrev pub IsFullReport : FullReport → List ℕ → Type 0
IsFullReport r text = IsFullReportWithin None r text
