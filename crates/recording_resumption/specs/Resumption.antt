-- Whether a datagram goes on after the last message that is kept of its domain, and what becomes of the templates that an
-- earlier run knew there (RFC 7011, sections 3.1 and 8).
use Rattle.std.specs.Prelude.{◌≡◌, ◌==◌, ◌≤◌, ℕ, ◌^◌, Bool, true, false, not, ◌&&◌, ◌||◌, nat_le, nat_lt, if◌then◌else◌, List, [], ◌∷◌, Option, Some, None, option_map, unwrap_or}
use Rattle.std.specs.BTreeMap.{BTreeMap, get}
use Rattle.std.specs.List.{last_or}
use Rattle.std.specs.Ordering.{nat_cmp}
use Rattle.ipfix_wire.specs.declared.header.Header.{Header}
use Rattle.ipfix_message.specs.Domains.{Message}
use Rattle.ipfix_session.specs.Ledger.{due_after}
pub use Rattle.ipfix_session.specs.Ledger.{gap}
use Rattle.recording_order.specs.declared.numbering.TheConstants.{FARTHEST}
use Rattle.recording_resumption.specs.declared.last_message.LastMessage.{LastMessage}
use Rattle.recording_resumption.specs.declared.earlier_domain.EarlierDomain.{EarlierDomain}
use Rattle.recording_resumption.specs.declared.earlier.Earlier.{Earlier}
use Rattle.recording_resumption.specs.declared.earlier.Earlier.TheVariants.{Waiting, Resumed, Ended}

-- what a message says as the last of its domain
abbrev pub last_message : Message → LastMessage
last_message m = record { sequence = m.header.sequence; due = due_after m; export_time = m.header.export_time }

-- the last of a domain's messages
abbrev pub last_of : List Message → Option LastMessage
last_of own = option_map last_message (last_or None own)

-- ---- the numbers of a domain, modulo 2^32

-- a number is before another: from that to it is a step of 2^31 or more
abbrev pub is_before : ℕ → ℕ → Bool
is_before number other = nat_le (2 ^ 31) (gap other number)

-- it isn't before the number that is due, and more than 65,536 ahead of that
abbrev pub is_too_far : ℕ → ℕ → Bool
is_too_far number due = not (is_before number due) && nat_lt FARTHEST (gap due number)

-- a datagram with this header goes on: its number isn't before that of the last message, nor too far ahead of the one that is
-- due, or of the last one's own if none is due, and its export time isn't earlier
abbrev pub goes_on : LastMessage → Header → Bool
goes_on last h =
    not (is_before h.sequence last.sequence) && not (is_too_far h.sequence (unwrap_or last.due last.sequence)) && nat_le last.export_time h.export_time

-- and then it isn't before the last message, neither by its number nor by its export time
abbrev pub IsNotBefore : LastMessage → Header → Type 0
IsNotBefore last h = (is_before h.sequence last.sequence ≡ false) × (last.export_time ≤ h.export_time)

-- ---- the templates of an earlier run, by the datagrams that come

-- after a datagram with this header, which defines a template or doesn't
abbrev pub after : Earlier → Header → Bool → Earlier
after (Waiting last is_doubted) h defines =
    if goes_on last h then Resumed
    else if defines || is_doubted then Ended
    else Waiting last true
after Resumed h defines = Resumed
after Ended h defines = Ended

-- a datagram: its header, and whether it defines a template
pub record Datagram : Type 0 where
  pub header : Header
  pub defines : Bool

-- after datagrams in turn
abbrev pub after_all : Earlier → List Datagram → Earlier
after_all e [] = e
after_all e (d ∷ ds) = after_all (after e d.header d.defines) ds

-- ---- the domains of an earlier run

abbrev pub is_waiting : Earlier → Bool
is_waiting (Waiting last is_doubted) = true
is_waiting Resumed = false
is_waiting Ended = false

abbrev pub is_resumed : Earlier → Bool
is_resumed (Waiting last is_doubted) = false
is_resumed Resumed = true
is_resumed Ended = false

-- the sequence number that was due at its end
abbrev pub due_left : Earlier → Option ℕ
due_left (Waiting last is_doubted) = last.due
due_left Resumed = None
due_left Ended = None

-- a domain goes on with a datagram
abbrev pub resumed_by : Option EarlierDomain → Header → Option EarlierDomain
resumed_by None h = None
resumed_by (Some e) h = if is_resumed (after e.state h false) then Some e else None

-- what is left of it after a datagram
abbrev pub left_after : Option EarlierDomain → Header → Bool → Option EarlierDomain
left_after None h defines = None
left_after (Some e) h defines = if is_waiting (after e.state h defines) then Some (record e { state = after e.state h defines }) else None

-- and of each domain: it stays as it is, but for the datagram's own
abbrev pub left_at : ℕ → Option EarlierDomain → Header → Bool → Option EarlierDomain
left_at domain o h defines = if domain == h.domain then left_after o h defines else o

abbrev pub LeftAfter : BTreeMap ℕ EarlierDomain → BTreeMap ℕ EarlierDomain → Header → Bool → Type 0
LeftAfter old new h defines = (domain : ℕ) → get nat_cmp new domain ≡ left_at domain (get nat_cmp old domain) h defines
