-- What a recorder took for a datagram.
use Rattle.std.specs.Prelude.{◌≡◌, ◌⊎◌, ℕ, true, List, [], ◌∷◌, ◌++◌, IsOk, MatchResult, Ok, Option, Result}
use Rattle.std.specs.Global.{Vec}
use Rattle.ipfix_wire.specs.declared.header.Header.{Header}
use Rattle.ipfix_message.specs.Alike.{knows}
use Rattle.ipfix_message.specs.Domains.{History, Message, admit, events_in, message_header}
use Rattle.ipfix_message.specs.declared.fault.MessageFault.{MessageFault}
use Rattle.ipfix_message.specs.declared.record.Template.{Template}
use Rattle.ipfix_session.specs.Given.{known_after, octets_of, records_in}
use Rattle.recording_files.specs.declared.message_count.MessageCount.{MessageCount}
use Rattle.ipfix_message.specs.declared.stamp.Stamp.{Stamp}
use Rattle.recording_files.specs.Preambles.{templates_message}
use Rattle.recording_files.specs.Files.{FilesView}
use Rattle.recording_files.specs.Recordings.{Writes}
use Rattle.recording_files.specs.Recorders.{State, Keeps, Records, IsCountOf}
use Rattle.ipfix_datagrams.specs.declared.reading.DatagramReading.{DatagramReading}
use Rattle.ipfix_datagrams.specs.declared.reading.Reading.{Reading}
use Rattle.ipfix_datagrams.specs.Datagrams.{Answers as AnswersOf, IsReadingOf, WeighAfter, IsRefused, Preparation, preparation_of, prepared, with_withdrawn, with_one_defined}
use Rattle.ipfix_datagrams.specs.Attempts.{IsFree, CanDefine, OrOutOfMemory}
use Rattle.ipfix_datagrams.specs.Withdrawals.{withdrawal_message}
use Rattle.ipfix_datagrams.specs.declared.withdrawn_template.WithdrawnTemplate.{WithdrawnTemplate}
use Rattle.recording_peer.specs.Peers.{Front, Resumed, basis_with, Taken, InParts, HasFront, withdrawals, front_messages, messages_with, given_with, known_after_all}
use Rattle.recording_peer.specs.Late.{IsReadWhere, IsRefusedAt}
use Rattle.recording_peer.specs.Recording.{FiledDatagrams, PeerView, IsPeer, barred_shown, resumed_for, taken_in}

-- the domains after these messages of earlier files, and of this one
abbrev pub domains_after : List Message → List Message → History
domains_after before here = known_after [] (before ++ here)

-- a domain has appeared in them
abbrev pub HasAppeared : List Message → List Message → ℕ → Type 0
HasAppeared before here domain = knows (domains_after before here) domain ≡ true

-- so it has, if templates are to be withdrawn there
abbrev pub CanWithdraw : List Message → List Message → ℕ → List WithdrawnTemplate → Type 0
CanWithdraw before here domain ws = (ws ≡ []) ⊎ HasAppeared before here domain

-- a template can be defined in a domain: that has appeared or has room, and none is in force for the id, or the same
abbrev pub IsDefinable : History → ℕ → Template → Type 0
IsDefinable ds domain t = IsOk (admit ds domain) × IsFree (events_in ds domain) t

-- and so it can after these messages
abbrev pub CanDefineNext : List Message → List Message → ℕ → Template → Type 0
CanDefineNext before here domain t = IsDefinable (domains_after before here) domain t

-- a message was taken, and what precedes it in its file was appended, and the message
pub record Took (before here : List Message) (s : State) (m old new : List ℕ) (count : MessageCount) : Type 0 where
  pub octets : List ℕ
  pub appended : new ≡ old ++ octets
  pub records : Records before here s m octets count

-- one of the recorder's own, after which these are the domains
pub record TookOwn (before here : List Message) (s : State) (m : List ℕ) (domains : History) (old new : List ℕ) : Type 0 where
  pub count : MessageCount
  pub took : Took before here s m old new count
  pub domains_are : took.records.given.domains ≡ domains
  pub no_records : took.records.given.decoding.records ≡ []

-- one that withdraws templates
abbrev pub TookOne : List Message → List Message → State → Header → List WithdrawnTemplate → List ℕ → List ℕ → Type 0
TookOne before here s h ws old new =
    TookOwn before here s (withdrawal_message h ws) (with_withdrawn (domains_after before here) h.domain ws) old new

-- one that defines a template
abbrev pub TookDefinition : List Message → List Message → State → Stamp → Template → List ℕ → List ℕ → Type 0
TookDefinition before here s stamp t old new =
    TookOwn before here s (templates_message stamp (t ∷ [])) (with_one_defined (domains_after before here) stamp.domain t) old new

-- messages of the recorder's own, one after another, after which these are the domains
pub record TookFront (before here : List Message) (s : State) (messages : List (List ℕ)) (domains : History) (octets : List ℕ) : Type 0 where
  pub given : List Message
  pub no_records : records_in given ≡ []
  pub file : List (List ℕ)
  pub writes : Writes before here messages given file
  pub octets_are : octets ≡ octets_of file
  pub known : domains_after before (here ++ given) ≡ domains
  pub keeps : Keeps s before (here ++ given)

-- those that withdraw templates, while the rest of these is still to be withdrawn
pub record TakesWithdrawals (before here : List Message) (s : State) (h : Header) (ws rest : List WithdrawnTemplate) (octets : List ℕ) : Type 0 where
  pub done : List WithdrawnTemplate
  pub whole : ws ≡ done ++ rest
  pub parts : List (List WithdrawnTemplate)
  pub front : TookFront before here s (withdrawals h parts) (with_withdrawn (domains_after before here) h.domain done) octets
  pub are : (more : List (List WithdrawnTemplate)) → InParts rest more → InParts ws (parts ++ more)

-- all of them
pub record TookWithdrawals (before here : List Message) (s : State) (h : Header) (ws : List WithdrawnTemplate) (octets : List ℕ) : Type 0 where
  pub parts : List (List WithdrawnTemplate)
  pub are : InParts ws parts
  pub front : TookFront before here s (withdrawals h parts) (with_withdrawn (domains_after before here) h.domain ws) octets

-- and those that define templates again
pub record TookPrepared (before here : List Message) (s : State) (h : Header) (p : Preparation) (octets : List ℕ) : Type 0 where
  pub parts : List (List WithdrawnTemplate)
  pub are : InParts p.withdrawn parts
  pub front : TookFront before here s (front_messages h parts p.defined) (prepared (domains_after before here) h.domain p) octets

-- so the rest can be defined
abbrev pub CanGoOn : History → ℕ → List Template → Type 0
CanGoOn ds domain rest = IsOk (admit ds domain) × CanDefine (events_in ds domain) rest

-- and while the rest of them is still to be defined, and can be
pub record TakesDefinitions (before here : List Message) (s : State) (h : Header) (p : Preparation) (rest : List Template) (octets : List ℕ) : Type 0 where
  pub done : List Template
  pub whole : p.defined ≡ done ++ rest
  pub took : TookPrepared before here s h (record { withdrawn = p.withdrawn; defined = done }) octets
  pub can : CanGoOn (prepared (domains_after before here) h.domain (record { withdrawn = p.withdrawn; defined = done })) h.domain rest

-- a datagram, and the messages in front of it
abbrev pub taken_as : List ℕ → ℕ → Resumed → List ℕ → Preparation → Front → Message → Taken
taken_as m second resumed barred p front x = record { datagram = m; second = second; resumed = resumed; barred = barred; preparation = p; front = front; given = x }

pub record TookDatagram (before here : List Message) (s : State) (m : List ℕ) (second : ℕ) (resumed : Resumed) (barred : List ℕ) (reading : DatagramReading) (x : Message) (octets : List ℕ) (count : MessageCount) : Type 0 where
  pub front : Front
  pub has_front : HasFront (before ++ here) (taken_as m second resumed barred (preparation_of reading) front x)
  pub file : List (List ℕ)
  pub writes : Writes before here (messages_with (taken_as m second resumed barred (preparation_of reading) front x)) (given_with (taken_as m second resumed barred (preparation_of reading) front x)) file
  pub octets_are : octets ≡ octets_of file
  pub keeps : Keeps s before (here ++ given_with (taken_as m second resumed barred (preparation_of reading) front x))
  pub counts : IsCountOf count x

-- a datagram was read so after these messages of the session, and gives this
abbrev pub IsReadAfter : List Message → List Message → List ℕ → Resumed → List ℕ → DatagramReading → Message → Type 0
IsReadAfter before here m resumed barred reading x = IsReadingOf (basis_with resumed barred) (domains_after before here) m reading x

-- a datagram is taken as it was read, with what was due at the end of an earlier run, or memory ran out
abbrev pub TakesDatagram : State → State → List ℕ → Option ℕ → DatagramReading → Result MessageCount MessageFault → Vec ℕ → Type 0
TakesDatagram old new m due reading result out =
    (before here : List Message) (second : ℕ) (resumed : Resumed) (barred : List ℕ) (x : Message) → Keeps old before here → resumed.due ≡ due → IsReadAfter before here m resumed barred reading x
    → OrOutOfMemory result (TookDatagram before here new m second resumed barred reading x out.items)

-- the recorder and its files represent these datagrams, and after them the next, at a second, was read so, which gives this
pub record HasRead (first before : FilesView) (s : PeerView) (filed : FiledDatagrams) (second : ℕ) (m : List ℕ) (reading : DatagramReading) : Type 0 where
  pub is : IsPeer first before s filed
  pub header : Header
  pub is_header : message_header m ≡ Ok header
  pub barred : List ℕ
  pub where_barred : IsReadWhere s.known.reorder (taken_in filed) (barred_shown s.known) second m header barred
  pub given : Message
  pub read : IsReadingOf (basis_with (resumed_for filed m) barred) (known_after_all (taken_in filed)) m reading given
  pub weighs : WeighAfter reading.weights s.known.budget (known_after_all (taken_in filed)) given.domains

-- a datagram is read, or refused, after those that were taken, with what is resumed before it, where these ids have no template
abbrev pub ReadsWhere : PeerView → List ℕ → List ℕ → Result Reading MessageFault → FiledDatagrams → Type 0
ReadsWhere s m barred result filed =
    let basis = basis_with (resumed_for filed m) barred in
    let ds = known_after_all (taken_in filed) in
    MatchResult result (AnswersOf basis s.known.budget ds m) (IsRefused basis ds m)

-- where those have none that have none at a second
pub record ReadsAt (s : PeerView) (filed : FiledDatagrams) (second : ℕ) (m : List ℕ) (h : Header) (reading : Reading) : Type 0 where
  pub barred : List ℕ
  pub where_barred : IsReadWhere s.known.reorder (taken_in filed) (barred_shown s.known) second m h barred
  pub answers : AnswersOf (basis_with (resumed_for filed m) barred) s.known.budget (known_after_all (taken_in filed)) m reading

abbrev pub ReadsAfter : PeerView → ℕ → List ℕ → Header → Result Reading MessageFault → FiledDatagrams → Type 0
ReadsAfter s second m h result filed =
    MatchResult result (ReadsAt s filed second m h)
    (λ f. IsRefusedAt s.known.reorder (taken_in filed) (barred_shown s.known) (resumed_for filed m) second m f (Ok h))
