-- The datagrams that a peer's recorder represents, and what it answers.
use Rattle.std.specs.Prelude.{◌≡◌, ◌≢◌, ◌⊎◌, ◌==◌, ◌&&◌, ◌||◌, ℕ, true, if◌then◌else◌, List, [], ◌∷◌, ◌++◌, map, flat_map, All, MatchResult, Option, Some, None, option_map, unwrap_or, Result, Ok, Err}
use Rattle.std.specs.Global.{Vec}
use Rattle.std.specs.List.{list_any}
use Rattle.ipfix_session.specs.declared.stop.Stop.TheVariants.{Clean}
use Rattle.ipfix_session.specs.Given.{IsOpen, IsPrefix, octets_of, records_of, stop_of}
use Rattle.std.specs.Map.{lookup}
use Rattle.std.specs.Option.{option_and_then}
use Rattle.std.specs.Ordering.{nat_cmp, eq_by_cmp}
use Rattle.std.specs.BTreeMap.{BTreeMap, get}
use Rattle.ipfix_wire.specs.declared.header.Header.{Header}
use Rattle.ipfix_message.specs.Domains.{History, message_header}
use Rattle.ipfix_message.specs.Kept.{kept}
use Rattle.ipfix_datagrams.specs.declared.known_templates.KnownTemplates.{KnownTemplates}
use Rattle.ipfix_message.specs.declared.record.Template.{Template}
use Rattle.ipfix_message.specs.declared.fault.MessageFault.TheVariants.{OutOfMemory}
use Rattle.ipfix_session.specs.Sources.{one_more}
use Rattle.ipfix_session.specs.Ledger.{capped}
use Rattle.recording_files.specs.Faithful.{FileRecords, TellAgain, all_in}
use Rattle.recording_files.specs.declared.record_fault.RecordFault.{RecordFault}
use Rattle.recording_files.specs.declared.record_fault.RecordFault.TheVariants.{Message as OfMessage, NotWritten}
use Rattle.recording_files.specs.Recordings.{Recorded as AreRecorded, Writes}
use Rattle.recording_files.specs.Recorders.{State, Keeps, Told, Counted, IsCountOf}
use Rattle.recording_files.specs.declared.message_count.MessageCount.{MessageCount}
use Rattle.recording_files.specs.declared.file_report.FileReport.{FileReport}
use Rattle.recording_files.specs.FileReports.{AddUp}
use Rattle.recording_files.specs.Files.{Contents, FilesView}
use Rattle.recording_files.specs.Sessions.{StandsWith, IsReported}
use Rattle.ipfix_datagrams.specs.declared.reach.Reach.{Reach}
use Rattle.ipfix_datagrams.specs.Reaches.{reaches_of, told_of}
use Rattle.ipfix_datagrams.specs.Advances.{advances_of}
use Rattle.ipfix_datagrams.specs.Datagrams.{AreOnce, Fits, IsTooMuch, barred_after, withdraws_only, withdrawn_in}
use Rattle.ipfix_datagrams.specs.Late.{Times}
use Rattle.ipfix_datagrams.specs.declared.moment.Moment.{Moment}
use Rattle.recording_resumption.specs.declared.earlier.Earlier.{Earlier}
use Rattle.recording_resumption.specs.declared.earlier_domain.EarlierDomain.{EarlierDomain}
use Rattle.recording_peer.specs.declared.peer_answer.PeerAnswer.{PeerAnswer}
use Rattle.recording_peer.specs.declared.peer_answer.PeerAnswer.TheVariants.{Recorded, TooMuch, Refused, Ignored}
use Rattle.recording_peer.specs.declared.peer_session.PeerSession.{PeerSession}
use Rattle.recording_peer.specs.declared.resumption.Resumption.{Resumption}
use Rattle.recording_peer.specs.Late.{IsReadWhere, IsRefusedAt, times_of}
use Rattle.recording_peer.specs.Peers.{basis_with, Resumed, Taken, AreResumed, left_in, resumed_after, resumed_at, AreTaken, HaveFronts, PeerFile, part_of, sent_of, withdrawals_ignored, peer_report, peer_reports, datagrams, givens, known_after_all, all_messages, all_given, records_over_udp, resumptions}

-- the counts, the withdrawals that were ignored since a file was finished, how far the sequence numbers of each domain reach, and the
-- domains that went on after an earlier run
pub record PeerTold : Type 0 where
  pub counts : Told
  pub ignored : ℕ
  pub advances : List (ℕ × Reach)
  pub resumed : List Resumption

-- the report of the file that isn't finished, by what was counted
abbrev pub counted_report : PeerTold → FileReport
counted_report c = record c.counts.file { ignored_withdrawals = c.ignored }

-- what is left of a domain, and of each
abbrev pub LeftShown : Type 0
LeftShown = Earlier × List (ℕ × Template)

abbrev pub left_shown : EarlierDomain → LeftShown
left_shown e = (e.state, e.templates.entries)

abbrev pub left_listed : List (ℕ × EarlierDomain) → List (ℕ × LeftShown)
left_listed es = map (λ e. (e.0, left_shown e.1)) es

-- what is known of templates beside the files: those that were withdrawn there, the ids that have none, and what each domain counts, beside
-- the budget; when those that are known were defined, and for how many seconds a late datagram doesn't replace them
pub record KnownShown : Type 0 where
  pub withdrawn : List (ℕ × List (ℕ × Template))
  pub barred : List (ℕ × List ℕ)
  pub weights : List (ℕ × ℕ)
  pub budget : ℕ
  pub times : List (ℕ × List (ℕ × Moment))
  pub reorder : ℕ

abbrev pub barred_listed : List (ℕ × Vec ℕ) → List (ℕ × List ℕ)
barred_listed es = map (λ e. (e.0, e.1.items)) es

abbrev pub times_listed : List (ℕ × BTreeMap ℕ Moment) → List (ℕ × List (ℕ × Moment))
times_listed es = map (λ e. (e.0, e.1.entries)) es

abbrev pub known_shown : KnownTemplates → KnownShown
known_shown k = record { withdrawn = kept k.withdrawn.entries; barred = barred_listed k.barred.entries; weights = k.weights.entries; budget = k.budget; times = times_listed k.times.entries; reorder = k.reorder }

-- the ids of a domain that have none
abbrev pub barred_shown : KnownShown → ℕ → List ℕ
barred_shown k domain = unwrap_or (lookup (eq_by_cmp nat_cmp domain) k.barred) []

-- when the template of an id was defined
abbrev pub times_shown : KnownShown → Times
times_shown k domain id = option_and_then (λ ts. lookup (eq_by_cmp nat_cmp id) ts) (lookup (eq_by_cmp nat_cmp domain) k.times)

-- each of them is listed once
abbrev pub BarsOnce : KnownShown → Type 0
BarsOnce k = AreOnce (barred_shown k)

-- what contracts see of a recorder: what it keeps, what is left of an earlier run, what is known of templates beside the files, what
-- it counted, and why it ended, if it has
pub record PeerView : Type 0 where
  pub recorder : State
  pub earlier : List (ℕ × LeftShown)
  pub known : KnownShown
  pub told : PeerTold
  pub ended : Option RecordFault

-- the one of a domain for an id
abbrev pub template_listed : List (ℕ × List (ℕ × Template)) → ℕ → ℕ → Option Template
template_listed es domain id = option_and_then (λ ts. lookup (eq_by_cmp nat_cmp id) ts) (lookup (eq_by_cmp nat_cmp domain) es)

-- they are exactly those that are known over UDP, and that the files don't have in force
pub record KeepsListed (es : List (ℕ × List (ℕ × Template))) (ds : History) : Type 0 where
  pub at : (domain id : ℕ) → template_listed es domain id ≡ withdrawn_in ds domain id

-- ---- the files of a peer

-- what an earlier run left, by domain; datagrams that were taken, by their files: those of each finished file, and those of the file
-- that isn't finished; and beside them those that were ignored since the file before was finished
pub record FiledDatagrams : Type 0 where
  pub earlier : BTreeMap ℕ EarlierDomain
  pub finished : List (List Taken)
  pub here : List Taken
  pub ignored : List (List (List ℕ))
  pub ignored_here : List (List ℕ)

abbrev pub none_filed : BTreeMap ℕ EarlierDomain → FiledDatagrams
none_filed earlier = record { earlier = earlier; finished = []; here = []; ignored = []; ignored_here = [] }

-- all those of finished files
abbrev pub taken_before : FiledDatagrams → List Taken
taken_before filed = flat_map (λ ts. ts) filed.finished

-- and then those of the file that isn't finished
abbrev pub taken_in : FiledDatagrams → List Taken
taken_in filed = taken_before filed ++ filed.here

-- all that were ignored
abbrev pub ignored_in : FiledDatagrams → List (List ℕ)
ignored_in filed = flat_map (λ ms. ms) filed.ignored ++ filed.ignored_here

-- one more, in that file
abbrev pub filed_with : FiledDatagrams → Taken → FiledDatagrams
filed_with filed t = record filed { here = filed.here ++ t ∷ [] }

-- one more was ignored
abbrev pub with_ignored : FiledDatagrams → List ℕ → FiledDatagrams
with_ignored filed m = record filed { ignored_here = filed.ignored_here ++ m ∷ [] }

-- that file is finished, if it has a datagram
abbrev pub finished_now : List (List Taken) → List Taken → List (List Taken)
finished_now finished [] = finished
finished_now finished (t ∷ ts) = finished ++ (t ∷ ts) ∷ []

-- what was ignored belongs to that file
abbrev pub ignored_now : List Taken → List (List (List ℕ)) → List (List ℕ) → List (List (List ℕ))
ignored_now [] ignored here = ignored
ignored_now (t ∷ ts) ignored here = ignored ++ here ∷ []

-- or to the next, if it has none
abbrev pub ignored_still : List Taken → List (List ℕ) → List (List ℕ)
ignored_still [] here = here
ignored_still (t ∷ ts) here = []

abbrev pub file_finished : FiledDatagrams → FiledDatagrams
file_finished filed = record {
  earlier = filed.earlier;
  finished = finished_now filed.finished filed.here;
  here = [];
  ignored = ignored_now filed.here filed.ignored filed.ignored_here;
  ignored_here = ignored_still filed.here filed.ignored_here;
}

abbrev pub HasDatagram : List Taken → Type 0
HasDatagram ts = ts ≢ []

-- the datagrams of each file
abbrev pub taken_by_file : List PeerFile → List (List Taken)
taken_by_file fs = map (λ f. f.taken) fs

abbrev pub ignored_by_file : List PeerFile → List (List (List ℕ))
ignored_by_file fs = map (λ f. f.ignored) fs

-- the file that isn't finished
abbrev pub last_file : FiledDatagrams → List (List ℕ) → PeerFile
last_file filed file = record { taken = filed.here; ignored = filed.ignored_here; file = file }

-- it has these messages: its datagrams, each after the messages in front of it
abbrev pub IsLastFile : FiledDatagrams → List (List ℕ) → Type 0
IsLastFile filed file = Writes (all_given (taken_before filed)) [] (all_messages filed.here) (all_given filed.here) file

-- these datagrams were taken, and are in the files that came after the first ones, each after the messages in front of it: those
-- of each finished file, and those of the file that isn't finished, where these octets follow
pub record FilesHold (first after : FilesView) (filed : FiledDatagrams) (cut_off : List ℕ) : Type 0 where
  pub taken : AreTaken [] (taken_in filed)
  pub resumed : AreResumed filed.earlier [] (taken_in filed)
  pub fronts : HaveFronts [] (taken_in filed)
  pub some : All HasDatagram filed.finished
  pub files : List PeerFile
  pub are : taken_by_file files ≡ filed.finished
  pub ignored : ignored_by_file files ≡ filed.ignored
  -- the files are a recording of one session
  pub earlier : AreRecorded [] (map part_of files)
  pub file : List (List ℕ)
  pub last : IsLastFile filed file
  -- and each was finished with a report of what the exporter sent in it, and of the withdrawals that were ignored
  pub stands : StandsWith (peer_reports [] files) first.contents after.contents (map sent_of files) (sent_of (last_file filed file)) cut_off

-- the datagrams of finished files are counted, and those of the file that isn't finished, and the withdrawals that were ignored; and
-- of all of them it is noted how far they reach, and which domains went on
pub record Counts (c : PeerTold) (filed : FiledDatagrams) : Type 0 where
  pub counted : Counted c.counts (givens (taken_before filed)) (givens filed.here)
  pub ignored : c.ignored ≡ capped (withdrawals_ignored filed.here filed.ignored_here)
  pub noted : c.advances ≡ reaches_of (givens (taken_in filed))
  pub resumed : c.resumed ≡ resumptions (taken_in filed)

-- of what an earlier run left, this is left after datagrams
pub record KeepsLeft (now : List (ℕ × LeftShown)) (earlier : BTreeMap ℕ EarlierDomain) (ts : List Taken) : Type 0 where
  pub at : (domain : ℕ) → lookup (eq_by_cmp nat_cmp domain) now ≡ option_map left_shown (left_in domain (get nat_cmp earlier domain) ts)

-- the recorder represents them
pub record IsPeer (first after : FilesView) (s : PeerView) (filed : FiledDatagrams) : Type 0 where
  pub holds : FilesHold first after filed []
  pub not_failed : after.failed ≡ first.failed
  pub goes_on : s.ended ≡ None
  pub counted : Counts s.told filed
  pub keeps : Keeps s.recorder (all_given (taken_before filed)) (all_given filed.here)
  pub withdrawn : KeepsListed s.known.withdrawn (known_after_all (taken_in filed))
  -- what is kept of the peer's templates counts no more than the budget
  pub fits : Fits s.known.budget s.known.weights (known_after_all (taken_in filed))
  pub once : BarsOnce s.known
  pub left : KeepsLeft s.earlier filed.earlier (taken_in filed)
  pub times : times_shown s.known ≡ times_of (taken_in filed)

-- whichever datagrams it represents, this is so of them
abbrev pub Whichever : PeerView → (FiledDatagrams → Type 0) → Type 0
Whichever s IsSo = (first after : FilesView) (filed : FiledDatagrams) → IsPeer first after s filed → IsSo filed

-- and so of those that were taken, in their order
abbrev pub AfterTaken : PeerView → (List Taken → Type 0) → Type 0
AfterTaken s IsSo = Whichever s (λ filed. IsSo (taken_in filed))

-- ---- a call fails

-- a call of the files failed: after the datagrams are the first octets of what was to be written for this one
pub record IsCutOff (first after : FilesView) (filed : FiledDatagrams) (m : List ℕ) : Type 0 where
  pub cut_off : List ℕ
  pub holds : FilesHold first after filed cut_off
  pub next : Taken
  pub datagram : next.datagram ≡ m
  pub taken : AreTaken [] (taken_in (filed_with filed next))
  pub fronts : HaveFronts [] (taken_in (filed_with filed next))
  pub file : List (List ℕ)
  pub whole : IsLastFile (filed_with filed next) file
  pub front : IsPrefix (octets_of holds.file ++ cut_off) (octets_of file)

-- the files have these datagrams, and at most some octets of the next, and they are counted
pub record StopsAt (first after : FilesView) (c : PeerTold) (filed : FiledDatagrams) (m : List ℕ) : Type 0 where
  pub there : FilesHold first after filed [] ⊎ IsCutOff first after filed m
  pub counted : Counts c filed

-- a file was finished, but the answer was that it wasn't: its datagrams are told as those of the file that isn't finished
pub record TurnedUnknown (first after : FilesView) (c : PeerTold) (filed : FiledDatagrams) : Type 0 where
  pub some : HasDatagram filed.here
  pub holds : FilesHold first after (file_finished filed) []
  pub counted : Counts c filed

-- how many calls of the files failed by the fault: one, or memory ran out
abbrev pub FailsBy : RecordFault → ℕ → ℕ → Type 0
FailsBy NotWritten before after = after ≡ one_more before
FailsBy fault before after = (fault ≡ OfMessage OutOfMemory) × (after ≡ before)

-- it ended with a fault
pub record HasStopped (fault : RecordFault) (first after : FilesView) (c : PeerTold) (filed : FiledDatagrams) (m : List ℕ) : Type 0 where
  pub fails : FailsBy fault first.failed after.failed
  pub stops : StopsAt first after c filed m ⊎ TurnedUnknown first after c filed

-- ---- its calls

-- what is resumed before a datagram with this header that comes after these, and before any datagram
abbrev pub resumed_next : FiledDatagrams → Header → Resumed
resumed_next filed h = resumed_after filed.earlier (taken_in filed) h

abbrev pub resumed_for : FiledDatagrams → List ℕ → Resumed
resumed_for filed m = resumed_at filed.earlier (taken_in filed) (message_header m)

-- whichever datagrams a recorder represents, this is so of what is resumed before the next
abbrev pub ForResumed : PeerView → Header → (Resumed → Type 0) → Type 0
ForResumed s h IsSo = Whichever s (λ filed. IsSo (resumed_next filed h))

-- a datagram was taken at a second after these, and is in the file that isn't finished; this is what it adds to the counts. Each id that
-- it defines has a template then
pub record IsRecorded (second : ℕ) (m : List ℕ) (first after : FilesView) (s t : PeerView) (filed : FiledDatagrams) (count : MessageCount) : Type 0 where
  pub next : Taken
  pub datagram : next.datagram ≡ m
  pub at : next.second ≡ second
  pub counts : IsCountOf count next.given
  pub is : IsPeer first after t (filed_with filed next)
  pub barred : IsReadWhere s.known.reorder (taken_in filed) (barred_shown s.known) second m next.given.header next.barred
  pub has_again : (domain : ℕ) → barred_shown t.known domain ≡ (if domain == next.given.header.domain then barred_after (barred_shown s.known domain) m else barred_shown s.known domain)
  pub budget : t.known.budget ≡ s.known.budget
  pub reorder : t.known.reorder ≡ s.known.reorder

-- a datagram was ignored after these: it has withdrawals alone. Only their count has changed
pub record IsIgnored (m : List ℕ) (first before after : FilesView) (s t : PeerView) (filed : FiledDatagrams) : Type 0 where
  pub alone : withdraws_only m ≡ true
  pub files : after ≡ before
  pub others : t ≡ record s { told = record s.told { ignored = t.told.ignored } }
  pub is : IsPeer first after t (with_ignored filed m)

-- these ids of a domain have no template from now on, and nothing else has changed
pub record BarsShown (s t : PeerView) (domain : ℕ) (ids : List ℕ) : Type 0 where
  pub others : t ≡ record s { known = record s.known { barred = t.known.barred } }
  pub once : BarsOnce s.known → BarsOnce t.known
  pub barred : (q id : ℕ) → list_any (λ b. b == id) (barred_shown t.known q) ≡ (list_any (λ b. b == id) (barred_shown s.known q) || ((q == domain) && list_any (λ b. b == id) ids))

-- a datagram was refused after these for what it defines: the ids for which it would have changed what is known have no template from
-- now on
pub record IsOverBudget (second : ℕ) (m : List ℕ) (s t : PeerView) (filed : FiledDatagrams) : Type 0 where
  pub header : Header
  pub is_header : message_header m ≡ Ok header
  pub barred : List ℕ
  pub read : IsReadWhere s.known.reorder (taken_in filed) (barred_shown s.known) second m header barred
  pub ids : List ℕ
  pub too_much : IsTooMuch (basis_with (resumed_for filed m) barred) s.known.budget (known_after_all (taken_in filed)) m ids
  pub bars : BarsShown s t header.domain ids

-- what is answered of a datagram that comes at a second, by the files and the recorder before and after it
abbrev pub Answers : Result PeerAnswer RecordFault → ℕ → List ℕ → FilesView → FilesView → FilesView → PeerView → PeerView → FiledDatagrams → Type 0
Answers (Ok (Recorded count)) second m first before after s t filed = IsRecorded second m first after s t filed count
Answers (Ok TooMuch) second m first before after s t filed = IsOverBudget second m s t filed × (after ≡ before)
Answers (Ok Ignored) second m first before after s t filed = IsIgnored m first before after s t filed
Answers (Ok (Refused fault)) second m first before after s t filed =
    IsRefusedAt s.known.reorder (taken_in filed) (barred_shown s.known) (resumed_for filed m) second m fault (message_header m) × (t ≡ s) × (after ≡ before)
Answers (Err fault) second m first before after s t filed = (t.ended ≡ Some fault) × HasStopped fault first after t.told filed m

-- a recorder and its files, whichever datagrams they represent, take the next
abbrev pub Takes : {F : Type 0} → (F → FilesView) → ℕ → List ℕ → Result PeerAnswer RecordFault → PeerView → PeerView → F → F → Type 0
Takes seen second m answer s t old new = (first : FilesView) (filed : FiledDatagrams) → IsPeer first (seen old) s filed
    → Answers answer second m first (seen old) (seen new) s t filed

-- or they finish the file that isn't finished, if it has a datagram: what is known of templates stays
abbrev pub FinishesFile : {F : Type 0} → (F → FilesView) → Result (Unit {0}) RecordFault → PeerView → PeerView → F → F → Type 0
FinishesFile seen answer s t old new = (first : FilesView) (filed : FiledDatagrams) → IsPeer first (seen old) s filed
    → MatchResult answer (λ x. IsPeer first (seen new) t (file_finished filed) × (t.known ≡ s.known))
    (λ fault. (t.ended ≡ Some fault) × HasStopped fault first (seen new) t.told filed [])

-- one that has ended answers its fault, and nothing changes
abbrev pub StaysEnded : {F A : Type 0} → (F → FilesView) → Result A RecordFault → PeerView → PeerView → F → F → Type 0
StaysEnded seen answer s t old new = (fault : RecordFault) → s.ended ≡ Some fault → (answer ≡ Err fault) × (t ≡ s) × (seen new ≡ seen old)

-- ---- what the files give

-- files show what is in them, and this has come after what was there at first
pub record CameAfter (first after : FilesView) (since : Contents) : Type 0 where
  pub start : Contents
  pub at_first : first.contents ≡ Some start
  pub at_last : after.contents ≡ Some (record {
    finished = start.finished ++ since.finished;
    reports = start.reports ++ since.reports;
    unfinished = since.unfinished;
  })

-- files that hold these datagrams, and after them these octets, and what has come into them since the first
pub record Held (cut_off : List ℕ) : Type 0 where
  pub first : FilesView
  pub after : FilesView
  pub filed : FiledDatagrams
  pub holds : FilesHold first after filed cut_off
  pub since : Contents
  pub came : CameAfter first after since

-- each of these files is read by itself as a session of a connection is, with no fault, and one after another they give the data
-- records of datagrams, each once, in their order, under the templates in force over UDP, but for the options records that are told
-- again
pub record GiveRecordsOverUdp (files : List (List ℕ)) (ts : List Taken) : Type 0 where
  pub taken : AreTaken [] ts
  pub stops : All (λ file. stop_of file ≡ Clean) files
  pub parts : List FileRecords
  pub are : flat_map records_of files ≡ flat_map all_in parts
  pub records : flat_map (λ r. r.came) parts ≡ records_over_udp ts
  pub again : TellAgain [] parts

-- the files of a peer that ended: each is read without a fault, where the last may end within a message, and they give the data
-- records of the datagrams, and no others but maybe the first of this one, which was to be written next, and what is told again
pub record KeepsWhole (ts : List Taken) (m : List ℕ) (files : List (List ℕ)) : Type 0 where
  pub read : All (λ file. IsOpen (stop_of file)) files
  pub next : List Taken
  pub one : (next ≡ []) ⊎ (datagrams next ≡ m ∷ [])
  pub taken : AreTaken [] (ts ++ next)
  pub least : List FileRecords
  pub least_came : flat_map (λ r. r.came) least ≡ records_over_udp ts
  pub at_least : IsPrefix (flat_map all_in least) (flat_map records_of files)
  pub most : List FileRecords
  pub most_came : flat_map (λ r. r.came) most ≡ records_over_udp (ts ++ next)
  pub at_most : IsPrefix (flat_map records_of files) (flat_map all_in most)
  pub again : TellAgain [] most

-- ---- what is told

-- how a peer ended
abbrev pub answer_of : Option RecordFault → Result (Unit {0}) RecordFault
answer_of None = Ok tt
answer_of (Some fault) = Err fault

-- what is told of it: its reports, and over all files the advance in each domain of exactly the datagrams that were recorded, and the
-- domains that went on
pub record IsPeerTold (r : PeerSession) (filed : FiledDatagrams) : Type 0 where
  pub session : IsReported r.session (givens (taken_before filed)) (givens filed.here)
  pub last : r.session.last ≡ peer_report (givens (taken_before filed)) filed.here filed.ignored_here
  pub advances : told_of r.advances.reaches ≡ advances_of (givens (taken_in filed))
  pub resumed : r.resumed.items ≡ resumptions (taken_in filed)

-- and so of whatever was counted
abbrev pub Tells : PeerTold → PeerSession → Type 0
Tells c r = (filed : FiledDatagrams) → Counts c filed → IsPeerTold r filed

abbrev pub ForTold : PeerTold → (PeerSession → Type 0) → Type 0
ForTold c P = (r : PeerSession) → Tells c r → P r

-- a peer that ended so by a fault, while a datagram was taken, and what has come into its files since the first
pub record EndedBy (By : RecordFault → FilesView → FilesView → PeerTold → FiledDatagrams → List ℕ → Type 0) : Type 0 where
  pub fault : RecordFault
  pub first : FilesView
  pub after : FilesView
  pub told : PeerTold
  pub filed : FiledDatagrams
  pub datagram : List ℕ
  pub by : By fault first after told filed datagram
  pub since : Contents
  pub came : CameAfter first after since

-- the reports that were given with files, and that of the file that isn't finished, add up to the session's
abbrev pub ReportsAddUp : List FileReport → PeerSession → Type 0
ReportsAddUp given r = AddUp (given ++ r.session.last ∷ []) r.session.report
