-- A session of a peer, and what it stands for (RFC 7011, sections 8.4 and 10.3).
use Rattle.std.specs.Prelude.{◌≡◌, ◌==◌, ◌&&◌, ◌||◌, ℕ, true, if◌then◌else◌, List, [], ◌∷◌, ◌++◌, length, slice_get, Option, Some, None, Ok, unwrap_or}
use Rattle.std.specs.List.{list_any}
use Rattle.std.specs.Option.{option_to_list}
use Rattle.std.specs.BTreeMap.{BTreeMap}
use Rattle.ipfix_message.specs.Domains.{Message, message_header}
use Rattle.ipfix_wire.specs.declared.header.Header.{Header}
use Rattle.ipfix_message.specs.declared.fault.MessageFault.{MessageFault}
use Rattle.ipfix_session.specs.Given.{IsPrefix}
use Rattle.ipfix_session.specs.Ledger.{count_in}
use Rattle.recording_files.specs.declared.record_fault.RecordFault.{RecordFault}
use Rattle.recording_files.specs.declared.message_count.MessageCount.{MessageCount}
use Rattle.recording_files.specs.Files.{FilesView, IsEmpty}
use Rattle.ipfix_datagrams.specs.Datagrams.{IsTooMuch, barred_after, withdraws_only}
use Rattle.recording_order.specs.Alike.{SameButCounts}
use Rattle.recording_order.specs.Arrivals.{Arrival}
use Rattle.recording_order.specs.Releases.{Says, Agree, run, released}
use Rattle.recording_order.specs.declared.datagram_counts.DatagramCounts.{DatagramCounts}
use Rattle.recording_resumption.specs.declared.earlier_domain.EarlierDomain.{EarlierDomain}
use Rattle.recording_peer.specs.Late.{IsReadWhere, IsRefusedAt}
use Rattle.recording_peer.specs.Peers.{Taken, basis_with, known_after_all, resumed_at}
use Rattle.recording_peer.specs.Recording.{barred_shown, FiledDatagrams, KnownShown, IsPeer, HasStopped, taken_in, ignored_in}
use Rattle.recording_peers.specs.declared.peer_state.PeerState.{PeerState}
use Rattle.recording_peers.specs.declared.peer_limits.PeerLimits.{PeerLimits}
use Rattle.recording_peers.specs.Happenings.{Happening, events_of, datagrams_of}

-- ---- what the recorder said

-- of a datagram that was handed on to it
pub data Said : Type 0 where
  -- it was recorded, with so many data records and unknown sets
  WasRecorded : DatagramCounts → Said
  -- it was refused
  WasRefused : MessageFault → Said
  -- it was refused for what it defines: with it the templates would count more than the budget
  WasOverBudget : Said
  -- this one was ignored
  WasIgnored : List ℕ → Said

abbrev pub counts_said : Option Said → Option DatagramCounts
counts_said None = None
counts_said (Some (WasRecorded counts)) = Some counts
counts_said (Some (WasRefused fault)) = None
counts_said (Some WasOverBudget) = None
counts_said (Some (WasIgnored m)) = None

-- the datagrams that were ignored, and then those of which that was said
abbrev pub ignored_after : List (List ℕ) → List Said → List (List ℕ)
ignored_after ignored [] = ignored
ignored_after ignored (WasRecorded c ∷ said) = ignored_after ignored said
ignored_after ignored (WasRefused fault ∷ said) = ignored_after ignored said
ignored_after ignored (WasOverBudget ∷ said) = ignored_after ignored said
ignored_after ignored (WasIgnored m ∷ said) = ignored_after (ignored ++ m ∷ []) said

-- what it adds to the counts, as the window notes it
abbrev pub counts_of : MessageCount → DatagramCounts
counts_of c = record { records = c.records; unknown_sets = c.passed_over.unknown_sets }

-- so it says of each, by how many were before
abbrev pub says_of : List Said → Says
says_of said n = counts_said (slice_get said n)

-- it said the same of those of which it said something
abbrev pub SaidSo : List Said → Says → Type 0
SaidSo said says = Agree (says_of said) says 0 (length said)

-- ---- the datagrams that were handed on

pub record HasCounts (c : DatagramCounts) (m : Message) : Type 0 where
  pub records : c.records ≡ count_in m
  pub unknown_sets : c.unknown_sets ≡ m.decoding.passed_over.unknown_sets

-- the ids of each domain that have no template
abbrev pub Barred : Type 0
Barred = ℕ → List ℕ

-- a datagram was taken after these, where these ids had no template: those that it defines have one then
pub record HasAgain (reorder : ℕ) (before : List Taken) (old next : Barred) (x : Taken) : Type 0 where
  pub barred : IsReadWhere reorder before old x.second x.datagram x.given.header x.barred
  pub again : (domain : ℕ) → next domain ≡ (if domain == x.given.header.domain then barred_after (old domain) x.datagram else old domain)

-- one was refused for what it defines: those for which it would have changed what is known have none from then on
pub record WasTooMuch (limits : PeerLimits) (left : BTreeMap ℕ EarlierDomain) (before : List Taken) (old next : Barred) (m : List ℕ) : Type 0 where
  pub header : Header
  pub is_header : message_header m ≡ Ok header
  pub second : ℕ
  pub without : List ℕ
  pub read : IsReadWhere limits.reorder before old second m header without
  pub ids : List ℕ
  pub too_much : IsTooMuch (basis_with (resumed_at left before (message_header m)) without) limits.templates (known_after_all before) m ids
  pub barred : (domain id : ℕ) → list_any (λ b. b == id) (next domain) ≡ (list_any (λ b. b == id) (old domain) || ((domain == header.domain) && list_any (λ b. b == id) ids))

-- each of these, one after another, was taken at a second, with these counts, or refused, or ignored, after those that were taken before it
-- and what an earlier run left, where these ids have no template; then all these were taken, and these ids have none
abbrev pub Settles : PeerLimits → BTreeMap ℕ EarlierDomain → List Taken → Barred → List (List ℕ) → List Said → List Taken → Barred → Type 0
Settles limits left before old [] [] all now = (all ≡ before) × (now ≡ old)
Settles limits left before old [] (s ∷ said) all now = ⊥
Settles limits left before old (m ∷ ms) [] all now = ⊥
Settles limits left before old (m ∷ ms) (WasRecorded c ∷ said) all now =
    (x : Taken) × (next : Barred) × (x.datagram ≡ m) × HasCounts c x.given × HasAgain limits.reorder before old next x × Settles limits left (before ++ x ∷ []) next ms said all now
Settles limits left before old (m ∷ ms) (WasRefused fault ∷ said) all now =
    ((second : ℕ) × IsRefusedAt limits.reorder before old (resumed_at left before (message_header m)) second m fault (message_header m)) × Settles limits left before old ms said all now
Settles limits left before old (m ∷ ms) (WasOverBudget ∷ said) all now = (next : Barred) × WasTooMuch limits left before old next m × Settles limits left before next ms said all now
Settles limits left before old (m ∷ ms) (WasIgnored d ∷ said) all now = (d ≡ m) × (withdraws_only m ≡ true) × Settles limits left before old ms said all now

-- the limits that a recorder keeps
abbrev pub limits_kept : KnownShown → PeerLimits
limits_kept k = record { reorder = k.reorder; templates = k.budget }

-- of a session: its limits, what was seen of its files at first, the datagrams that stand in them, and what was said of each that was
-- handed on
pub record Recording : Type 0 where
  pub limits : PeerLimits
  pub first : FilesView
  pub filed : FiledDatagrams
  pub said : List Said

-- no id is without a template at first
abbrev pub none_barred : Barred
none_barred domain = []

-- so it was said of these datagrams, and these ids have no template then; and those that were ignored are the ones that count beside the
-- files
pub record IsSettled (ms : List (List ℕ)) (p : Recording) (barred : Barred) : Type 0 where
  pub taken : Settles p.limits p.filed.earlier [] none_barred ms p.said (taken_in p.filed) barred
  pub ignored : ignored_in p.filed ≡ ignored_after [] p.said

module _ {F : Type 0} (seen : F → FilesView) (k : PeerState F) where
  -- the files and the recorder of a peer stand for these datagrams, which were handed on since the session began: each was recorded in
  -- the files, in this order and as it came, or it was refused or ignored, and changed nothing there. What is kept of the peer's templates
  -- counts no more than the budget
  pub record HasRecorded (p : Recording) (ms : List (List ℕ)) : Type 0 where
    pub empty : IsEmpty p.first.contents
    pub is : IsPeer p.first (seen k.files) k.recorder p.filed
    pub bounds : limits_kept k.recorder.known ≡ p.limits
    pub settles : IsSettled ms p (barred_shown k.recorder.known)

  -- the recorder ended with a fault, while the next datagram was taken, or a file was finished, or memory ran out. The files and the
  -- recorder have those that were handed on before; and these, and then the next one, are the first that are handed on
  pub record HasFailed (fault : RecordFault) (p : Recording) (handed_on : Says → List Arrival) : Type 0 where
    pub empty : IsEmpty p.first.contents
    pub ended : k.recorder.ended ≡ Some fault
    pub before : List (List ℕ)
    pub next : Option (List ℕ)
    pub stopped : HasStopped fault p.first (seen k.files) k.recorder.told p.filed (unwrap_or next [])
    pub barred : Barred
    pub settles : IsSettled before p barred
    pub are_first : (says : Says) → SaidSo p.said says → IsPrefix (before ++ option_to_list next) (datagrams_of (handed_on says))

  -- ---- a session with these limits

  module _ (limits : PeerLimits) (happenings : List Happening) where
    -- it stands for what happened since it began: its files have those that are released by then of the datagrams that came
    pub record IsSession : Type 0 where
      pub recording : Recording
      pub bounds : recording.limits ≡ limits
      pub recorded : HasRecorded recording (datagrams_of (run (says_of recording.said) limits.reorder (events_of happenings)).handed_on)
      pub window : SameButCounts k.window (run (says_of recording.said) limits.reorder (events_of happenings)).window

    -- it ended with a fault at the last of what happened
    pub record HasEnded : Type 0 where
      pub recording : Recording
      pub bounds : recording.limits ≡ limits
      pub fault : RecordFault
      pub failed : HasFailed fault recording (λ says. (run says limits.reorder (events_of happenings)).handed_on)

    -- none waits any more: its files have all that is released
    abbrev pub IsReleased : Recording → Type 0
    IsReleased p = (p.limits ≡ limits) × HasRecorded p (datagrams_of (released (says_of p.said) limits.reorder (events_of happenings)))
