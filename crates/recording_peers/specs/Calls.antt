-- What the calls of a session do.
use Rattle.std.specs.Prelude.{◌≡◌, ◌⊎◌, ℕ, Bool, true, false, List, [], ◌∷◌, ◌++◌, drop, length, Option, Some, None, Result, Ok, Err, MatchResult}
use Rattle.ipfix_wire.specs.declared.header.Header.{Header}
use Rattle.ipfix_message.specs.Domains.{message_header}
use Rattle.ipfix_message.specs.declared.fault.MessageFault.{MessageFault}
use Rattle.ipfix_message.specs.declared.fault.MessageFault.TheVariants.{TooManyFields}
use Rattle.ipfix_session.specs.Sources.{one_more}
use Rattle.recording_files.specs.declared.record_fault.RecordFault.{RecordFault}
use Rattle.recording_files.specs.Files.{FilesView}
use Rattle.recording_order.specs.Releases.{Run, Says, Came, begin_anew, hand_on, step, take_run, tick}
use Rattle.recording_order.specs.Arrivals.{Arrival}
use Rattle.recording_order.specs.Counts.{told_counts, with_counts_begun}
use Rattle.recording_order.specs.Windows.{WindowView}
use Rattle.recording_order.specs.declared.order_counts.OrderCounts.{OrderCounts}
use Rattle.recording_peer.specs.Peers.{Taken}
use Rattle.recording_peer.specs.Recording.{FiledDatagrams, file_finished}
use Rattle.recording_peer.specs.declared.resumption.Resumption.{Resumption}
use Rattle.recording_peers.specs.declared.peer_state.PeerState.{PeerState}
use Rattle.recording_peers.specs.declared.refusals.Refusals.{Refusals}
use Rattle.recording_peers.specs.declared.turn.Turn.{Turn}
use Rattle.recording_peers.specs.Happenings.{arrival, datagrams_of}
use Rattle.recording_peers.specs.Kept.{Said, WasRecorded, WasRefused, WasOverBudget, WasIgnored, ignored_after, SaidSo, Recording, HasRecorded, HasFailed}

-- ---- datagrams that are refused

-- how many were refused and aren't reported yet
abbrev pub untold : Option Refusals → ℕ
untold None = 0
untold (Some r) = r.count

abbrev pub one_more_refused : Option Refusals → MessageFault → Refusals
one_more_refused r fault = record { count = one_more (untold r); last = fault }

abbrev pub refused_after : List Said → Option Refusals → Option Refusals
refused_after [] r = r
refused_after (WasRecorded c ∷ said) r = refused_after said r
refused_after (WasRefused fault ∷ said) r = refused_after said (Some (one_more_refused r fault))
refused_after (WasOverBudget ∷ said) r = refused_after said (Some (one_more_refused r TooManyFields))
refused_after (WasIgnored m ∷ said) r = refused_after said r

-- ---- datagrams that are handed on

-- a part of a run
abbrev pub Part : Type 0
Part = Says → Run → Run

-- a datagram is handed on, or after those of its domain that wait; it is offered to the window; or it comes
abbrev pub handed_on : Arrival → Part
handed_on a says r = hand_on says a r.window r

abbrev pub begun_anew : Arrival → Part
begun_anew a says r = begin_anew says a r

abbrev pub offering : Arrival → Part
offering a says r = take_run says a r

abbrev pub arriving : Arrival → Part
arriving a says r = step says r (Came a)

-- more datagrams stand in the file that isn't finished, and some were ignored
abbrev pub filed_more : FiledDatagrams → List Taken → List Said → FiledDatagrams
filed_more filed more said = record filed { here = filed.here ++ more; ignored_here = ignored_after filed.ignored_here said }

-- and then it is finished, if that is asked
abbrev pub filed_then : Bool → FiledDatagrams → List Taken → List Said → FiledDatagrams
filed_then false filed more said = filed_more filed more said
filed_then true filed more said = file_finished (filed_more filed more said)

abbrev pub recorded_then : Bool → Recording → List Taken → List Said → Recording
recorded_then finishes p more said = record { limits = p.limits; first = p.first; filed = filed_then finishes p.filed more said; said = p.said ++ said }

-- ---- the counts of domains

-- if a period is over, the counts of its domains are told, and begin anew. Where there is no memory for that they wait
abbrev pub TellsCounts : Bool → WindowView → List OrderCounts → WindowView → Type 0
TellsCounts false w orders after = (orders ≡ []) × (after ≡ w)
TellsCounts true w orders after = ((orders ≡ told_counts w) × (after ≡ with_counts_begun w)) ⊎ ((orders ≡ []) × (after ≡ w))

-- ---- domains that went on after an earlier run

-- of these domains a session told as many as it says: the others are told now, or wait where there is no memory for that
abbrev pub TellsResumed : {F : Type 0} → List Resumption → List Resumption → PeerState F → PeerState F → Type 0
TellsResumed all now old new =
    ((now ≡ drop old.resumptions_told all) × (new.resumptions_told ≡ length all)) ⊎ ((now ≡ []) × (new.resumptions_told ≡ old.resumptions_told))

module _ {F : Type 0} (seen : F → FilesView) where
  -- the files and the recorder stand for what a run has handed on, and the window is the run's
  pub record IsRunning (k : PeerState F) (p : Recording) (r : Run) : Type 0 where
    pub recorded : HasRecorded seen k p (datagrams_of r.handed_on)
    pub window : k.window ≡ r.window

  -- after a part of a run, by what the recorder said, whatever it would say of others
  pub record RunsTo (k : PeerState F) (p : Recording) (part : Part) (from : Run) : Type 0 where
    pub run : Run
    pub is : IsRunning k p run
    pub by : (says : Says) → SaidSo p.said says → part says from ≡ run

  -- a call goes on as a part of a run does, by what the recorder said of those that it handed on; and it finishes the file, if that
  -- is asked
  pub record Follows (part : Part) (finishes : Bool) (old new : PeerState F) (answer : Result (Unit {0}) RecordFault) : Type 0 where
    pub said : List Said
    pub refused : new.refused ≡ refused_after said old.refused
    pub heard : new.heard ≡ old.heard
    pub resumptions_told : new.resumptions_told ≡ old.resumptions_told
    pub follows : (p : Recording) (r : Run) → IsRunning old p r → (more : List Taken) × MatchResult answer
        (λ x. RunsTo new (recorded_then finishes p more said) part r)
        (λ fault. HasFailed seen new fault (recorded_then false p more said) (λ says. (part says r).handed_on))

  -- a call does with a datagram that came at a second what a part of a run does with it, and finishes no file
  abbrev pub FollowsWith : (Arrival → Part) → Header → ℕ → List ℕ → PeerState F → PeerState F → Result (Unit {0}) RecordFault → Type 0
  FollowsWith part h second m old new answer = Follows (part (arrival h second m)) false old new answer

  -- ---- a datagram that comes

  -- one that has a header takes its place; any other is refused, and nothing else changes
  abbrev pub TakesBy : Result Header MessageFault → PeerState F → PeerState F → List ℕ → ℕ → Result (Unit {0}) RecordFault → Type 0
  TakesBy (Ok h) old new m second answer = FollowsWith arriving h second m old new answer
  TakesBy (Err fault) old new m second answer = (answer ≡ Ok tt) × (new ≡ record old { refused = Some (one_more_refused old.refused fault) })

  abbrev pub Takes : PeerState F → PeerState F → List ℕ → ℕ → Result (Unit {0}) RecordFault → Type 0
  Takes old new m second answer = TakesBy (message_header m) (record old { heard = second }) new m second answer

  -- ---- a session in its turn

  -- a second began: what was refused is told, those whose time is over are handed on, the file is finished if a period is over, and the
  -- domains that went on are told
  pub record TakesTurn (old new : PeerState F) (second : ℕ) (is_over : Bool) (t : Turn) : Type 0 where
    pub refused : t.refused ≡ old.refused
    pub window : WindowView
    pub follows : Follows (λ says r. tick says second r) is_over (record old { refused = None }) (record new { window = window; resumptions_told = old.resumptions_told }) t.answer
    pub counts : TellsCounts is_over window t.orders.items new.window
    pub resumed : TellsResumed new.recorder.told.resumed t.resumed.items old new
