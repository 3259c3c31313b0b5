-- Peers that are kept, and what happened to each (RFC 7011, section 10.3).
use Rattle.std.specs.Prelude.{List}
use Rattle.recording_files.specs.Files.{FilesView}
use Rattle.recording_peers.specs.declared.peer_limits.PeerLimits.{PeerLimits}
use Rattle.recording_peers.specs.declared.peer_state.PeerState.{PeerState}
use Rattle.recording_order.specs.Releases.{Course}
use Rattle.recording_peers.specs.Happenings.{Happening, came_with_header, events_of}
use Rattle.recording_peers.specs.Kept.{HasRecorded, IsReleased, Recording, says_of}
use Rattle.recording_peers.specs.Sessions.{PeerHappenings, StandFor}
use Rattle.recording_peers.specs.Steps.{PeerSessions}

-- the session of each peer stands for its own
pub record Standing {F : Type 0} (seen : F → FilesView) : Type 0 where
  pub limits : PeerLimits
  pub sessions : PeerSessions F
  pub own : PeerHappenings
  pub stand : StandFor seen limits sessions own

-- and so of these
abbrev pub StandIn : {F : Type 0} {seen : F → FilesView} → Standing seen → PeerSessions F → PeerHappenings → Type 0
StandIn {F} {seen} s es cs = StandFor seen s.limits es cs

-- a session in which none waits any more: its files have all that is released of what happened to its peer
pub record Released {F : Type 0} (seen : F → FilesView) : Type 0 where
  pub session : PeerState F
  pub limits : PeerLimits
  pub happened : List Happening
  pub recording : Recording
  pub is : IsReleased seen session limits happened recording

-- what came to its peer
abbrev pub course_of : {F : Type 0} {seen : F → FilesView} → Released seen → Course
course_of r = record { says = says_of r.recording.said; seconds = r.limits.reorder; events = events_of r.happened }

-- they have all that came, as it came
abbrev pub HasAllThatCame : {F : Type 0} {seen : F → FilesView} → Released seen → Type 0
HasAllThatCame {F} {seen} r = HasRecorded seen r.session r.recording (came_with_header r.happened)
