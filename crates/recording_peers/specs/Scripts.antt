-- The answers of a script.
use Rattle.std.specs.Prelude.{◌≡◌, ◌<◌, ℕ, true, List, ◌++◌, length, map, take, replicate, slice_get, Option, Some, None, Result, Ok, Err}
use Rattle.recording_peers.specs.declared.datagram_source.NoDatagram.{NoDatagram}
use Rattle.recording_peers.specs.declared.datagram_source.NoDatagram.TheVariants.{Tick}
use Rattle.recording_peers.specs.declared.script_datagrams.ScriptDatagrams.{ScriptDatagrams}
use Rattle.recording_peers.specs.declared.script_datagrams.ScriptedDatagram.{ScriptedDatagram}
use Rattle.recording_peers.specs.Answers.{Answer}

abbrev pub scripted : Result ScriptedDatagram NoDatagram → Answer
scripted (Ok d) = Ok (d.peer, d.octets.items)
scripted (Err why) = Err why

-- so many of a script, and after its last one ticks
pub record AreFirst (script : List (Result ScriptedDatagram NoDatagram)) (count : ℕ) (answers : List Answer) : Type 0 where
  pub ticks : ℕ
  pub are : answers ≡ map scripted (take count script) ++ replicate ticks (Err Tick)
  pub behind_all : count < length script → ticks ≡ 0

-- the source gives no answer that contracts see any more
abbrev pub IsStuck : ScriptDatagrams → Type 0
IsStuck s = s.is_stuck ≡ true

-- an answer of a script is a datagram that is longer than so many octets
abbrev pub IsTooLong : ℕ → Option (Result ScriptedDatagram NoDatagram) → Type 0
IsTooLong room (Some (Ok d)) = room < length d.octets.items
IsTooLong room (Some (Err why)) = ⊥
IsTooLong room None = ⊥

-- so its next answer is
abbrev pub NextIsTooLong : ℕ → ScriptDatagrams → Type 0
NextIsTooLong room s = IsTooLong room (slice_get s.script.items s.next)
