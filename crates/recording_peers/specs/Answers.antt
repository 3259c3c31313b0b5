-- The answers of a source of datagrams, one for each time that it was asked.
use Rattle.std.specs.Prelude.{ℕ, List, ◌++◌, take, Result, Ok, Err}
use Rattle.std.specs.declared.net.socket_addr.SocketAddr.{SocketAddr}
use Rattle.recording_peers.specs.declared.datagram_source.Datagram.{Datagram}
use Rattle.recording_peers.specs.declared.datagram_source.NoDatagram.{NoDatagram}

-- a datagram with its peer, or why there was none
abbrev pub Answer : Type 0
Answer = Result (SocketAddr × List ℕ) NoDatagram

-- a datagram stands at the beginning of a buffer
abbrev pub answer_of : Result Datagram NoDatagram → List ℕ → Answer
answer_of (Ok d) buffer = Ok (d.peer, take d.length buffer)
answer_of (Err why) buffer = Err why

-- whatever a source had answered before, it has answered that and these now
abbrev pub Gives : {S : Type 0} → (S → List Answer → Type 0) → List Answer → S → S → Type 0
Gives answered these old new = (before : List Answer) → answered old before → answered new (before ++ these)
