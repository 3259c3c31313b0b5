use Rattle.std.proofs.Common.{◌≡◌, length, All, Option, IfSome}
use Rattle.std.specs.Duration.{as_nanos}
use Rattle.std.specs.declared.time.Duration.{Duration}
use Rattle.report_writing.specs.Told.{AreTold}
use Rattle.std.specs.declared.net.socket_addr.SocketAddr.{SocketAddr}
use Rattle.report_writing.specs.declared.reason.Reason.{Reason}
use Rattle.input_sources.specs.Origins.{ArePeers}
use Rattle.input_sources.specs.Had.{NextOnes}
use Rattle.input_sources.specs.InputsTold.{opened_lines}
use Rattle.input_sources.proofs.accepting.accept_each.Given as goal

-- so many connections were accepted, each of them once, and none with a limit of no time
abbrev pub invariant-loop-number : goal.invariant-loop-number
invariant-loop-number g l = record {
  one_each : length l.sources ≡ l.number;
  asked : All (g.L.Listener.gives l.fn.listener l.fn.idle) l.sources;
  came : NextOnes (g.L.Listener.coming l.fn.listener) (g.L.Listener.coming l.listener) l.sources;
  same : (limit : Option Duration) (source : _) → g.L.Listener.gives l.listener limit source → g.L.Listener.gives l.fn.listener limit source;
  in_time : IfSome l.fn.idle (λ limit. as_nanos limit ≡ 0 → l.number ≡ 0);
  count : length l.origins.items ≡ l.number;
  peers : ArePeers (g.L.Listener.is_of l.fn.listener) l.sources l.origins.items;
  same_peer : (source : _) (address : SocketAddr) → g.L.Listener.is_of l.listener source address → g.L.Listener.is_of l.fn.listener source address;
  same_reason : (reason : Reason) → g.L.Listener.refuses l.listener reason → g.L.Listener.refuses l.fn.listener reason;
  told : AreTold (g.E.WriteLines.lines l.fn.err).contents (g.E.WriteLines.lines l.err).contents (g.E.WriteLines.lines l.err).failed (opened_lines l.fn.verbosity l.origins.items);
  kept : (g.E.WriteLines.lines l.fn.err).failed → (g.E.WriteLines.lines l.err).failed;
}
