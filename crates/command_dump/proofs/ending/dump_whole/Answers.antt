use Rattle.std.proofs.Common.{rules}
use Rattle.command_dump.proofs.FullDumped.{flushed}
use Rattle.command_dump.proofs.ending.dump_whole.Goals as goal

pub returns-in-Ok : goal.returns-in-Ok
returns-in-Ok g c =
    flushed g.S.Source.seen _ _ c.args.source.now c.dump_with.new.source (g.W.Write.contents c.args.out.now) (g.W.Write.contents c.dump_with.new.out) (g.W.Write.contents c.flush.new.self) c.in_ok-full.full
    c.in_ok-full.ensures (search rules)
