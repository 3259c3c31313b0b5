use Rattle.command_merge_receipts.proofs.TextsAdded.{adds_if_ok}
use Rattle.command_tables.proofs.texts.merged.add_source.Goals as goal

pub returns-clause-adds : goal.returns-clause-adds
returns-clause-adds g c = λ text held.
    adds_if_ok g.S.Source.seen _ c.args.merging c.args.source.now c.read.new.source text c.read.result held (g.met.S.Source.ended_is_end c.read.new.source) c.read.ensures.ok
