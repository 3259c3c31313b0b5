use Rattle.std.proofs.Common.{sym, subst}
use Rattle.flow_merge.specs.RowSink.{TakesRecord}
use Rattle.flow_merge.proofs.RowsRead.{takes_more, takes_still}
use Rattle.flow_merge.proofs.row_sink.RowSinkSink.put.Goals as goal
use Rattle.flow_merge.proofs.row_sink.RowSinkSink.put.Goals.{then-is_none, else-is_none}

pub returns-clause-ok : goal.returns-clause-ok
returns-clause-ok c =
    elim c.if-is_none.branch [
      | then-is_none w ↦
          subst (TakesRecord c.args.self.now c.args.item) (sym w.self-is)
          (takes_more c.args.self.now c.args.item w.saturating_add-self.result w.add.new.self w.err-self.result w.add.result w.if-is_none.ensures w.saturating_add-self.ensures w.err-self.ensures.value w.add.ensures.plan w.add.ensures.intervals w.add.ensures.holds)
      | else-is_none w ↦ subst (TakesRecord c.args.self.now c.args.item) (sym w.self-is) (takes_still c.args.self.now c.args.item w.if-is_none.ensures)
    ]
