use Rattle.std.proofs.Common.{map}
use Rattle.receipt_merging.specs.Parts.{part_value}
use Rattle.command_merge_receipts.proofs.Taken.{twice_refused, within_files}
use Rattle.command_merge_receipts.proofs.taking.take_parts.Goals as goal

pub part_fault-requires : goal.part_fault-requires
part_fault-requires g c =
    within_files (g.T.ReadText.has c.args.texts.now) c.args.job.now.plan c.args.job.now.parts.now (map part_value c.in-Ok.parts.items) c.in-OtherPlan.place c.in-Ok.ensures.read c.in-OtherPlan.ensures.within

pub part_fault-requires-in-Incomplete : goal.part_fault-requires-in-Incomplete
part_fault-requires-in-Incomplete g c =
    within_files (g.T.ReadText.has c.args.texts.now) c.args.job.now.plan c.args.job.now.parts.now (map part_value c.in-Ok.parts.items) c.in-Incomplete.place c.in-Ok.ensures.read c.in-Incomplete.ensures.2.within

pub returns-in-InputTwice-clause-refused : goal.returns-in-InputTwice-clause-refused
returns-in-InputTwice-clause-refused g c =
    twice_refused (g.T.ReadText.has c.args.texts.now) (g.T.ReadText.refuses c.args.texts.now) c.args.job.now c.in-InputTwice.merged c.in-InputTwice.first c.in-InputTwice.second
    (record { parts = map part_value c.in-Ok.parts.items; read = c.in-Ok.ensures.read; judged = c.in-InputTwice.ensures })
    c.in-Ok-tables_of.tables.items (rw c.deref.ensures.value at c.in-Ok-tables_of.ensures) c.twice.result (rw c.deref-in-InputTwice.ensures.value at c.twice.ensures)
