use Rattle.std.proofs.Common.{refl, List, sym, subst, ◌++◌}
use Rattle.flow_table.specs.AddedUp.{AddUpTooLarge}
use Rattle.flow_table.specs.SameTables.{RowValue}
use Rattle.flow_merge.specs.Merging.{merging_plan, StandsFor}
use Rattle.laws_merge.specs.Exports.{IsExportFault}
use Rattle.laws_merge.proofs.HeldExports.{adds_own, own_fault}
use Rattle.laws_merge.proofs.laws.exports_are_added_whole.Goals as goal

pub returns-clause-added : goal.returns-clause-added
returns-clause-added g c = λ limit before after old new rows own held of_plan adds.
    subst (λ (more : List RowValue). StandsFor new (rows ++ more)) (sym held.rows_are)
    (adds_own g.S.Source.seen limit before after (g.met.S.Source.ended_is_end after) (merging_plan old) held.records held.holds old new rows refl of_plan adds)

pub returns-clause-fault : goal.returns-clause-fault
returns-clause-fault g c = λ limit before after plan rows own fault held due.
    subst (λ (more : List RowValue). IsExportFault (AddUpTooLarge (rows ++ more)) fault) (sym held.rows_are)
    (own_fault g.S.Source.seen limit before after (g.met.S.Source.ended_is_end after) plan held.records held.holds rows fault due)
