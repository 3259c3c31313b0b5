use Rattle.std.proofs.Common.{◌+◌, List, [], ◌∷◌, ◌++◌, take, sym, ◌∙◌, subst}
use Rattle.std.proofs.lemmas.List.{take_more}
use Rattle.ipfix_message.specs.declared.record.DataRecord.{DataRecord}
use Rattle.flow_table.specs.Partials.{StandsFor}
use Rattle.flow_export_tests.proofs.tests.tables.partial_of.Goals as goal

pub loop-record-preserved : goal.loop-record-preserved
loop-record-preserved c =
    let before = take c.loop-record.record-index c.args.records.now in
    let added = c.add.ensures.adds before c.loop-record.invariant.1 in
    let here = subst (λ (r : DataRecord). StandsFor c.add.new.self (before ++ r ∷ [])) c.record-item.is added in
    (c.add.ensures.plan ∙ c.loop-record.invariant.0, subst (λ (rs : List DataRecord). StandsFor c.add.new.self rs) (sym (take_more c.args.records.now c.loop-record.record-index c.record-item.result c.loop-record-test.true)) here)
