use Rattle.std.proofs.Common.{◌<◌, [], ◌∙◌, List, All, subst}
use Rattle.std.proofs.lemmas.List.Elements.{All-weaker}
use Rattle.ipfix_message.specs.declared.record.DataRecord.{DataRecord}
use Rattle.flow_table.specs.Fitting.{FitsPlan}
use Rattle.flow_table.specs.Plans.{PlanValue}
use Rattle.flow_table.specs.Tables.{IsRow, IsTable}
use Rattle.flow_table.specs.declared.table.Row.{Row}
use Rattle.flow_table.specs.declared.table.Table.{Table}
use Rattle.flow_table_tests.proofs.tests.tables.table_of_two.Goals as goal

some_flows : (plan : PlanValue) (rs : List DataRecord) (table : Table) → IsTable plan rs table → All (λ (row : Row). 0 < row.flows) table.rows.items
some_flows plan rs table is = All-weaker (IsRow plan rs) (λ (row : Row). 0 < row.flows) (λ row found. rw found.flows found.some) table.rows.items is.rows

pub returns-clause-fits : goal.returns-clause-fits
returns-clause-fits c =
    let one = c.in_ok-add.ensures.adds [] c.in_ok-partial.ensures.empty in
    let both = c.in_ok-add-2.ensures.adds _ one in
    let plan = c.in_ok-add-2.ensures.plan ∙ (c.in_ok-add.ensures.plan ∙ c.in_ok-partial.ensures.plan) in
    subst (λ (p : PlanValue). FitsPlan p c.in_ok-finish.field-0) plan (c.in_ok-finish.ensures.fits _ both)

pub returns-clause-some : goal.returns-clause-some
returns-clause-some c =
    let one = c.in_ok-add.ensures.adds [] c.in_ok-partial.ensures.empty in
    let both = c.in_ok-add-2.ensures.adds _ one in
    some_flows _ _ c.in_ok-finish.field-0 (c.in_ok-finish.ensures.table _ both)
