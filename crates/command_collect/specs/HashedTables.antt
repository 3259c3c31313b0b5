-- How a table was written whose text is hashed.
use Rattle.std.specs.Prelude.{ℕ, List, Option, IfOk, length}
use Rattle.element_registry.specs.Registries.{Known}
use Rattle.flow_export.specs.AnyTables.{intervals_of, rows_of, table_in}
use Rattle.flow_export.specs.declared.any_table.AnyTable.{AnyTable}
use Rattle.flow_table.specs.Plans.{PlanValue}
use Rattle.output_tables.specs.TableTexts.{IsTooMany, WritesAny, export_text_in}
use Rattle.output_tables.specs.declared.output.Output.{Output}
use Rattle.command_collect.specs.Digests.{IsDigestOfAppended}
use Rattle.command_collect.specs.declared.receipts.hashed_table.WrittenTable.{WrittenTable}

-- a table has more rows than may be written so
abbrev pub HasTooMany : Output → AnyTable → Type 0
HasTooMany output table = IsTooMany output.format (length (rows_of table))

module _ {W : Type 0} (contents : W → Option (List ℕ)) (known : List Known) (plan : PlanValue) (output : Output) (table : AnyTable) (old : W) (written : WrittenTable W) where
  -- unless there is a fault, the table was written, and nothing else
  abbrev pub WritesHashed : Type 0
  WritesHashed = IfOk written.answer (λ text. WritesAny known plan output (contents old) (contents written.out) table)

  -- and its digest is that of the text that was written
  abbrev pub HasDigestOfTable : Type 0
  HasDigestOfTable =
      IfOk written.answer (λ text. IsDigestOfAppended (contents old) text (export_text_in (intervals_of table) known output plan (table_in table)))
