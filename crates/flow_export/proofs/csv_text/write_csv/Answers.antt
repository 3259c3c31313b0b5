use Rattle.std.proofs.Common.{List, subst}
use Rattle.std.specs.Prelude.{OnOk}
use Rattle.ipfix_elements.specs.Writers.{Writes}
use Rattle.element_registry.specs.Registries.{Known}
use Rattle.flow_table.specs.AddedUp.{rows_in}
use Rattle.flow_export.specs.CsvText.{csv_text}
use Rattle.flow_export.proofs.csv_text.write_csv.Goals as goal

pub returns-clause-ok : goal.returns-clause-ok
returns-clause-ok g c =
    subst (λ (known : List Known). OnOk c.write_table.result (Writes g.W.Write.contents c.args.out.now c.write_table.new.out (csv_text known c.args.plan.now (rows_in c.args.table.now))))
    c.built_in-elements.ensures c.write_table.ensures.ok
