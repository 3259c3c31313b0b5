-- What was exported is read back.
use Rattle.std.proofs.Common.{ℕ, List, ap, ◌∙◌}
use Rattle.ipfix_session.specs.Given.{Given, records_in}
use Rattle.ipfix_session.specs.Ledger.{domain_report}
use Rattle.flow_table.specs.Plans.{PlanValue}
use Rattle.flow_table.specs.SameTables.{RowValue}
use Rattle.laws_export.specs.ReadBack.{CanBeExported, IsReadBack}
use Rattle.laws_export.proofs.Room.{CanBeWritten}
use Rattle.flow_export.proofs.PlanFacts.{has_room}
use Rattle.laws_export.proofs.Hundreds.{read_all, text_gives, all_records}
use Rattle.laws_export.proofs.NoLoss.{all_count, no_loss}

pub read_all_back : (plan : PlanValue) (time : ℕ) (rows : List RowValue) → CanBeExported plan time rows → IsReadBack plan time rows
read_all_back plan time rows export =
    let can : CanBeWritten plan time rows = record { room = has_room plan export.is_plan; small_time = export.small_time; few = export.few; fit = export.fit } in
    let given = text_gives plan time rows can in
    let account = λ (domain : ℕ). no_loss (read_all plan time rows) domain (all_count plan time rows can) in
    record {
      stop = ap (λ (g : Given). g.stop) given;
      records = ap (λ (g : Given). records_in g.messages) given ∙ all_records plan time rows;
      lost = λ domain. ap (λ (g : Given). (domain_report g.messages domain).lost) given ∙ (account domain).0;
      backward = λ domain. ap (λ (g : Given). (domain_report g.messages domain).backward) given ∙ (account domain).1;
    }
