-- A row added to the totals of rows.
use Rattle.std.proofs.Common.{◌≡◌, ℕ, ◌<◌, List, [], ◌∷◌, ◌++◌, length, Some, Result, Ok, Err, OnOk, IfErr}
use Rattle.flow_rows.specs.Rows.{Small}
use Rattle.flow_table.specs.AddedUp.{AddUpTooLarge}
use Rattle.flow_table.specs.Plans.{PlanValue}
use Rattle.flow_table.specs.RowTotals.{HoldsRows}
use Rattle.flow_table.specs.Rows.{AddsRow, AreAlike, TooLargeWith, number_at}
use Rattle.flow_table.specs.SameTables.{RowValue}
use Rattle.flow_table.specs.Words.{key_words}
use Rattle.flow_table.specs.declared.rows.Rows.{Rows}
use Rattle.flow_table.specs.declared.table_fault.TableFault.{TableFault}
use Rattle.flow_table.specs.declared.table_fault.TableFault.TheVariants.{SumTooLarge}
use Rattle.flow_table.proofs.FlowAdded.{words_of_place}
use Rattle.flow_table.proofs.Kept.{add_joins, add_keeps, add_large, kept_small}
use Rattle.flow_table.proofs.RowsHeld.{held_large, held_more}

module _ (plan : PlanValue) (old new : Rows) (rows : List RowValue) (row : RowValue) (words : List ℕ) (are : key_words plan.kinds row.key ≡ Some words) (some : 0 < row.flows) (long : length row.sums ≡ length plan.counters) (held : HoldsRows plan old rows) where
  pub held_ok : (r : Result (Unit {0}) TableFault) → AreAlike new old → Small (number_at new) → OnOk r (AddsRow old (row.interval ∷ words) (row.flows ∷ row.sums) new) → OnOk r (HoldsRows plan new (rows ++ row ∷ []))
  held_ok (Ok x) alike small adds =
      held_more plan old new rows row held
      (add_keeps plan old new row.interval row.key (row.interval ∷ words) row.flows row.sums held.of_plan (words_of_place plan row.interval row.key words are) some long alike adds)
      (add_joins plan old new row.interval row.key (row.interval ∷ words) row.flows row.sums held.of_plan (words_of_place plan row.interval row.key words are) some long alike adds)
      (λ k q big. kept_small plan new k q small big)
  held_ok (Err e) alike small adds = tt

  pub held_err : (r : Result (Unit {0}) TableFault) → TooLargeWith r old (row.interval ∷ words) (row.flows ∷ row.sums)
      → IfErr r (λ e. e ≡ SumTooLarge → AddUpTooLarge (rows ++ row ∷ []))
  held_err (Ok x) large = tt
  held_err (Err e) large = λ same.
      held_large plan old rows row held
      (add_large plan old new row.interval row.key (row.interval ∷ words) row.flows row.sums held.of_plan (words_of_place plan row.interval row.key words are) some long (large same))
