-- Each fault that ends a run is found by its name, in any letter case, but that memory was refused.
use Rattle.std.proofs.Common.{◌≡◌, ℕ, List, Option, Some, find, refl, sym, subst}
use Rattle.std.specs.Str.{bytes_eq, str_to_ascii_lowercase}
use Rattle.flow_plan.specs.declared.fault.PlanTextFault.TheVariants as texts
use Rattle.flow_table.specs.declared.plan_fault.PlanFault.TheVariants as plans
use Rattle.element_registry.specs.declared.fault.ElementsFault.TheVariants as elements
use Rattle.flow_collect.specs.declared.fault.CollectFault.TheVariants as collects
use Rattle.flow_merge.specs.declared.merge_fault.MergeFault.TheVariants as merges
use Rattle.flow_merge.specs.declared.row_fault.RowFault.TheVariants as rows
use Rattle.flow_export.specs.declared.fault.ExportFault.TheVariants as exports
use Rattle.ipfix_dump.specs.declared.fault.DumpFault.TheVariants as dumps
use Rattle.receipt_merging.specs.declared.part_fault.PartFault.TheVariants as parts
use Rattle.command_collect.specs.declared.receipts.fault.ReceiptFault.TheVariants as receipts
use Rattle.command_explain.specs.declared.run_faults.RunFault.{RunFault}
use Rattle.command_explain.specs.declared.run_faults.RunFault.TheVariants.{PlanText, Plan, Elements, Collect, Merge, Row, Part, Export, Dump, Receipt}
use Rattle.command_explain.specs.declared.run_faults.TheConstants.{RUN_FAULTS}
use Rattle.command_explain.specs.Explained.{IsNameOf}
use Rattle.command_explain.specs.RunFaults.{IsListed, listed_of, name_of, run_fault_of}

-- the fault that a word names, of the word in lower case
found : List ℕ → Option RunFault
found lower = find (λ fault. bytes_eq lower (str_to_ascii_lowercase (name_of fault))) RUN_FAULTS

-- (the line of a part lets each of these faults be a case of its own)
by_name : (fault : RunFault) → IsListed fault → found (str_to_ascii_lowercase (name_of fault)) ≡ Some (listed_of fault)
unfolding found
by_name (PlanText texts.OutOfMemory) listed = absurd (listed refl)
by_name (Plan plans.OutOfMemory) listed = absurd (listed refl)
by_name (Elements elements.OutOfMemory) listed = absurd (listed refl)
by_name (Collect collects.OutOfMemory) listed = absurd (listed refl)
by_name (Merge merges.OutOfMemory) listed = absurd (listed refl)
by_name (Row rows.OutOfMemory) listed = absurd (listed refl)
by_name (Export exports.OutOfMemory) listed = absurd (listed refl)
by_name (Dump dumps.OutOfMemory) listed = absurd (listed refl)
by_name (Receipt receipts.OutOfMemory) listed = absurd (listed refl)
by_name (Part parts.Receipt) listed = refl
by_name fault listed = refl

pub each : (word : List ℕ) (fault : RunFault) → IsNameOf word fault → run_fault_of word ≡ Some (listed_of fault)
unfolding found run_fault_of
each word fault is = subst (λ (lower : List ℕ). found lower ≡ Some (listed_of fault)) (sym is.1) (by_name fault is.0)
