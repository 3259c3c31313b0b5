-- What it is that nothing differs.
use Rattle.std.proofs.Common.{◌≡◌, ◌∙◌, ℕ, List, [], ◌++◌, sym, ap, subst}
use Rattle.std.specs.Prelude.{codes}
use Rattle.ipfix_session.specs.Sources.{SourceView}
use Rattle.report_writing.specs.declared.origin.Origin.{Origin}
use Rattle.table_receipts.specs.Values.{InputValue, ReceiptValue, receipt_value}
use Rattle.flow_collect.specs.InFull.{fulls_in}
use Rattle.receipt_differences.specs.Differences.{counts_differ, rows_differ, table_differs}
use Rattle.receipt_differences.specs.DifferenceLines.{other_unless}
use Rattle.receipt_differences.specs.Inputs.{HaveSameInputs, inputs_differ}
use Rattle.receipt_differences.specs.Remade.{bool_same, complete_with, remade_differs, text_differs}
use Rattle.receipt_differences.proofs.Silent.{both_empty, its_table, same_inputs, same_text}
use Rattle.command_collect.specs.declared.job.CollectJob.{CollectJob}
use Rattle.command_collect.specs.Inputs.{inputs_of}
use Rattle.command_collect.specs.Remade.{IsRemade}
use Rattle.command_collect.specs.declared.receipts.making.MadeWith.{MadeWith}
use Rattle.command_collect.specs.declared.receipts.remaking.Remade.{Remade}
use Rattle.table_remaking.specs.Again.{IsVerified, again_differs}

-- a receipt that was made has the inputs of its run
pub verified_of : {S : Type 0} (seen : S → SourceView) (job : CollectJob) (made : MadeWith) (said : ReceiptValue) (table : List ℕ) (sources : List S) (origins : List Origin) (remade : Remade)
    → IsRemade seen job made sources origins remade → again_differs said table (receipt_value remade.receipt) remade.text.items ≡ [] → IsVerified seen job said table sources origins
verified_of seen job made said table sources origins remade is silent =
    let found = receipt_value remade.receipt in
    let one = both_empty (table_differs said.table table) (remade_differs found said ++ text_differs remade.text.items table) silent in
    let two = both_empty (remade_differs found said) (text_differs remade.text.items table) one.1 in
    let three = both_empty (inputs_differ said.inputs found.inputs) (counts_differ found.records said.records ++ (rows_differ found.table said.table ++ other_unless (bool_same (complete_with found.complete said.left_out) said.complete) (codes "complete"))) two.0 in
    let inputs : found.inputs ≡ inputs_of job origins (fulls_in is.collected.sessions.items) is.digests = ap (λ (r : ReceiptValue). r.inputs) is.is_made.is.value in
    record {
      table_is = (its_table said.table table).0 one.0;
      collected = is.collected;
      collects = is.collects;
      first = is.first;
      digests = is.digests;
      are_digests = is.are_digests;
      same = subst (λ (l : List InputValue). HaveSameInputs said.inputs l) inputs ((same_inputs said.inputs found.inputs).0 three.0);
      text = sym ((same_text remade.text.items table).0 two.1) ∙ is.text_is;
    }
