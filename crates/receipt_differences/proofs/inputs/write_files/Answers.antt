use Rattle.table_receipts.specs.Values.{input_value}
use Rattle.table_receipts.specs.declared.receipt.InputReceipt.{InputReceipt}
use Rattle.receipt_differences.specs.Orders.{values_of}
use Rattle.receipt_differences.specs.Inputs.{file_differs}
use Rattle.receipt_differences.proofs.Steps.{one_more}
use Rattle.receipt_differences.proofs.inputs.write_files.Goals as goal

pub loop-file-preserved : goal.loop-file-preserved
loop-file-preserved g c =
    let line = λ (i : InputReceipt). file_differs (values_of c.args.own.now) (values_of c.args.others.now) (input_value i) in
    record {
      told = one_more line (g.E.WriteLines.lines c.args.err.now).contents (g.E.WriteLines.lines c.loop-file.err).contents (g.E.WriteLines.lines c.write_file.new.err).contents
          c.args.files.now c.loop-file.file-index c.file-item.result c.loop-file-test.true c.file-item.is c.loop-file.invariant.told c.in_ok-write_file.ensures.told;
      kept = λ failed. c.write_file.ensures.kept (c.loop-file.invariant.kept failed);
    }
