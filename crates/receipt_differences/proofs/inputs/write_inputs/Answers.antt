use Rattle.table_receipts.specs.Values.{input_value}
use Rattle.table_receipts.specs.declared.receipt.InputReceipt.{InputReceipt}
use Rattle.receipt_differences.specs.Orders.{values_of}
use Rattle.receipt_differences.specs.Inputs.{input_differs}
use Rattle.receipt_differences.proofs.Steps.{one_more}
use Rattle.receipt_differences.proofs.inputs.write_inputs.Goals as goal

pub loop-input-preserved : goal.loop-input-preserved
loop-input-preserved g c =
    let line = λ (i : InputReceipt). input_differs (values_of c.args.own.now) (values_of c.args.others.now) (input_value i) in
    record {
      told = one_more line (g.E.WriteLines.lines c.args.err.now).contents (g.E.WriteLines.lines c.loop-input.err).contents (g.E.WriteLines.lines c.write_input.new.err).contents
          c.args.inputs.now c.loop-input.input-index c.input-item.result c.loop-input-test.true c.input-item.is c.loop-input.invariant.told c.in_ok-write_input.ensures.told;
      kept = λ failed. c.write_input.ensures.kept (c.loop-input.invariant.kept failed);
    }
