use Rattle.std.proofs.Common.{ℕ, List, map, subst}
use Rattle.std.specs.Io.KnownBytes.{Appends}
use Rattle.report_writing.specs.Writing.{Tells}
use Rattle.table_receipts.specs.Values.{input_value}
use Rattle.receipt_differences.specs.Inputs.{file_differs, input_differs}
use Rattle.receipt_differences.proofs.Ordered.{told_of_files, told_of_inputs}
use Rattle.receipt_differences.proofs.Steps.{after, of_values}
use Rattle.receipt_differences.proofs.inputs.write_input_differences.Goals as goal

pub returns : goal.returns
returns g c =
    let a = c.args in
    let lines = g.E.WriteLines.lines in
    let inputs = map input_value a.inputs.now in
    let files = map input_value a.files.now in
    let first = subst (λ (l : List ℕ). Appends (lines a.err.now).contents (lines c.write_inputs.new.err).contents l)
    (told_of_inputs a.inputs.now a.files.now a.own.now a.others.now c.requires.of_inputs.same c.requires.of_files.same) c.in_ok-write_inputs.ensures.told in
    let last = subst (λ (l : List ℕ). Tells lines c.write_inputs.new.err c.write_files.new.err c.write_files.result l)
    (told_of_files a.inputs.now a.files.now a.own.now a.others.now c.requires.of_inputs.same c.requires.of_files.same) c.write_files.ensures in
    rw (of_values (input_differs inputs files) input_value a.inputs.now, of_values (file_differs inputs files) input_value a.files.now)
    (after lines a.err.now c.write_inputs.new.err c.write_files.new.err c.write_files.result _ _ first c.write_inputs.ensures.kept last)
