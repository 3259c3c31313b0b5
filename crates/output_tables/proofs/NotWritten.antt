-- Why a table was not written, from what the export says of its answer.
use Rattle.std.proofs.Common.{ℕ, Err, ap}
use Rattle.std.specs.Prelude.{◌↔◌, IsErrOf}
use Rattle.flow_export.specs.declared.fault.ExportFault.{ExportFault}
use Rattle.flow_export.specs.declared.fault.ExportFault.TheVariants.{TooManyRows}
use Rattle.output_tables.specs.TableTexts.{IsNotWritten, IsTooMany}
use Rattle.output_tables.specs.declared.output.Output.{Output}

pub not_written : {X : Type 0} (output : Output) (rows : ℕ) (IsUntouched : Type 0) (fault : ExportFault)
    → (IsErrOf {T = X} (Err fault) TooManyRows ↔ IsTooMany output.format rows) → (IsErrOf {T = X} (Err fault) TooManyRows → IsUntouched) → IsNotWritten output rows IsUntouched fault
not_written output rows IsUntouched fault many untouched = record { many = (λ is. many.0 (ap Err is), λ over. cc (many.1 over)); untouched = λ is. untouched (ap Err is) }
