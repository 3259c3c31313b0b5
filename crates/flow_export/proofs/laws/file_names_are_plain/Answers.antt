use Rattle.std.proofs.Common.{◌≡◌, refl, Result, Ok, Err, IfOk}
use Rattle.flow_export.specs.PlainNames.{HavePlainNames}
use Rattle.element_registry.specs.Files.{with_file}
use Rattle.flow_export.proofs.FileNames.{file_plain}
use Rattle.flow_export.proofs.laws.file_names_are_plain.Goals as goal

if_ok : {X E : Type 0} (P : X → Type 0) (r : Result X E) → ((x : X) → r ≡ Ok x → P x) → IfOk r P
if_ok P (Ok x) has = has x refl
if_ok P (Err e) has = tt

pub returns : goal.returns
returns c = λ files rows. if_ok HavePlainNames (with_file files.known rows) (λ all ok. file_plain files.known all rows files.plain ok)
