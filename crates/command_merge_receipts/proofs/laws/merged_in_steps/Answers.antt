use Rattle.std.proofs.Common.{refl}
use Rattle.command_merge_receipts.proofs.Steps.{all_steps}
use Rattle.command_merge_receipts.proofs.laws.merged_in_steps.Goals as goal

pub returns-clause-one : goal.returns-clause-one
returns-clause-one c = λ job parts text table has. record { inputs = refl; records = refl; left_out = refl; complete = refl }

pub returns-clause-together : goal.returns-clause-together
returns-clause-together c = all_steps
