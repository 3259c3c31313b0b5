use Rattle.laws_merge.proofs.ExportersAdded.{exporters_sum}
use Rattle.laws_merge.proofs.laws.exporters_add_up.Goals as goal

pub returns : goal.returns
returns c = λ plan rs table is known k key. exporters_sum plan k key rs table is known
