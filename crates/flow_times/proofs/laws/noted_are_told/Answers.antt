use Rattle.flow_times.proofs.Untimed.{noted_told}
use Rattle.flow_times.proofs.laws.noted_are_told.Goals as goal

pub returns : goal.returns
returns c = λ noting rs. noted_told noting rs
