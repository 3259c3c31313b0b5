use Rattle.exporter_options.proofs.RateFields.{read_back}
use Rattle.exporter_options.proofs.laws.rates_are_read_back.Goals as goal

pub returns : goal.returns
returns c = read_back
