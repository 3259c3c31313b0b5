use Rattle.flow_table.proofs.Fits.{tables_fit_of}
use Rattle.flow_table.proofs.laws.tables_fit.Goals as goal

pub returns : goal.returns
returns c = tables_fit_of
