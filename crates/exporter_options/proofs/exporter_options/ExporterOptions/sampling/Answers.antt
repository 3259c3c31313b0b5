use Rattle.exporter_options.proofs.Numbers.{or_none}
use Rattle.exporter_options.proofs.exporter_options.ExporterOptions.sampling.Goals as goal

pub returns-in-None : goal.returns-in-None
returns-in-None c = rw (← c.self.view_is) (or_none _ _ _ c.in-None.ensures c.find_told-in-None.ensures)
