use Rattle.exporter_names.proofs.RecordedExporters.{recorded_at}
use Rattle.exporter_names.proofs.recorded_names.recorded_exporter.Goals as goal

pub returns : goal.returns
returns c = recorded_at c.args.path.now c.file_name.result.now c.exporter_in_name.result c.file_name.ensures c.exporter_in_name.ensures
