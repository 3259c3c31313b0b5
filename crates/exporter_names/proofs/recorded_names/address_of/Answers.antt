use Rattle.std.proofs.Common.{◌<◌, ◌^◌, arith}
use Rattle.exporter_names.proofs.RecordedExporters.{recorded_in}
use Rattle.exporter_names.proofs.recorded_names.address_of.Goals as goal

pub returns : goal.returns
returns c =
    let is = c.requires in
    let port : c.args.port < 2 ^ 16 = omega arith in
    let number : c.args.number < 2 ^ 64 = omega arith in
    recorded_in c.args.name.now (record { address = c.args.address.now; port = c.args.port; transport = is.transport; number = c.args.number }) is.copy c.read_address.result (port, number) is.few is.name_is c.read_address.ensures
