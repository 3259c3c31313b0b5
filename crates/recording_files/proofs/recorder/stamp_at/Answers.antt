use Rattle.std.proofs.Common.{◌<◌, ◌^◌, rules}
use Rattle.recording_files.proofs.recorder.stamp_at.Goals as goal

pub returns-clause-fits : goal.returns-clause-fits
returns-clause-fits c =
    let time : c.args.header.export_time < 2 ^ 32 = search rules in
    let sequence : c.args.header.sequence < 2 ^ 32 = search rules in
    let domain : c.args.header.domain < 2 ^ 32 = search rules in
    record { export_time = time; sequence = sequence; domain = domain }
