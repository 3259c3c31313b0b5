use Rattle.std.proofs.Common.{◌+◌}
use Rattle.std.specs.Prelude.{codes}
use Rattle.std.proofs.KnownBytes.{Appends-trans}
use Rattle.std.proofs.lemmas.Result.{on_ok_weaker}
use Rattle.report_writing.specs.Origins.{number_text, origin_text, session_start}
use Rattle.command_collect.specs.Large.{origin_at}
use Rattle.command_collect.proofs.large.write_session.Goals as goal

pub returns : goal.returns
returns g c =
    let place = c.args.place in
    let origin = origin_at c.args.origins.now place in
    let start = Appends-trans _ _ _ (number_text (place + 1)) (origin_text origin) c.in_ok-write_number.ensures.told c.in_ok-write_origin_at.ensures.told in
    record {
      told = on_ok_weaker c.writeln.result (λ h. Appends-trans _ _ _ (session_start (place + 1) origin) (codes ": a counter is above 9223372036854775808\n") start h) c.writeln.ensures.bytes;
      failed = c.writeln.ensures.failed;
      kept = λ failed. c.writeln.ensures.kept (c.write_origin_at.ensures.kept (c.write_number.ensures.kept failed));
    }
