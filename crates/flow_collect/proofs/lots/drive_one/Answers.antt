use Rattle.std.proofs.Common.{ap, sym, ◌∙◌, arith}
use Rattle.flow_collect.proofs.Serials.{none_lost, runs_one, table_view}
use Rattle.flow_collect.proofs.SessionSinks.{went_through}
use Rattle.flow_collect.proofs.lots.drive_one.Goals as goal

pub returns : goal.returns
returns g c =
    let last = c.drive_in_full-full.new.sink in
    let went = went_through g.S.Source.seen table_view c.args.next c.drive_in_full-full.new.source c.drive_in_full-full.result _ _ c.in_ok-sinks.sinks last
    c.in_ok-sinks.ensures (none_lost last.lost (sym c.if-is_some.false ∙ c.is_some.ensures)) (omega (arith, c.if-sinks-gt0.false)) (rw c.limits.ensures at c.drive_in_full-full.ensures) c.told_at_end-report.ensures.told in
    runs_one g.S.Source.seen c.args.next c.args.lot _ c.drive_in_full-full.new.source _ last.sink.sink.sink.sink went
    (ap (λ s. s.partial) c.told_at_end-report.ensures.sink) c.in_ok-push.ensures.items c.in_ok-push-2.ensures.items
