use Rattle.flow_merge.proofs.ExportsRead.{adds_export, due_report, due_row, same_intervals, same_plan}
use Rattle.flow_merge.proofs.merging.Merging.read.Goals as goal

pub returns-in_err-judge-clause-fault : goal.returns-in_err-judge-clause-fault
returns-in_err-judge-clause-fault g c = λ rows stands.
    due_report g.S.Source.seen c.args.limit c.args.source.now c.drive-report.new.source c.drive-report.result c.args.self c.drive-report.new.sink c.drive-report.ensures
    rows stands c.from_residual.result c.in_err-judge.field-0.0 c.in_err-judge.ensures.fault c.from_residual.ensures.1

pub returns-in-Some-clause-fault : goal.returns-in-Some-clause-fault
returns-in-Some-clause-fault g c = λ rows stands.
    due_row g.S.Source.seen c.args.limit c.args.source.now c.drive-report.new.source c.drive-report.result c.args.self c.drive-report.new.sink c.drive-report.ensures
    rows stands c.in-Some.fault c.in_ok-judge.ensures.ok c.in-Some.is

pub returns-clause-plan : goal.returns-clause-plan
returns-clause-plan g c =
    same_plan g.S.Source.seen c.args.limit c.args.source.now c.drive-report.new.source c.drive-report.result c.args.self c.drive-report.new.sink c.drive-report.ensures

pub returns-clause-intervals : goal.returns-clause-intervals
returns-clause-intervals g c =
    same_intervals g.S.Source.seen c.args.limit c.args.source.now c.drive-report.new.source c.drive-report.result c.args.self c.drive-report.new.sink c.drive-report.ensures

pub returns-clause-ok : goal.returns-clause-ok
returns-clause-ok g c = λ rows stands.
    adds_export g.S.Source.seen c.args.limit c.args.source.now c.drive-report.new.source c.drive-report.result c.args.self c.drive-report.new.sink c.drive-report.ensures
    rows stands c.in_ok-judge.ensures.ok c.in-None.is
