use Rattle.std.proofs.Common.{◌≡◌, ◌-◌, length, suc}
use Rattle.period_collect.proofs.TablesOfRuns.{LeftOut}
use Rattle.period_collect.proofs.table_maker.make_table.Given as goal

-- so far
abbrev pub invariant-loop-out : goal.invariant-loop-out
invariant-loop-out g l =
    LeftOut l.period.begins l.files l.initial.maker l.maker l.out.items
    × (l.maker.job ≡ l.initial.maker.job)

abbrev pub decreases-loop-out : goal.decreases-loop-out
decreases-loop-out g l = suc (length l.files) - length l.out.items
