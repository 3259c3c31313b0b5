use Rattle.std.proofs.Common.{◌+◌, ◌*◌, ◌-◌, ◌/◌}
use Rattle.flow_collect.proofs.lots.+halves.Given as goal

abbrev pub decreases-drive_lots : goal.decreases-drive_lots
decreases-drive_lots g l = 2 * l.lots

abbrev pub decreases-front : goal.decreases-front
decreases-front g l = 2 * (l.lots / 2) + 1

abbrev pub decreases-back : goal.decreases-back
decreases-back g l = 2 * (l.lots - l.lots / 2) + 1
