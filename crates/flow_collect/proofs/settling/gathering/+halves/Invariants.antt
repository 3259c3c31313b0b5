use Rattle.std.proofs.Common.{◌+◌, ◌*◌}
use Rattle.std.specs.VecDeque.{deque_len}
use Rattle.flow_collect.proofs.settling.gathering.+halves.Given as goal

abbrev pub decreases-merge_all : goal.decreases-merge_all
decreases-merge_all g l = 2 * deque_len l.worked

abbrev pub decreases-front : goal.decreases-front
decreases-front g l = 2 * deque_len l.low + 1

abbrev pub decreases-back : goal.decreases-back
decreases-back g l = 2 * deque_len l.high + 1
