use Rattle.flow_times.proofs.Untimed.{all_untimed, only_untimed}
use Rattle.flow_times.proofs.laws.untimed_are_told.Goals as goal

pub returns-clause-only : goal.returns-clause-only
returns-clause-only c = λ plan rs basic e is. only_untimed plan rs e basic is

pub returns-clause-all : goal.returns-clause-all
returns-clause-all c = λ plan rs basic all. all_untimed plan rs basic all
