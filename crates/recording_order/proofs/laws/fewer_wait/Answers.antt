use Rattle.recording_order.proofs.Ticks.{first-fewer, next-fewer, least-fewer, last-fewer, handed-waiting, late-fewer, late-none, next-none, least-none}
use Rattle.recording_order.proofs.laws.fewer_wait.Goals as goal

pub returns-clause-first : goal.returns-clause-first
returns-clause-first c = λ w v a b is. first-fewer w a b v is

pub returns-clause-next : goal.returns-clause-next
returns-clause-next c = next-fewer

pub returns-clause-least : goal.returns-clause-least
returns-clause-least c = least-fewer

pub returns-clause-last : goal.returns-clause-last
returns-clause-last c = last-fewer

pub returns-clause-handed_on : goal.returns-clause-handed_on
returns-clause-handed_on c = handed-waiting

pub returns-clause-late : goal.returns-clause-late
returns-clause-late c = late-fewer

pub returns-clause-none_late : goal.returns-clause-none_late
returns-clause-none_late c = late-none

pub returns-clause-none_next : goal.returns-clause-none_next
returns-clause-none_next c = next-none

pub returns-clause-none_least : goal.returns-clause-none_least
returns-clause-none_least c = least-none
