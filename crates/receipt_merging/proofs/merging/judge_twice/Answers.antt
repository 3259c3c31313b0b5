use Rattle.receipt_merging.proofs.Judged.{judged_once, judged_twice, refused_twice}
use Rattle.receipt_merging.proofs.merging.judge_twice.Goals as goal

pub returns-in_default : goal.returns-in_default
returns-in_default c = λ parts may gathered found. judged_once _ _ _ may gathered.0 gathered.1 (rw c.in_default.is at found)

pub returns-then-allowed : goal.returns-then-allowed
returns-then-allowed c = λ parts may gathered found. judged_twice _ _ _ may gathered.0 c.in-Some.first c.in-Some.second (rw c.in-Some.is at found) c.if-allowed.true

pub returns-else-allowed : goal.returns-else-allowed
returns-else-allowed c = λ parts may gathered found. refused_twice _ _ _ may gathered.0 c.in-Some.first c.in-Some.second (rw c.in-Some.is at found) c.if-allowed.false
