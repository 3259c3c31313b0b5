use Rattle.std.proofs.Common.{refl}
use Rattle.ipfix_datagrams.proofs.FirstAndLast.{one_withdrawal, all_withdrawal, defines_none}
use Rattle.ipfix_datagrams.proofs.definitions.take_event.Goals as goal

pub returns-in-Withdraw-clause-defines : goal.returns-in-Withdraw-clause-defines
returns-in-Withdraw-clause-defines c = λ es before. rw c.in-Withdraw.is (defines_none c.args.all.now _ es _ before (λ q. one_withdrawal c.in-Withdraw.field-0 c.in-Withdraw.field-1 q) refl c.take_withdrawal.ensures)

pub returns-in-WithdrawAll-clause-defines : goal.returns-in-WithdrawAll-clause-defines
returns-in-WithdrawAll-clause-defines c = λ es before. rw c.in-WithdrawAll.is (defines_none c.args.all.now _ es _ before (λ q. all_withdrawal c.in-WithdrawAll.field-0 q) refl c.take_withdrawal-in-WithdrawAll.ensures)
