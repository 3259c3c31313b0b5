use Rattle.std.proofs.Common.{take}
use Rattle.ipfix_message.specs.Domains.{History}
use Rattle.ipfix_datagrams.specs.Datagrams.{Represents, with_withdrawn}
use Rattle.ipfix_datagrams.specs.Attempts.{MayWithdraw}
use Rattle.ipfix_datagrams.proofs.withdrawing.withdraw_all.Given as goal

abbrev pub invariant-loop-template : goal.invariant-loop-template
invariant-loop-template l = (ds : History) → Represents l.fn.domains ds → MayWithdraw ds l.header.domain l.templates
    → Represents l.domains (with_withdrawn ds l.header.domain (take l.template-index l.templates))
