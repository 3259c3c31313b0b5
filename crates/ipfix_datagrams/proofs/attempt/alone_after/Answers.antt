use Rattle.std.proofs.Common.{◌∙◌}
use Rattle.std.proofs.lemmas.Result.{err_from_is_err_and}
use Rattle.ipfix_message.specs.Domains.{alone}
use Rattle.ipfix_datagrams.specs.Datagrams.{preparation_by, with_withdrawn}
use Rattle.ipfix_datagrams.proofs.Attempted.{copy_can, copy_room}
use Rattle.ipfix_datagrams.proofs.attempt.alone_after.Goals as goal

pub returns-in_err-withdraw_all : goal.returns-in_err-withdraw_all
returns-in_err-withdraw_all c = λ ds ready.
    let d = c.args.header.now.domain in
    let can = copy_can ds d (preparation_by c.args.withdrawn.now c.args.defined.now) ready.can in
    let p = err_from_is_err_and c.from_residual.result c.from_residual.ensures.1 in
    rw (p.1, p.2) (c.in_err-withdraw_all.ensures (alone ds d) (record { fresh = c.in-Ok.ensures.spent ∙ ready.represents.fresh; stands = c.in-Ok.ensures.templates ds ready.represents.stands }) can.0)

pub returns-in_err-define_all : goal.returns-in_err-define_all
returns-in_err-define_all c = λ ds ready.
    let d = c.args.header.now.domain in
    let ws = c.args.withdrawn.now in
    let can = copy_can ds d (preparation_by c.args.withdrawn.now c.args.defined.now) ready.can in
    let was = c.in_ok-withdraw_all.ensures (alone ds d) (record { fresh = c.in-Ok.ensures.spent ∙ ready.represents.fresh; stands = c.in-Ok.ensures.templates ds ready.represents.stands }) can.0 in
    let p = err_from_is_err_and c.from_residual-in_err-define_all.result c.from_residual-in_err-define_all.ensures.1 in
    rw (p.1, p.2) (c.in_err-define_all.ensures (with_withdrawn (alone ds d) d ws) was (copy_room ds d ws ready.can.0 ready.room) can.1)

pub returns : goal.returns
returns c = λ ds ready.
    let d = c.args.header.now.domain in
    let ws = c.args.withdrawn.now in
    let can = copy_can ds d (preparation_by c.args.withdrawn.now c.args.defined.now) ready.can in
    let was = c.in_ok-withdraw_all.ensures (alone ds d) (record { fresh = c.in-Ok.ensures.spent ∙ ready.represents.fresh; stands = c.in-Ok.ensures.templates ds ready.represents.stands }) can.0 in
    c.in_ok-define_all.ensures (with_withdrawn (alone ds d) d ws) was (copy_room ds d ws ready.can.0 ready.room) can.1
