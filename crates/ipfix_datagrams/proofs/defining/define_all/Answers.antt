use Rattle.std.proofs.Common.{◌≡◌, ◌∷◌, [], rules}
use Rattle.std.specs.BTreeMap.{values}
use Rattle.std.proofs.lemmas.Result.{err_from_is_err_and}
use Rattle.ipfix_datagrams.proofs.Defined.{defining_first, defining_more, defining_free, defined_whole}
use Rattle.ipfix_datagrams.proofs.defining.define_all.Goals as goal

pub loop-known-init : goal.loop-known-init
loop-known-init c = λ ds represents room can.
    let all : c.into_iter-known-iterator.result ≡ values c.args.templates.now = search rules in
    defining_first ds c.args.header.now.domain (values c.args.templates.now) c.into_iter-known-iterator.result c.args.domains.now all represents room can

pub returns-in_err-define : goal.returns-in_err-define
returns-in_err-define c = λ ds represents room can.
    let d = c.args.header.now.domain in
    let step : c.loop-known.known-iterator ≡ c.in-Some.known.now ∷ c.next.new.self = search rules in
    let f = c.loop-known.invariant ds represents room can in
    let p = err_from_is_err_and c.from_residual.result c.from_residual.ensures.1 in
    rw (p.1, p.2) (c.in_err-define.ensures f.now f.represents f.room (defining_free ds d (values c.args.templates.now) c.loop-known.known-iterator c.next.new.self c.in-Some.known.now c.to_write.result.now c.loop-known.domains f step c.to_write.ensures.same, tt))

pub loop-known-preserved : goal.loop-known-preserved
loop-known-preserved c = λ ds represents room can.
    let d = c.args.header.now.domain in
    let step : c.loop-known.known-iterator ≡ c.in-Some.known.now ∷ c.next.new.self = search rules in
    let f = c.loop-known.invariant ds represents room can in
    defining_more ds d (values c.args.templates.now) c.loop-known.known-iterator c.next.new.self c.in-Some.known.now c.to_write.result.now c.loop-known.domains c.define.new.domains f step c.to_write.ensures.same (λ free. c.in_ok-define.ensures f.now f.represents f.room (free, tt))

pub returns : goal.returns
returns c = λ ds represents room can.
    let none : c.loop-known.known-iterator ≡ [] = search rules in
    defined_whole ds c.args.header.now.domain (values c.args.templates.now) c.loop-known.known-iterator c.loop-known.domains (c.loop-known.invariant ds represents room can) none
