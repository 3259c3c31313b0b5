use Rattle.std.proofs.Common.{◌≡◌, List, ◌∷◌, [], ◌++◌, sym, subst, rules}
use Rattle.std.specs.BTreeMap.{values}
use Rattle.std.proofs.lemmas.Result.{err_from_is_err_and}
use Rattle.ipfix_message.specs.declared.record.Template.{Template}
use Rattle.recording_peer.specs.Fronts.{TakesDefinitions}
use Rattle.recording_peer.proofs.Fronting.{next_can, defined_more, defined_all}
use Rattle.recording_peer.proofs.fronts.take_definitions.Goals as goal

pub loop-known-init : goal.loop-known-init
loop-known-init c = λ before here p f.
    let all : c.into_iter-known-iterator.result ≡ values c.args.defined.now = search rules in
    subst (λ (rest : List Template). TakesDefinitions before here c.args.recorder.now c.args.header.now p rest c.args.out.now.items) (sym all) f

pub returns-in_err-take_definition : goal.returns-in_err-take_definition
returns-in_err-take_definition c = λ before here q first.
    let step : c.loop-known.known-iterator ≡ c.in-Some.known.now ∷ c.next.new.self = search rules in
    let f = c.loop-known.invariant before here q first in
    let p = err_from_is_err_and c.from_residual.result c.from_residual.ensures.1 in
    rw (p.1, p.2) (c.in_err-take_definition.ensures before (here ++ f.took.front.given) f.took.front.keeps
    (next_can before here c.loop-known.recorder c.args.header.now q c.in-Some.known.now c.to_write.result.now c.loop-known.known-iterator c.next.new.self c.loop-known.out.items f step c.to_write.ensures.same))

pub loop-known-preserved : goal.loop-known-preserved
loop-known-preserved c = λ before here q first.
    let h = c.args.header.now in
    let step : c.loop-known.known-iterator ≡ c.in-Some.known.now ∷ c.next.new.self = search rules in
    let f = c.loop-known.invariant before here q first in
    let next = next_can before here c.loop-known.recorder h q c.in-Some.known.now c.to_write.result.now c.loop-known.known-iterator c.next.new.self c.loop-known.out.items f step c.to_write.ensures.same in
    defined_more before here c.loop-known.recorder c.take_definition.new.recorder h q c.in-Some.known.now c.to_write.result.now c.loop-known.known-iterator c.next.new.self c.loop-known.out.items c.take_definition.new.out.items f step c.to_write.ensures.same
    (c.in_ok-take_definition.ensures before (here ++ f.took.front.given) f.took.front.keeps next)

pub returns : goal.returns
returns c = λ before here q first.
    let none : c.loop-known.known-iterator ≡ [] = search rules in
    defined_all before here c.loop-known.recorder c.args.header.now q c.loop-known.known-iterator c.loop-known.out.items (c.loop-known.invariant before here q first) none
