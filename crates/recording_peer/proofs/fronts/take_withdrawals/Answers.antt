use Rattle.std.proofs.Common.{◌++◌, sym, subst, ◌∙◌}
use Rattle.std.specs.Prelude.{All}
use Rattle.std.proofs.lemmas.List.Elements.{All-drop}
use Rattle.std.proofs.lemmas.Result.{err_from_is_err_and}
use Rattle.ipfix_datagrams.specs.Withdrawals.{HasTemplateId}
use Rattle.recording_peer.proofs.Fronting.{none_in, some_in, none_took, still_known, took_more, took_all}
use Rattle.recording_peer.proofs.fronts.take_withdrawals.Goals as goal

pub loop-rest-init : goal.loop-rest-init
loop-rest-init c = record {
  ids = c.requires;
  takes = λ before here keeps there. none_took before here c.args.recorder.now c.args.header.now c.args.withdrawn.now c.clear.new.self.items c.clear.ensures.items keeps;
}

pub returns-in_err-take_one : goal.returns-in_err-take_one
returns-in_err-take_one c = λ before here keeps there.
    let rest = c.loop-rest.rest.now in
    let f = c.loop-rest.invariant.takes before here keeps there in
    let known = still_known before here c.loop-rest.recorder c.args.header.now c.args.withdrawn.now rest c.loop-rest.out.items f there (some_in rest (sym c.is_empty.ensures ∙ c.loop-rest-test.true)) in
    let p = err_from_is_err_and c.from_residual.result c.from_residual.ensures.1 in
    rw (p.1, p.2) (c.in_err-take_one.ensures before (here ++ f.front.given) f.front.keeps known)

pub loop-rest-preserved : goal.loop-rest-preserved
loop-rest-preserved c =
    let rest = c.loop-rest.rest.now in
    let h = c.args.header.now in
    let ws = c.args.withdrawn.now in
    let some = some_in rest (sym c.is_empty.ensures ∙ c.loop-rest-test.true) in
    record {
      ids = subst (All HasTemplateId) (sym c.split_at.ensures.back) (All-drop HasTemplateId c.min.result rest c.loop-rest.invariant.ids);
      takes = λ before here keeps there.
          let f = c.loop-rest.invariant.takes before here keeps there in
          let known = still_known before here c.loop-rest.recorder h ws rest c.loop-rest.out.items f there some in
          took_more before here c.loop-rest.recorder c.take_one.new.recorder h ws rest c.split_at.result.0.now c.split_at.result.1.now c.min.result c.loop-rest.out.items c.take_one.new.out.items f some c.min.ensures c.split_at.ensures.front c.split_at.ensures.back
          (c.in_ok-take_one.ensures before (here ++ f.front.given) f.front.keeps known);
    }

pub returns : goal.returns
returns c = λ before here keeps there.
    let rest = c.loop-rest.rest.now in
    took_all before here c.loop-rest.recorder c.args.header.now c.args.withdrawn.now rest c.loop-rest.out.items (c.loop-rest.invariant.takes before here keeps there) (none_in rest (sym c.is_empty.ensures ∙ c.loop-rest-test.false))
