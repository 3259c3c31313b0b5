use Rattle.std.proofs.Common.{◌≡◌, ◌<◌, ◌^◌, eqb, false, get_or, length, arith, rules}
use Rattle.std.proofs.lemmas.List.{get_or_default}
use Rattle.ipfix_wire.specs.declared.specifier.Spec.{Spec}
use Rattle.ipfix_wire.proofs.Choices.{different}
use Rattle.ipfix_message.proofs.LayingOut.{place, Noted, laid_variable, laid_fixed, laid_all}
use Rattle.ipfix_message.proofs.layout.Layout.new.Goals.{then-spec+in_ok-push, else-spec}
use Rattle.ipfix_message.proofs.layout.Layout.new.Goals as goal

pub loop-spec-preserved : goal.loop-spec-preserved
loop-spec-preserved c =
    let i = c.loop-spec.spec-index in
    let s : Spec = get_or c.args.specs.now i (record { element = record { pen = 0; number = 0 }; width = 0 }) in
    let item : s ≡ get_or c.args.specs.now i s = get_or_default c.args.specs.now i _ _ c.loop-spec-test.true in
    let gaps = c.loop-spec.gaps.items in
    let before : c.len.result ≡ length gaps = search rules in
    let noted : Noted c.loop-spec.places.all c.note_first.new.self.all s.element (place (length gaps) c.loop-spec.last s.width) = λ e small. rw before at c.in_ok-note_first.ensures.first e small in
    let spots = c.in_ok-note_first.ensures.spots in
    elim c.if-spec.branch [
      | then-spec+in_ok-push w ↦
          rw (w.gaps-is, w.in_ok-push.ensures.items, w.last-is)
          (laid_variable gaps c.loop-spec.last c.loop-spec.places.all c.note_first.new.self.all i c.args.specs.now s c.loop-spec-test.true item w.if-spec.true noted c.loop-spec.invariant.0, spots)
      | else-spec w ↦
          let fixed : eqb s.width 65535 ≡ false = different s.width 65535 w.if-spec.false in
          let narrow : s.width < 2 ^ 16 = omega arith in
          rw (w.gaps-is, w.last-is, w.from-last.ensures)
          (laid_fixed gaps c.loop-spec.last c.loop-spec.places.all c.note_first.new.self.all i c.args.specs.now s c.loop-spec-test.true item fixed narrow noted c.loop-spec.invariant.0, spots)
    ]

pub returns : goal.returns
returns c =
    let laid = laid_all c.loop-spec.gaps.items c.loop-spec.last c.loop-spec.places.all c.loop-spec.spec-index c.args.specs.now c.loop-spec-test.false c.loop-spec.invariant.0 in
    record { gaps = laid.gap; last = laid.end; places = laid.at; spots = c.loop-spec.invariant.1; narrow = laid.narrow }
