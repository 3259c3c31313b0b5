use Rattle.std.proofs.Common.{◌≡◌, ◌∷◌, [], ◌∙◌, ap, arith, rules}
use Rattle.std.proofs.lemmas.Result.{err_from_is_err_and}
use Rattle.ipfix_message.specs.Domains.{message_header}
use Rattle.recording_files.specs.Preambles.{IsStamp, templates_message}
use Rattle.ipfix_datagrams.proofs.Readings.{only_memory}
use Rattle.recording_peer.proofs.Fronting.{definition_header, reads_definition, definition_fails, took_definition}
use Rattle.recording_peer.proofs.fronts.take_definition.Goals as goal

pub returns-in_err-own : goal.returns-in_err-own
returns-in_err-own c = λ before here keeps can.
    let z = c.args.stamp in
    let u = c.args.template.now in
    let is : IsStamp z = record { export_time = omega arith; sequence = omega arith; domain = omega arith } in
    let written : c.deref.result.now ≡ templates_message z (u ∷ []) = search rules in
    let good = definition_header z u is c.requires in
    let p = err_from_is_err_and c.from_residual-in_err-own.result c.from_residual-in_err-own.ensures.1 in
    rw (p.1, p.2) (only_memory _ (message_header c.deref.result.now) good.0 c.in_err-own.ensures.gives (ap message_header written ∙ good.1))

pub returns-in_err-take_and_append : goal.returns-in_err-take_and_append
returns-in_err-take_and_append c = λ before here keeps can.
    let z = c.args.stamp in
    let u = c.args.template.now in
    let is : IsStamp z = record { export_time = omega arith; sequence = omega arith; domain = omega arith } in
    let written : c.deref-2.result.now ≡ templates_message z (u ∷ []) = search rules in
    let p = err_from_is_err_and c.from_residual-in_err-take_and_append.result c.from_residual-in_err-take_and_append.ensures.1 in
    rw (p.1, p.2) (definition_fails before here z u c.deref-2.result.now _ (reads_definition before here z u is c.requires can) written (c.in_err-take_and_append.ensures.fails before here keeps))

pub returns : goal.returns
returns c = λ before here keeps can.
    let z = c.args.stamp in
    let u = c.args.template.now in
    let is : IsStamp z = record { export_time = omega arith; sequence = omega arith; domain = omega arith } in
    let written : c.deref-2.result.now ≡ templates_message z (u ∷ []) = search rules in
    took_definition before here c.take_and_append.new.recorder z u c.deref-2.result.now c.args.out.now.items c.take_and_append.new.out.items c.in_ok-take_and_append.field-0
    (reads_definition before here z u is c.requires can) written (c.in_ok-take_and_append.ensures.took before here keeps)
