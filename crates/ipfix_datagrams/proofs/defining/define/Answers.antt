use Rattle.std.proofs.Common.{◌≡◌, [], ◌∷◌, ap, arith, ◌∙◌, rules}
use Rattle.std.proofs.lemmas.Result.{err_from_is_err_and}
use Rattle.ipfix_message.specs.Domains.{message_gives}
use Rattle.ipfix_message.specs.TemplateMessages.{IsStamp, templates_message}
use Rattle.ipfix_datagrams.proofs.Defined.{defines, defined_by}
use Rattle.ipfix_datagrams.proofs.Readings.{only_memory}
use Rattle.ipfix_datagrams.proofs.defining.define.Goals as goal

pub returns-in_err-decode : goal.returns-in_err-decode
returns-in_err-decode c = λ ds represents room free.
    let s = c.args.stamp in
    let fits : IsStamp s = record { export_time = omega arith; sequence = omega arith; domain = omega arith } in
    let written : c.deref.result.now ≡ templates_message s (c.args.template.now ∷ []) = search rules in
    let y = defines ds s c.args.template.now fits c.requires room free.0 in
    let p = err_from_is_err_and c.from_residual.result c.from_residual.ensures.1 in
    rw (p.1, p.2) (only_memory c.in_err-decode.field-0.0 (message_gives ds c.deref.result.now) y.0 (c.in_err-decode.ensures.gives represents.fresh ds represents.stands) (ap (message_gives ds) written ∙ y.1.is))

pub returns : goal.returns
returns c = λ ds represents room free.
    let s = c.args.stamp in
    let fits : IsStamp s = record { export_time = omega arith; sequence = omega arith; domain = omega arith } in
    let written : c.deref.result.now ≡ templates_message s (c.args.template.now ∷ []) = search rules in
    let y = defines ds s c.args.template.now fits c.requires room free.0 in
    let r = c.in_ok-decode.ensures.gives represents.fresh ds represents.stands in
    record { fresh = c.in_ok-decode.ensures.ok; stands = defined_by c.decode.new.self.domains ds s c.args.template.now c.deref.result.now r.0 y.0 written r.1 r.3 y.1 }
