use Rattle.std.proofs.Common.{◌∷◌, ◌++◌, [], sym, ap, ◌∙◌}
use Rattle.exporter_options.specs.Beside.{rate_fields}
use Rattle.exporter_options.specs.declared.beside.TheConstants.{SAMPLING_RATE}
use Rattle.exporter_options.proofs.beside.append_rate.Goals as goal

pub returns-in_ok-push : goal.returns-in_ok-push
returns-in_ok-push c =
    c.in_ok-push.ensures.ok
    ∙ ap (λ octets. c.args.fields.now ++ record { element = SAMPLING_RATE; octets = octets } ∷ []) c.rate_octets.ensures
    ∙ ap (λ rate. c.args.fields.now ++ rate_fields rate) (sym c.in-Some.is)
