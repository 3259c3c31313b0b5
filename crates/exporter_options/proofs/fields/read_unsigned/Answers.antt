use Rattle.std.proofs.Common.{◌<◌, ◌^◌, sym, ◌∙◌, arith}
use Rattle.exporter_options.proofs.Numbers.{number_fits}
use Rattle.exporter_options.proofs.fields.read_unsigned.Goals as goal

pub overflow_cast-result : goal.overflow_cast-result
overflow_cast-result c =
    let below : c.in_ok-number.number < 2 ^ 32 = number_fits c.args.octets.now _ (λ k. let small = c.type_inv.octets k in omega (arith, small)) (sym c.read_number.ensures ∙ c.in_ok-number.was) in
    omega (arith, below)
