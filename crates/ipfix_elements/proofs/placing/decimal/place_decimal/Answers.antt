use Rattle.std.proofs.Common.{◌≡◌, ◌+◌, rules, arith}
use Rattle.std.specs.Fmt.{decimal}
use Rattle.ipfix_elements.proofs.Digits.{Placed-digits}
use Rattle.ipfix_elements.proofs.placing.decimal.place_decimal.Goals as goal

pub returns : goal.returns
returns c =
    let begins : c.write_digits.result ≡ c.args.at = omega (arith, c.write_digits.ensures.start, c.count_digits.ensures.count) in
    Placed-digits (decimal c.args.number) c.args.at (c.args.at + c.count_digits.result) (search rules) (omega (arith, c.count_digits.ensures.few, c.requires))
    (rw begins at c.write_digits.ensures.written) (rw begins at c.write_digits.ensures.before)
