use Rattle.std.proofs.Common.{ℕ, Option, option_map, sym, ap, ◌∙◌, arith}
use Rattle.std.proofs.lemmas.Str.Pattern.{split_parts}
use Rattle.flow_filter.specs.declared.value_range.ValueRange.TheVariants.{Numbers}
use Rattle.flow_filter.proofs.Decimals.{no_dash}
use Rattle.flow_filter.proofs.numbers.numbers_in.Goals as goal

pub returns-in_ok-number-in-None : goal.returns-in_ok-number-in-None
returns-in_ok-number-in-None c =
    let none = no_dash c.args.text.now c.split_once.result _ (split_parts 45 c.args.text.now c.split_once.result c.split_once.ensures.cases (omega arith)) c.in-None.is in
    rw none (ap (λ (o : Option ℕ). option_map (λ n. Numbers n n) o) (sym c.in_ok-number-in-None.was ∙ c.number_in.ensures))
