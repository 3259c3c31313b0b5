use Rattle.std.proofs.Common.{◌≡◌, ◌∙◌, arith}
use Rattle.std.specs.Prelude.{Ok}
use Rattle.std.proofs.lemmas.Fmt.{parse-decimal_wide}
use Rattle.std.proofs.lemmas.Option.{same_Some}
use Rattle.json.specs.Value.{value_view}
use Rattle.table_receipts.specs.Objects.{number_json}
use Rattle.table_receipts.proofs.looking_up.number_of.Goals as goal

pub returns-in-Some : goal.returns-in-Some
returns-in-Some c n small is =
    let view : value_view c.in-Some.value.now ≡ number_json n = same_Some (value_view c.in-Some.value.now) (number_json n) (c.in-Some.ensures ∙ is) in
    let read : c.parse.result ≡ Ok n = parse-decimal_wide 128 n c.digits_of.result.now c.parse.result small (omega arith) (c.digits_of.ensures n view) c.parse.ensures.value.0 in
    rw read at c.unwrap_or.ensures
