use Rattle.std.proofs.Common.{inr}
use Rattle.std.proofs.lemmas.Result.{IfOk-weaker}
use Rattle.command_tables.proofs.days.by_name.ByNameReadText.read_text.Goals as goal

pub returns-in-Some-clause-text : goal.returns-in-Some-clause-text
returns-in-Some-clause-text g c = IfOk-weaker c.read_receipt.result _ _ (λ octets has. inr (c.in-Some.name.now, c.in-Some.ensures.name, has)) c.read_receipt.ensures.text
