use Rattle.std.proofs.Common.{ap, sym, option_map, ◌∙◌, arith}
use Rattle.std.proofs.lemmas.Str.Pattern.{split_parts}
use Rattle.flow_plan.specs.PlanTexts.{whole_key}
use Rattle.flow_plan.proofs.Slashes.{no_slash}
use Rattle.flow_plan.proofs.named.key_named.Goals as goal

pub returns-in_ok-key_element-in-None : goal.returns-in_ok-key_element-in-None
returns-in_ok-key_element-in-None c =
    let none = no_slash c.args.text.now c.split_once.result _ (split_parts 47 c.args.text.now c.split_once.result c.split_once.ensures.cases (omega arith)) c.in-None.is in
    rw none (ap (λ o. option_map whole_key o) (sym c.in_ok-key_element-in-None.was ∙ c.key_element.ensures))
