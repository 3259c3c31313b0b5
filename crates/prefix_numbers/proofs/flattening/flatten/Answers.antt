use Rattle.std.proofs.Common.{ℕ, List, subst}
use Rattle.prefix_numbers.specs.Flat.{AreNumbers}
use Rattle.prefix_numbers.proofs.StepsOf.{flat}
use Rattle.prefix_numbers.proofs.flattening.flatten.Goals as goal

pub returns-clause-flat : goal.returns-clause-flat
returns-clause-flat c =
    flat c.args.rows.now c.args.width c.in_ok-starts.starts.items c.in_ok-numbers.numbers.items c.in_ok-starts.ensures.ascending c.requires.zeros c.in_ok-starts.ensures.ends
    (subst (λ (l : List ℕ). AreNumbers c.args.rows.now c.args.width l c.in_ok-numbers.numbers.items) c.deref.ensures.value c.in_ok-numbers.ensures)
