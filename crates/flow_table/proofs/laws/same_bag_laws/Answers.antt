use Rattle.std.proofs.Common.{refl, sym, ◌∙◌}
use Rattle.flow_table.proofs.Bags.{bags-append}
use Rattle.flow_table.proofs.laws.same_bag_laws.Goals as goal

pub returns-clause-reflexive : goal.returns-clause-reflexive
returns-clause-reflexive c = λ rs weight. refl

pub returns-clause-symmetric : goal.returns-clause-symmetric
returns-clause-symmetric c = λ rs qs h weight. sym (h weight)

pub returns-clause-transitive : goal.returns-clause-transitive
returns-clause-transitive c = λ rs qs ps h k weight. h weight ∙ k weight

pub returns-clause-one_after_the_other : goal.returns-clause-one_after_the_other
returns-clause-one_after_the_other c = bags-append
