use Rattle.element_registry.proofs.Orders.{kind_exchanged, name_exchanged, named_exchanged, registry_exchanged}
use Rattle.element_registry.proofs.laws.any_order.Goals as goal

pub returns-clause-same : goal.returns-clause-same
returns-clause-same c = λ a b good. record {
  kind = λ e. kind_exchanged a b e good;
  name = λ e. name_exchanged a b e good;
  named = λ t. named_exchanged a b t good;
}

pub returns-clause-registry : goal.returns-clause-registry
returns-clause-registry c = registry_exchanged
