use Rattle.flow_collect.proofs.Deals.{empty_share}
use Rattle.flow_collect.proofs.dealing.empty_share.Goals as goal

pub returns : goal.returns
returns c = empty_share _ _ c.in-Ok.ensures.plan c.in-Ok.ensures.empty c.new-2.ensures.items
