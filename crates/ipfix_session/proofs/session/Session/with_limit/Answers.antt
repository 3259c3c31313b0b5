use Rattle.std.proofs.Common.{refl}
use Rattle.ipfix_session.proofs.Reaching.{stands_first}
use Rattle.ipfix_session.proofs.session.Session.with_limit.Goals as goal

pub returns : goal.returns
returns c = stands_first c.args.limit _ c.new.ensures.counts c.new.ensures.fresh c.new.ensures.empty c.new-2.ensures.items refl c.new.ensures.limit
