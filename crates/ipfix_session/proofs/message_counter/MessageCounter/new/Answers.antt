use Rattle.std.proofs.Common.{refl}
use Rattle.ipfix_session.proofs.Counting.{none_begun, reads_nothing}
use Rattle.ipfix_session.proofs.message_counter.MessageCounter.new.Goals as goal

pub returns : goal.returns
returns c = reads_nothing _ refl refl (none_begun _ c.new.ensures)
