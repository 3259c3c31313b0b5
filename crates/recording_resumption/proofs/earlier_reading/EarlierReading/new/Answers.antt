use Rattle.std.proofs.Common.{List, None, refl, sym, ap, subst}
use Rattle.ipfix_message.specs.Domains.{Message}
use Rattle.ipfix_session.specs.Given.{Given}
use Rattle.ipfix_session.proofs.Reaching.{gives_first, stands_first}
use Rattle.recording_resumption.specs.Readings.{HasCounted}
use Rattle.recording_resumption.proofs.earlier_reading.EarlierReading.new.Goals as goal

pub returns : goal.returns
returns c = record {
  session = stands_first None _ c.new.ensures.counted.tells c.new.ensures.fresh c.new.ensures.empty c.new-2.ensures.items refl refl;
  counted = subst (λ (ms : List Message). HasCounted c.new.result ms) (sym (ap (λ (g : Given). g.messages) gives_first)) c.new.ensures.counted;
}
