use Rattle.std.proofs.Common.{◌≡◌, ◌∙◌, ap, sym, subst, rules, ◌++◌}
use Rattle.rtrb.specs.Ring as ring
use Rattle.flow_link.specs.Ends.{SenderView, ReceiverView}
use Rattle.flow_link.specs.Parcels.{LastEnds}
use Rattle.flow_link.proofs.ParcelLists.{gave_all, taken_before, joined_as}
use Rattle.flow_link.proofs.settled.settling.settle.Goals as goal

pub returns-clause-ok : goal.returns-clause-ok
returns-clause-ok c =
    let looked = c.slots_beside-count.ensures in
    let sent_before : ring.sent c.sender.inside.producer ≡ c.args.sender.sent = ap (λ (v : SenderView). v.sent) c.sender.view_is in
    let sent_is : ring.sent c.slots_beside-count.new.producer ≡ c.args.sender.sent = looked.producer.1 ∙ sent_before in
    let received_is : ring.received c.slots_beside-count.new.self ≡ c.args.receiver.received = looked.looked.1 ∙ ap (λ (v : ReceiverView). v.received) c.receiver.view_is in
    let whole : c.args.receiver.received ++ c.drain.new.left.items ≡ c.args.sender.sent = joined_as _ _ _ _ _ _ received_is c.drain.ensures.left looked.fifo sent_is in
    let last_ends : LastEnds c.args.sender.sent = subst LastEnds sent_before c.sender.invariant.1 in
    record {
      link_is = search rules;
      capacity_is = search rules;
      sent_is = sent_is;
      received_is = taken_before _ _ _ _ _ received_is c.drain.ensures.taken (sym looked.value);
      whole = whole;
      last_ends = last_ends;
      gave_all = gave_all _ _ _ whole last_ends;
    }
