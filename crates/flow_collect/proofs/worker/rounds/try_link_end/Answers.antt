use Rattle.std.proofs.Common.{◌∷◌, [], sym, ap, ◌∙◌}
use Rattle.flow_link.proofs.ParcelLists.{has_last_push, records_in-append}
use Rattle.flow_link.specs.Parcels.{has_last, records_in}
use Rattle.flow_collect.proofs.worker.rounds.try_link_end.Goals as goal

pub invariant_of-link_end : goal.invariant_of-link_end
invariant_of-link_end g c =
    record { marked = ap has_last c.in-Got.ensures.got ∙ (has_last_push c.args.link_end.now.receiver.received c.in-Got.parcel (c.args.link_end.now.marked ∙ c.if-link_end.false) ∙ sym c.absorb-link_end.ensures.last) }

pub returns-in-Got : goal.returns-in-Got
returns-in-Got g c =
    record {
      taken = records_in (c.in-Got.parcel ∷ []);
      key = ap (λ link. (c.args.link_end.now.session, link)) c.in-Got.ensures.link.0;
      records_is = ap records_in c.in-Got.ensures.got ∙ records_in-append c.args.link_end.now.receiver.received (c.in-Got.parcel ∷ []);
      adds = c.absorb-link_end.ensures.adds;
    }
