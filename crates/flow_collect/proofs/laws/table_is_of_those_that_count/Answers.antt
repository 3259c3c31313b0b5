use Rattle.std.proofs.Common.{List, subst}
use Rattle.ipfix_message.specs.declared.record.DataRecord.{DataRecord}
use Rattle.flow_collect.specs.Headline.{IsAddedUp}
use Rattle.flow_collect.proofs.Contexts.{of_counted}
use Rattle.flow_collect.proofs.laws.table_is_of_those_that_count.Goals as goal

pub returns : goal.returns
returns g c = λ f sources plan s h.
    let of = of_counted g.S.Source.seen f sources s.sources.items s.sessions.items h.headline.records h.same h.headline.given in
    record { own = of.own; given = of.given; added_up = subst (λ (l : List DataRecord). IsAddedUp plan l s.table) of.all h.headline.added_up }
