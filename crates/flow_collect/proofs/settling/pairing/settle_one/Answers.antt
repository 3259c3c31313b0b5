use Rattle.flow_collect.proofs.settling.pairing.settle_one.Goals as goal

pub returns : goal.returns
returns g c =
    record {
      link = c.in-Ok.link;
      reports_are = c.in_ok-push_all.ensures.reports;
      links_are = c.in_ok-push_all.ensures.links;
      sources_are = c.in_ok-push_all.ensures.sources;
      settled = c.in-Ok.ensures.ok;
    }
