use Rattle.std.proofs.Common.{◌≡◌, length, sym, ◌∙◌, subst, refl, arith}
use Rattle.flow_link.specs.Ends.{ReceiverView, IsNewLink}
use Rattle.flow_collect.proofs.dealing.deal_one.Goals as goal

pub returns : goal.returns
returns g c =
    let place : c.len-session.result ≡ length c.args.starts.now.items = omega (arith, c.args.starts.now.ok.0) in
    record {
      start = record { session = c.len-session.result; source = c.args.given.source; context = c.args.given.context; filter = c.args.given.filter; sender = c.in_ok-sender.sender };
      link_end = c.new_link_end-link_end.result;
      first = c.in-Some.share;
      dealt = record c.in-Some.share { link_ends = c.push.new.self };
      others = c.pop_front.new.self.items;
      source_is = refl;
      number_is = place;
      link = subst (λ (r : ReceiverView). IsNewLink c.args.capacity c.in_ok-sender.sender r) (sym c.new_link_end-link_end.ensures.1) c.in_ok-sender.ensures;
      session_is = c.new_link_end-link_end.ensures.0 ∙ place;
      starts_are = c.in_ok-push_back.ensures.items;
      shares_were = c.in-Some.ensures.items;
      shares_are = c.in_ok-push_back-2.ensures.items;
      link_ends_are = c.in_ok-push.ensures.items;
      partial_is = refl;
      worker_is = refl;
    }
