use Rattle.std.proofs.Common.{◌≡◌, List, [], ◌∷◌, ap, rules}
use Rattle.std.specs.Prelude.{option_copied}
use Rattle.std.specs.Option.{option_or}
use Rattle.std.specs.Ordering.{nat_cmp}
use Rattle.std.specs.BTreeMap.{get, values}
use Rattle.ipfix_message.specs.declared.record.Template.{Template}
use Rattle.ipfix_datagrams.specs.Datagrams.{template_in}
use Rattle.ipfix_datagrams.specs.Attempts.{resumed_by}
use Rattle.ipfix_datagrams.proofs.Resumed.{resumed_step, resumed_all}
use Rattle.ipfix_datagrams.proofs.resuming.resume.Goals as goal

pub loop-known-init : goal.loop-known-init
loop-known-init c =
    let all : c.into_iter-known-iterator.result ≡ values c.args.resumed.now = search rules in
    record {
      so_far = λ q. ap (λ (ts : List Template). option_or (get nat_cmp c.args.defined.now q) (resumed_by (λ id. template_in (option_copied c.args.in_force) id) (λ id. template_in (option_copied c.args.withdrawn) id) (get nat_cmp c.args.first.now) ts q)) all;
      ordered = λ o. o;
    }

pub loop-known-preserved : goal.loop-known-preserved
loop-known-preserved c =
    let step : c.loop-known.known-iterator ≡ c.in-Some.known.now ∷ c.next.new.self = search rules in
    record {
      so_far =
          resumed_step (λ id. template_in (option_copied c.args.in_force) id) (λ id. template_in (option_copied c.args.withdrawn) id) (get nat_cmp c.args.first.now) (values c.args.resumed.now) c.loop-known.known-iterator c.next.new.self c.in-Some.known.now
          (get nat_cmp c.args.defined.now) (get nat_cmp c.loop-known.defined) (get nat_cmp c.put_open.new.defined) step c.loop-known.invariant.so_far c.in_ok-put_open.ensures.puts;
      ordered = λ o. c.in_ok-put_open.ensures.ordered (c.loop-known.invariant.ordered o);
    }

pub returns-clause-puts : goal.returns-clause-puts
returns-clause-puts c =
    let none : c.loop-known.known-iterator ≡ [] = search rules in
    resumed_all (λ id. template_in (option_copied c.args.in_force) id) (λ id. template_in (option_copied c.args.withdrawn) id) (get nat_cmp c.args.first.now) (values c.args.resumed.now) c.loop-known.known-iterator
    (get nat_cmp c.args.defined.now) (get nat_cmp c.loop-known.defined) none c.loop-known.invariant.so_far
