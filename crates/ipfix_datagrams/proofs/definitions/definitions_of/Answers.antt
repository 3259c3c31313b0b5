use Rattle.std.proofs.Common.{◌≡◌, ◌&&◌, Bool, false, [], List, Ok, length, arith, refl, sym, ap, ◌∙◌, subst, rules}
use Rattle.ipfix_message.specs.declared.template_record.Event.{Event}
use Rattle.ipfix_message.specs.Sets.{Set, next_set}
use Rattle.ipfix_message.proofs.MessageSets.{next_set-less}
use Rattle.ipfix_datagrams.specs.Datagrams.{are_sets_of_withdrawals, events_of_set, is_withdrawing}
use Rattle.ipfix_datagrams.proofs.FirstAndLast.{Taking, taking_first, taking_more, taken_all, defines_as, defines_nothing, events_in_sets, next_set_events, no_set_events, end_events}
use Rattle.ipfix_datagrams.proofs.WithdrawalsAlone.{and_moves, and_true, next_set_withdrawals, no_set_withdrawals, end_withdrawals}
use Rattle.ipfix_datagrams.proofs.definitions.definitions_of.Goals as goal

pub loop-rest-init : goal.loop-rest-init
loop-rest-init c = record {
  takes = taking_first _ [] (events_in_sets c.args.octets.now) (defines_nothing _ (λ q. search rules) (λ q. search rules) refl);
  only = sym (and_true (are_sets_of_withdrawals c.args.octets.now));
  room = omega arith;
}

pub returns-in_default : goal.returns-in_default
returns-in_default c =
    let w = c.loop-rest.rest.now in
    let none = rw c.in_default.is at c.in_ok-id.ensures in
    let all = events_in_sets c.args.octets.now in
    record {
      defines = defines_as c.loop-rest.definitions false all (taken_all c.loop-rest.definitions [] all (events_in_sets w) c.loop-rest.invariant.takes (no_set_events w none.0 none.1));
      only = sym (c.loop-rest.invariant.only ∙ ap (λ (b : Bool). b && c.loop-rest.definitions.withdraws_only) (no_set_withdrawals w none.0 (search rules) none.1));
    }

pub take_set-requires : goal.take_set-requires
take_set-requires c =
    let is : next_set c.loop-rest.rest.now ≡ Ok (record { id = c.in-Some.id; body = c.in-Some.body.now }, c.in-Some.after.now) = search rules in
    let less = next_set-less c.loop-rest.rest.now (record { id = c.in-Some.id; body = c.in-Some.body.now }) c.in-Some.after.now is in
    omega (arith, less, c.loop-rest.invariant.room, c.requires)

pub loop-rest-smaller : goal.loop-rest-smaller
loop-rest-smaller c =
    let is : next_set c.loop-rest.rest.now ≡ Ok (record { id = c.in-Some.id; body = c.in-Some.body.now }, c.in-Some.after.now) = search rules in
    let less = next_set-less c.loop-rest.rest.now (record { id = c.in-Some.id; body = c.in-Some.body.now }) c.in-Some.after.now is in
    omega (arith, less)

pub loop-rest-preserved : goal.loop-rest-preserved
loop-rest-preserved c =
    let w = c.loop-rest.rest.now in
    let r = c.in-Some.after.now in
    let s : Set = record { id = c.in-Some.id; body = c.in-Some.body.now } in
    let is : next_set w ≡ Ok (s, r) = search rules in
    let less = next_set-less w s r is in
    let all = events_in_sets c.args.octets.now in
    record {
      takes = taking_more c.loop-rest.definitions c.take_set.new.all [] all (events_of_set s) (events_in_sets r)
          (subst (λ (rest : List Event). Taking c.loop-rest.definitions [] all rest) (next_set_events w s r is) c.loop-rest.invariant.takes) c.in_ok-take_set.ensures.defines;
      only = c.loop-rest.invariant.only ∙ ap (λ (b : Bool). b && c.loop-rest.definitions.withdraws_only) (next_set_withdrawals w s r is)
          ∙ and_moves (is_withdrawing s) (are_sets_of_withdrawals r) c.loop-rest.definitions.withdraws_only ∙ ap (λ (b : Bool). are_sets_of_withdrawals r && b) (sym c.in_ok-take_set.ensures.only);
      room = omega (arith, less, c.loop-rest.invariant.room);
    }

pub returns : goal.returns
returns c =
    let none : length c.loop-rest.rest.now ≡ 0 = search rules in
    record {
      defines = taken_all c.loop-rest.definitions [] (events_in_sets c.args.octets.now) (events_in_sets c.loop-rest.rest.now) c.loop-rest.invariant.takes (end_events c.loop-rest.rest.now none);
      only = sym (c.loop-rest.invariant.only ∙ ap (λ (b : Bool). b && c.loop-rest.definitions.withdraws_only) (end_withdrawals c.loop-rest.rest.now none));
    }
