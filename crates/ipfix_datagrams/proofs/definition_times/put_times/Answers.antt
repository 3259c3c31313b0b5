use Rattle.std.proofs.Common.{◌≡◌, ◌∷◌, List, ℕ, Option, sym, subst, ap, cond, eqb, ◌∙◌, rules}
use Rattle.std.specs.Prelude.{option_copied}
use Rattle.std.specs.Option.{option_or}
use Rattle.std.specs.Ordering.{nat_cmp}
use Rattle.std.specs.BTreeMap.{get, keys}
use Rattle.ipfix_message.specs.declared.record.Template.{Template}
use Rattle.ipfix_datagrams.specs.Datagrams.{template_in}
use Rattle.ipfix_datagrams.specs.Late.{newly}
use Rattle.ipfix_datagrams.specs.declared.moment.Moment.{Moment}
use Rattle.ipfix_datagrams.proofs.Times.{Timing, timing_first, timing_more}
use Rattle.ipfix_datagrams.proofs.definition_times.put_times.Goals as goal

pub loop-id-init : goal.loop-id-init
loop-id-init c =
    let all : c.into_iter-id-iterator.result ≡ keys c.args.last.now = search rules in
    let known : ℕ → Option Template = λ q. option_or (template_in (option_copied c.args.in_force) q) (template_in (option_copied c.args.withdrawn) q) in
    subst (λ (ks : List ℕ). Timing (λ q. newly (known q) (get nat_cmp c.args.last.now q) c.args.now) (get nat_cmp c.args.times.now) (get nat_cmp c.args.times.now) ks) (sym all)
    (timing_first c.args.last.now known c.args.now (get nat_cmp c.args.times.now))

pub loop-id-preserved : goal.loop-id-preserved
loop-id-preserved c =
    let step : c.loop-id.id-iterator ≡ c.in-Some.id.now ∷ c.next.new.self = search rules in
    let known : ℕ → Option Template = λ q. option_or (template_in (option_copied c.args.in_force) q) (template_in (option_copied c.args.withdrawn) q) in
    let f : ℕ → Option Moment = λ q. newly (known q) (get nat_cmp c.args.last.now q) c.args.now in
    let id = c.in-Some.id.now in
    let old = get nat_cmp c.args.times.now in
    let now = get nat_cmp c.loop-id.times in
    timing_more f old now (get nat_cmp c.put_time.new.times) id c.next.new.self (subst (λ (ks : List ℕ). Timing f old now ks) step c.loop-id.invariant)
    (λ q. c.in_ok-put_time.ensures q ∙ ap (λ (o : Option Template). cond (eqb q id) (option_or (newly o (get nat_cmp c.args.last.now id) c.args.now) (now q)) (now q)) c.known_of-known.ensures)
