use Rattle.std.proofs.Common.{◌≡◌, ℕ, cond, eqb}
use Rattle.std.specs.Prelude.{option_copied}
use Rattle.std.specs.Option.{option_or}
use Rattle.std.specs.BTreeMap.{get}
use Rattle.std.specs.Ordering.{nat_cmp}
use Rattle.ipfix_datagrams.specs.Datagrams.{template_in}
use Rattle.ipfix_datagrams.specs.Late.{known_as, retimed_in, time_at}
use Rattle.ipfix_datagrams.proofs.Kept.{on_kept}
use Rattle.ipfix_datagrams.proofs.Times.{empty_gets, none_timed, put_in_again}
use Rattle.ipfix_datagrams.proofs.definition_times.keep_times.Goals as goal

pub returns : goal.returns
returns c =
    let known = known_as c.args.in_force c.args.withdrawn in
    let last = get nat_cmp c.args.last.now in
    let own = get nat_cmp c.put_times.new.times in
    let old = time_at c.args.times.now in
    let taken = time_at c.take_times-own.new.all in
    let new = time_at c.put_own.new.times in
    on_kept c.put_own.result ((q id : ℕ) → new q id ≡ cond (eqb q c.args.domain) (own id) (taken q id)) ((q id : ℕ) → new q id ≡ retimed_in c.args.domain known last c.args.now old q id)
    (λ puts. put_in_again c.args.domain known last c.args.now old taken new own (get nat_cmp c.take_times-own.result) puts c.in_ok-put_times.ensures c.take_times-own.ensures.kept c.take_times-own.ensures.others)
    c.put_own.ensures

pub returns-then-is_empty : goal.returns-then-is_empty
returns-then-is_empty c = λ q id.
    none_timed (eqb q c.args.domain) (option_or (template_in (option_copied c.args.in_force) id) (template_in (option_copied c.args.withdrawn) id)) c.args.now (get nat_cmp c.args.last.now id) (time_at c.args.times.now q id)
    (empty_gets c.args.last.now id (c.is_empty.ensures.0 c.if-is_empty.true))
