use Rattle.std.proofs.Common.{◌≡◌, List, ℕ, sym, subst, rules}
use Rattle.std.specs.Prelude.{option_map}
use Rattle.std.specs.Ordering.{nat_cmp}
use Rattle.std.specs.BTreeMap.{get, keys}
use Rattle.ipfix_message.specs.TemplateLimits.{fields_of}
use Rattle.ipfix_datagrams.proofs.Weighed.{Counting, counting_first}
use Rattle.ipfix_datagrams.proofs.weighing.count_all.Goals as goal

pub loop-id-init : goal.loop-id-init
loop-id-init c =
    let all : c.into_iter-id-iterator.result ≡ keys c.args.templates.now = search rules in
    subst (λ (ks : List ℕ). Counting (λ q. option_map fields_of (get nat_cmp c.args.templates.now q)) (get nat_cmp c.args.counts.now) (get nat_cmp c.args.counts.now) ks) (sym all)
    (counting_first c.args.templates.now (get nat_cmp c.args.counts.now))
