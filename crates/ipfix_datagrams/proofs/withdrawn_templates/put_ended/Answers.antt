use Rattle.std.proofs.Common.{◌≡◌, List, ℕ, sym, subst, rules}
use Rattle.std.specs.Prelude.{option_copied}
use Rattle.std.specs.Ordering.{nat_cmp}
use Rattle.std.specs.BTreeMap.{get, keys}
use Rattle.ipfix_datagrams.specs.Datagrams.{template_in}
use Rattle.ipfix_datagrams.proofs.WithdrawnKept.{Ending, ending_first}
use Rattle.ipfix_datagrams.proofs.withdrawn_templates.put_ended.Goals as goal

pub loop-id-init : goal.loop-id-init
loop-id-init c =
    let all : c.into_iter-id-iterator.result ≡ keys c.args.ended.now = search rules in
    let after = c.args.after in
    subst (λ (ks : List ℕ). Ending (λ q. template_in (option_copied after) q) (get nat_cmp c.args.ended.now) (get nat_cmp c.args.kept.now) (get nat_cmp c.args.kept.now) ks) (sym all)
    (ending_first (λ q. template_in (option_copied after) q) c.args.ended.now (get nat_cmp c.args.kept.now))
