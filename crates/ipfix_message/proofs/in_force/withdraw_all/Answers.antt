use Rattle.std.proofs.Common.{ap, ◌∙◌, rules}
use Rattle.std.specs.Prelude.{not}
use Rattle.std.specs.Ordering.{nat_cmp, eq_by_cmp}
use Rattle.std.specs.Cmp.{nat_cmp_total}
use Rattle.std.specs.Map.{lookup, keys_of}
use Rattle.std.proofs.lemmas.Cmp.{eq_by_cmp_equiv}
use Rattle.std.proofs.lemmas.Map.Made.{filter_same_pairs}
use Rattle.std.proofs.lemmas.Map.Keys.{IsDistinct-from_sorted}
use Rattle.std.proofs.lemmas.Map.Entries.{lookup-filter-values}
use Rattle.ipfix_message.specs.TemplatesInForce.{is_of}
use Rattle.ipfix_message.proofs.Same.{unless_of-filter}
use Rattle.ipfix_message.proofs.in_force.withdraw_all.Goals as goal

pub returns : goal.returns
returns c = λ q.
    let kept = filter_same_pairs _ (λ e. not (is_of c.args.kind e.1)) _ (λ k v b w f' t. search rules) _ _ c.retain.ensures.filtered in
    ap (lookup (eq_by_cmp nat_cmp q)) kept
    ∙ lookup-filter-values (eq_by_cmp_equiv nat_cmp_total) (λ t. not (is_of c.args.kind t)) q c.args.templates.now.entries (IsDistinct-from_sorted nat_cmp (keys_of c.args.templates.now.entries) c.retain.ensures.was_ordered)
    ∙ unless_of-filter c.args.kind _
