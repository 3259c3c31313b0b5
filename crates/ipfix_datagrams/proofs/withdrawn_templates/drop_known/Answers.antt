use Rattle.std.proofs.Common.{ℕ, Bool, is_some, ap, ◌∙◌, rules}
use Rattle.std.specs.Prelude.{not, option_copied}
use Rattle.std.specs.Ordering.{nat_cmp, eq_by_cmp}
use Rattle.std.specs.Map.{lookup}
use Rattle.std.proofs.lemmas.Map.Made.{filter_same_pairs}
use Rattle.std.proofs.lemmas.Map.Entries.{lookup-filter-keys}
use Rattle.ipfix_datagrams.specs.Datagrams.{template_in}
use Rattle.ipfix_datagrams.proofs.WithdrawnKept.{at_key, not_kept}
use Rattle.ipfix_datagrams.proofs.withdrawn_templates.drop_known.Goals as goal

pub returns : goal.returns
returns c = λ q.
    let is_known : ℕ → Bool = λ id. is_some (template_in (option_copied c.args.after) id) in
    let kept = filter_same_pairs _ (λ e. not (is_known e.0)) _ (λ k v b w f' t. search rules) _ _ c.retain.ensures.filtered in
    ap (lookup (eq_by_cmp nat_cmp q)) kept
    ∙ lookup-filter-keys (eq_by_cmp nat_cmp q) (λ id. not (is_known id)) (not (is_known q)) (λ k at. at_key (λ id. not (is_known id)) q k at) c.args.kept.now.entries
    ∙ not_kept (is_known q) _
