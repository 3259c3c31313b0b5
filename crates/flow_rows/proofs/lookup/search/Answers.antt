use Rattle.std.proofs.Common.{ℕ, List, rules, subst}
use Rattle.std.specs.List.Sorted.{IsBinarySearchResult}
use Rattle.std.proofs.lemmas.List.Sorted.{answers_always}
use Rattle.flow_rows.specs.Rows.{Row, words_cmp}
use Rattle.flow_rows.proofs.lookup.search.Goals as goal

pub returns-clause-place : goal.returns-clause-place
returns-clause-place g c =
    subst (λ (k : List ℕ). IsBinarySearchResult (λ (x : Row). words_cmp x.key k) c.args.run.now c.binary_search_by_key.result) c.key-key.ensures
    (c.binary_search_by_key.ensures.position (λ (y : Row). y.key) (answers_always _ _ _ (λ f a r h called. search rules)))
