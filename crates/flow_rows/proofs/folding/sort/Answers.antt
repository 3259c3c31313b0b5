use Rattle.std.proofs.Common.{rules}
use Rattle.std.specs.Ordering.{is_lt}
use Rattle.std.proofs.lemmas.Cmp.{nat_list_cmp_total}
use Rattle.std.proofs.lemmas.List.Sorted.{answers_always, ranks_by}
use Rattle.flow_rows.specs.Rows.{Row, words_cmp}
use Rattle.flow_rows.proofs.Rising.{rises_from_sort}
use Rattle.flow_rows.proofs.folding.sort.Goals as goal

pub returns-clause-rises : goal.returns-clause-rises
returns-clause-rises g c =
    rises_from_sort c.sort_unstable_by.new.self (c.sort_unstable_by.ensures.sorted (λ (x y : Row). is_lt (words_cmp x.key y.key)) (ranks_by nat_list_cmp_total (λ (x : Row). x.key)) (answers_always _ _ _ (λ f a r h called. search rules)))
