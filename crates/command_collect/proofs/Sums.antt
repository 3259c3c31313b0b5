-- What rows add up to, row by row.
use Rattle.std.proofs.Common.{◌≡◌, ℕ, ◌+◌, ◌*◌, ◌<◌, ◌≤◌, List, length, take, get_or, sym, ap, ◌∙◌, arith}
use Rattle.std.specs.Prelude.{◌^◌, sum_by}
use Rattle.std.proofs.lemmas.List.Sums.{sum_by_more}

-- one row more
pub summed_more : {X : Type 0} (f : X → ℕ) (rows : List X) (index total later : ℕ) (row : X) → index < length rows → total ≡ sum_by f (take index rows)
    → get_or rows index row ≡ row → later ≡ total + f row → later ≡ sum_by f (take (index + 1) rows)
summed_more f rows index total later row within so_far is added =
    added ∙ ap (λ (n : ℕ). n + f row) so_far ∙ ap (λ x. sum_by f (take index rows) + f x) (sym is) ∙ sym (sum_by_more f rows index row within)
