-- The rows of a finished table, written one after another.
use Rattle.std.proofs.Common.{◌≡◌, ℕ, suc, ◌+◌, List, [], ◌∷◌, ◌++◌, get_or, sym, ap, ◌∙◌, add-one}
use Rattle.flow_table.specs.Words.{first_of}
use Rattle.flow_table.proofs.WordSteps.{first_more}

pub sums_step : (numbers : List ℕ) (i : ℕ) (old new : List ℕ) → old ≡ first_of i (λ j. get_or numbers (suc j) 0) → new ≡ old ++ get_or numbers (i + 1) 0 ∷ [] → new ≡ first_of (i + 1) (λ j. get_or numbers (suc j) 0)
sums_step numbers i old new h p =
    p ∙ ap (λ (ns : List ℕ). ns ++ get_or numbers (i + 1) 0 ∷ []) h
    ∙ ap (λ (k : ℕ). first_of i (λ j. get_or numbers (suc j) 0) ++ get_or numbers k 0 ∷ []) (add-one i)
    ∙ sym (first_more i (λ j. get_or numbers (suc j) 0))
