-- A text without a slash.
use Rattle.std.proofs.Common.{◌≡◌, ℕ, ◌<◌, false, List, length, get_or, Option, Some, None, sym}
use Rattle.std.specs.Prelude.{◌≢◌}
use denote.Bor.{Bor}
use Rattle.std.specs.List.{list_any}
use Rattle.std.specs.Option.{MatchOption}
use Rattle.std.proofs.lemmas.Bool.{ne_eqb}
use Rattle.std.proofs.lemmas.List.Folds.{list_any_none}
use Rattle.std.proofs.lemmas.List.Elements.{All-from_get_or}
use Rattle.std.proofs.lemmas.Option.{none-some}
use Rattle.flow_plan.specs.PlanTexts.{slash, is_slash}

pub no_slash : (text : List ℕ) (r : Option (Bor (List ℕ) × Bor (List ℕ))) (P : Bor (List ℕ) × Bor (List ℕ) → Type 0) → MatchOption r ((i : ℕ) → i < length text → get_or text i 0 ≢ slash) P → r ≡ None → list_any is_slash text ≡ false
no_slash text None P none is = list_any_none is_slash text (All-from_get_or (λ b. is_slash b ≡ false) text 0 (λ i inside. ne_eqb (get_or text i 0) slash (none i inside)))
no_slash text (Some x) P none is = absurd (none-some x (sym is))
