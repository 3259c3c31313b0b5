-- Estimates gone through one after another.
use Rattle.std.proofs.Common.{◌≡◌, ◌≤◌, ◌-◌, ℕ, List, [], ◌∷◌, length, take, drop, refl, sym, ap, subst, ◌∙◌, arith}
use Rattle.std.specs.Prelude.{Ok, slice_index_or}
use Rattle.std.proofs.Math.Seq.{take-length}
use Rattle.element_registry.specs.Faults.{Fails, Read}
use Rattle.element_registry.specs.Files.{with_entry}
use Rattle.element_registry.specs.Registries.{Known}
use Rattle.element_registry.specs.Rows.{and_then}
use Rattle.element_registry.specs.declared.fault.ElementsFault.{ElementsFault}
use Rattle.element_registry.proofs.Steps.{fails_then}
use Rattle.flow_estimates.specs.declared.estimates.Estimate.{Estimate}
use Rattle.flow_plan_fields.specs.Scaled.{known_estimate, with_estimates}

-- those after the first
rest_of : {X : Type 0} (x : X) (xs : List X) → take (length (x ∷ xs) - 1) (drop 1 (x ∷ xs)) ≡ xs
rest_of x xs = let left : length (x ∷ xs) - 1 ≡ length xs = omega arith in ap (λ (n : ℕ). take n xs) left ∙ take-length xs

pub go_on : (known more : List Known) (keys : List Estimate) (d key : Estimate) → 1 ≤ length keys → key ≡ slice_index_or keys 0 d → with_entry known (known_estimate known key) ≡ Ok more
    → with_estimates more (take (length keys - 1) (drop 1 keys)) ≡ with_estimates known keys
go_on known more [] d key some is h = absurd (omega (arith, some))
go_on known more (k ∷ keys) d key some is h =
    let first : with_entry known (known_estimate known k) ≡ Ok more = ap (λ (x : Estimate). with_entry known (known_estimate known x)) (sym is) ∙ h in
    ap (with_estimates more) (rest_of k keys)
    ∙ sym (ap (λ (r : Read (List Known)). and_then r (λ more. with_estimates more keys)) first)

pub fail : (known : List Known) (keys : List Estimate) (d key : Estimate) (read : Read (List Known)) (fault : ElementsFault) → 1 ≤ length keys → key ≡ slice_index_or keys 0 d → with_estimates known keys ≡ read
    → Fails fault (with_entry known (known_estimate known key)) → Fails fault read
fail known [] d key read fault some is same h = absurd (omega (arith, some))
fail known (k ∷ keys) d key read fault some is same h =
    let first : Fails fault (with_entry known (known_estimate known k)) = subst (λ (x : Estimate). Fails fault (with_entry known (known_estimate known x))) is h in
    subst (Fails fault) same (fails_then fault _ (λ more. with_estimates more keys) first)
