-- Where all packets are selected.
use Rattle.std.proofs.Common.{◌≡◌, ◌≢◌, ℕ, ◌*◌, ◌/◌, ◌==◌, cond, ap, ◌∙◌, inl, inr, arith}
use Rattle.std.proofs.Math.Nat.{mul-div_cancel}
use Rattle.std.proofs.lemmas.Bool.{cases_Bool, cond-true, cond-false, eqb-false}

pub all_selected : (n s p : ℕ) → p ≡ s → cond (s == 0) n (n * p / s) ≡ n
all_selected n s p same =
    elim (cases_Bool (s == 0)) as (λ _. cond (s == 0) n (n * p / s) ≡ n) [
      | inl none ↦ cond-true (s == 0) n (n * p / s) none
      | inr some ↦
          let apart : s ≢ 0 = eqb-false s 0 some in
          cond-false (s == 0) n (n * p / s) some ∙ ap (λ q. n * q / s) same ∙ mul-div_cancel n (omega (arith, apart))
    ]
