-- The exit status of what ended with a report.
use Rattle.std.proofs.Common.{◌≡◌, ℕ, refl, inl, inr, arith}
use Rattle.std.specs.Prelude.{◌↔◌, ◌⊎◌}
use Rattle.report_writing.specs.Statuses.{number_of}
use Rattle.report_writing.specs.declared.status.Status.{Status}
use Rattle.report_writing.specs.declared.status.Status.TheVariants.{Well, SessionFault, NotOpened, Failed}

-- it is 0 exactly if all was well
pub zero_if_well : (s : Status) (n : ℕ) (P : Type 0) → n ≡ number_of s → (s ≡ Well) ⊎ (s ≡ SessionFault) → ((s ≡ Well) ↔ P) → ((n ≡ 0) ↔ P)
zero_if_well Well n P is ends well = (λ e. well.0 refl, λ p. is)
zero_if_well SessionFault n P is ends well = (λ e. absurd (omega arith), λ p. absurd (cc (well.1 p)))
zero_if_well NotOpened n P is (inl e) well = absurd cc
zero_if_well NotOpened n P is (inr e) well = absurd cc
zero_if_well Failed n P is (inl e) well = absurd cc
zero_if_well Failed n P is (inr e) well = absurd cc

-- and it is that of no failure
pub one_of_three : (s : Status) (n : ℕ) → n ≡ number_of s → (s ≡ Well) ⊎ (s ≡ SessionFault) → (n ≡ 0) ⊎ (n ≡ 1) ⊎ (n ≡ 3)
one_of_three s n is (inl e) = inl (rw e at is)
one_of_three s n is (inr e) = inr (inl (rw e at is))

pub never_three : {P : Type 0} (s : Status) (n : ℕ) → n ≡ number_of s → (s ≡ Well) ⊎ (s ≡ SessionFault) → n ≡ 3 → P
never_three s n is (inl e) three = let zero : n ≡ 0 = rw e at is in absurd (omega (arith, zero, three))
never_three s n is (inr e) three = let one : n ≡ 1 = rw e at is in absurd (omega (arith, one, three))

-- ---- a caller that has one status more, for what can't be opened

pub one_of_four : (status : ℕ) → (status ≡ 0) ⊎ (status ≡ 1) ⊎ (status ≡ 3) → (status ≡ 0) ⊎ (status ≡ 1) ⊎ (status ≡ 2) ⊎ (status ≡ 3)
one_of_four status (inl zero) = inl zero
one_of_four status (inr (inl one)) = inr (inl one)
one_of_four status (inr (inr three)) = inr (inr (inr three))

pub never_two : {P : Type 0} (status : ℕ) → (status ≡ 0) ⊎ (status ≡ 1) ⊎ (status ≡ 3) → status ≡ 2 → P
never_two status (inl zero) two = absurd (omega (arith, zero, two))
never_two status (inr (inl one)) two = absurd (omega (arith, one, two))
never_two status (inr (inr three)) two = absurd (omega (arith, three, two))
