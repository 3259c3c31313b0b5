-- What sessions tell of sampling, as the fault of a run.
use Rattle.std.proofs.Common.{◌≡◌, Bool, true, false, cond, List, Option, None, Some, Err, refl}
use Rattle.std.specs.Prelude.{◌&&◌}
use Rattle.flow_collect.specs.Rated.{sampling_fault, tell_large, tell_sampled}
use Rattle.flow_collect.specs.Refusals.{HasFaultsOrSampled}
use Rattle.flow_collect.specs.declared.collected.FilteredReport.{FilteredReport}
use Rattle.flow_collect.specs.declared.fault.CollectFault.{CollectFault}
use Rattle.flow_collect.specs.declared.fault.CollectFault.TheVariants.{NoThread, SumTooLarge, Sampled}

fault_of : {X : Type 0} (first : Option CollectFault) (TooLarge AreSampled : Type 0) (large sampled : Bool) (fault : CollectFault) → first ≡ None → cond large (Some SumTooLarge) (cond sampled (Some Sampled) None) ≡ Some fault
    → (large ≡ true → TooLarge) → (cond large (Some SumTooLarge) (cond sampled (Some Sampled) None) ≡ Some Sampled → AreSampled) → HasFaultsOrSampled {X = X} first TooLarge AreSampled (Err fault)
fault_of (Some x) TooLarge AreSampled large sampled fault none is due refused = absurd (cc none)
fault_of None TooLarge AreSampled true sampled SumTooLarge none is due refused = record { arguments = tt; others = tt; too_large = λ _. due refl; sampled = λ same. absurd (cc same) }
fault_of None TooLarge AreSampled true sampled fault none is due refused = absurd (cc is)
fault_of None TooLarge AreSampled false true Sampled none is due refused = record { arguments = tt; others = tt; too_large = λ same. absurd (cc same); sampled = λ _. refused refl }
fault_of None TooLarge AreSampled false true fault none is due refused = absurd (cc is)
fault_of None TooLarge AreSampled false false fault none is due refused = absurd (cc is)

pub judged : {X : Type 0} (first : Option CollectFault) (TooLarge AreSampled : Type 0) (refuses : Bool) (reports : List FilteredReport) (fault : CollectFault) → first ≡ None → Some fault ≡ sampling_fault refuses reports
    → (tell_large reports ≡ true → TooLarge) → (sampling_fault refuses reports ≡ Some Sampled → AreSampled) → HasFaultsOrSampled {X = X} first TooLarge AreSampled (Err fault)
judged first TooLarge AreSampled refuses reports fault none is due refused =
    fault_of first TooLarge AreSampled (tell_large reports) (refuses && tell_sampled reports) fault none (cc is) due (λ same. refused (cc same))

never_no_thread : (large sampled : Bool) → cond large (Some SumTooLarge) (cond sampled (Some Sampled) None) ≡ Some NoThread → ⊥
never_no_thread true sampled is = absurd (cc is)
never_no_thread false true is = absurd (cc is)
never_no_thread false false is = absurd (cc is)

pub has_thread : (refuses : Bool) (reports : List FilteredReport) (fault : CollectFault) → Some fault ≡ sampling_fault refuses reports → fault ≡ NoThread → ⊥
has_thread refuses reports fault is same = never_no_thread (tell_large reports) (refuses && tell_sampled reports) (cc (is, same))

large_if_told : (large sampled : Bool) → Some SumTooLarge ≡ cond large (Some SumTooLarge) (cond sampled (Some Sampled) None) → large ≡ true
large_if_told true sampled is = refl
large_if_told false true is = absurd (cc is)
large_if_told false false is = absurd (cc is)

-- a sum that is too large by what sessions tell is an estimate
pub large_told : (refuses : Bool) (reports : List FilteredReport) → Some SumTooLarge ≡ sampling_fault refuses reports → tell_large reports ≡ true
large_told refuses reports is = large_if_told (tell_large reports) (refuses && tell_sampled reports) is
