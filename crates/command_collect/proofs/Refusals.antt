-- The faults of a run whose sources are parts of others.
use Rattle.std.proofs.Common.{◌≡◌, ℕ, Option, None, Result, Ok, Err, subst, sym, refl}
use Rattle.std.specs.Prelude.{IfSome, IfNone, IfErr, IsErrOf}
use Rattle.std.proofs.lemmas.Option.{IfSome_then}
use Rattle.flow_collect.specs.Refusals.{HasFaultsOrSampled, IsLateInContext}
use Rattle.flow_collect.specs.declared.fault.CollectFault.{CollectFault}
use Rattle.flow_collect.specs.declared.fault.CollectFault.TheVariants.{OutOfMemory, SumTooLarge, Sampled}

-- want of memory comes late
pub out_of_memory : {X : Type 0} (due : Option CollectFault) (TooLarge AreSampled : Type 0) → due ≡ None → HasFaultsOrSampled {X = X} due TooLarge AreSampled (Err OutOfMemory)
out_of_memory {X = X} due TooLarge AreSampled none =
    record {
      arguments = subst (λ (o : Option CollectFault). IfSome o (λ fault. ◌≡◌ {A = Result X CollectFault} (Err OutOfMemory) (Err fault))) (sym none) tt;
      others = subst (λ (o : Option CollectFault). IfNone o (IfErr {T = X} (Err OutOfMemory) IsLateInContext)) (sym none) tt;
      too_large = λ is. absurd (cc is);
      sampled = λ is. absurd (cc is);
    }

-- what is answered has no fault
pub no_fault : {X : Type 0} (due : Option CollectFault) (TooLarge AreSampled : Type 0) (x : X) → due ≡ None → HasFaultsOrSampled due TooLarge AreSampled (Ok x)
no_fault {X = X} due TooLarge AreSampled x none =
    record {
      arguments = subst (λ (o : Option CollectFault). IfSome o (λ fault. ◌≡◌ {A = Result X CollectFault} (Ok x) (Err fault))) (sym none) tt;
      others = subst (λ (o : Option CollectFault). IfNone o (IfErr {E = CollectFault} (Ok x) IsLateInContext)) (sym none) tt;
      too_large = λ is. absurd (cc is);
      sampled = λ is. absurd (cc is);
    }

-- the same fault of another answer
same_fault : {X : Type 0} {e f : CollectFault} → ◌≡◌ {A = Result X CollectFault} (Err e) (Err f) → e ≡ f
same_fault is = cc is

pub fault_of_part : {X Y : Type 0} (due other : Option CollectFault) (TooLarge AreLarge AreSampled IsSampled : Type 0) (fault : CollectFault) → due ≡ other → (TooLarge → AreLarge) → (AreSampled → IsSampled)
    → HasFaultsOrSampled {X = X} due TooLarge AreSampled (Err fault) → HasFaultsOrSampled {X = Y} other AreLarge IsSampled (Err fault)
fault_of_part {X = X} {Y = Y} due other TooLarge AreLarge AreSampled IsSampled fault same larger sampled has =
    let answered = λ (late : CollectFault) (e : fault ≡ late). subst (λ (x : CollectFault). ◌≡◌ {A = Result X CollectFault} (Err fault) (Err x)) e refl in
    subst (λ (o : Option CollectFault). HasFaultsOrSampled {X = Y} o AreLarge IsSampled (Err fault)) same
    (record {
      arguments = IfSome_then due has.arguments (λ d is. let e : fault ≡ d = same_fault is in subst (λ (x : CollectFault). ◌≡◌ {A = Result Y CollectFault} (Err fault) (Err x)) e refl);
      others = has.others;
      too_large = λ is. larger (has.too_large (answered SumTooLarge (same_fault is)));
      sampled = λ is. sampled (has.sampled (answered Sampled (same_fault is)));
    })
