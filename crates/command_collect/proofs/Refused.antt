-- Arguments and engines that have a fault.
use Rattle.std.proofs.Common.{◌≡◌, ℕ, Bool, true, false, List, [], ◌++◌, append-nil, Option, Some, None, Result, Ok, Err, refl, sym, ap, ◌∙◌, subst}
use Rattle.std.proofs.lemmas.Option.{IfSome_then}
use Rattle.std.specs.Prelude.{◌||◌, is_some, if◌then◌else◌, ◌==◌, nat_lt, IfSome, IfNone}
use Rattle.flow_collect.specs.Failures.{TellsLarge, only_fault}
use Rattle.flow_collect.specs.declared.failure.CollectFailure.{CollectFailure}
use Rattle.flow_collect.proofs.Failures.{tells_fault}
use Rattle.report_writing.specs.OpeningLines.{if_verbose}
use Rattle.report_writing.specs.declared.origin.Origin.{Origin}
use Rattle.report_writing.specs.declared.verbosity.Verbosity.{Verbosity}
use Rattle.command_collect.specs.CollectLines.{collect_fault_line}
use Rattle.command_collect.specs.Large.{failure_lines, large_lines}
use Rattle.flow_collect.specs.Refusals.{HasFaultsOrSampled, IsLateInContext}
use Rattle.ipfix_session.specs.Sources.{SourceView}
use Rattle.flow_table.specs.Plans.{PlanValue}
use Rattle.flow_collect.specs.declared.session_context.InContext.{InContext}
use Rattle.flow_collect.specs.declared.fault.CollectFault.{CollectFault}
use Rattle.flow_collect.specs.declared.fault.CollectFault.TheVariants.{Workers, Sessions, Link, OutOfMemory, SumTooLarge, Sampled}
use Rattle.flow_collect.specs.declared.collected.TheConstants.{MAX_WORKERS, MAX_SESSIONS}
use Rattle.flow_link.specs.declared.making.TheConstants.{MAX_CAPACITY}
use Rattle.command_collect.specs.Engines.{due_fault, fault_of_engine, HasFaultsBy}
use Rattle.command_collect.specs.Runs.{IsJobFault}
use Rattle.command_collect.specs.declared.engine.Engine.{Engine}
use Rattle.command_collect.specs.declared.engine.Engine.TheVariants.{Links, Lots}

faults_too : (workers sessions link : Bool) (w s l : CollectFault) → is_some (if workers then Some w else (if false then Some s else (if link then Some l else None))) ≡ true
    → is_some (if workers then Some w else (if sessions then Some s else (if link then Some l else None))) ≡ true
faults_too true sessions link w s l some = refl
faults_too false true link w s l some = refl
faults_too false false link w s l some = some

pub still_refused : (engine : Engine) (n : ℕ) → is_some (fault_of_engine engine) ≡ true → is_some (due_fault engine n) ≡ true
still_refused (Links pool) n some =
    faults_too ((pool.workers == 0) || nat_lt MAX_WORKERS pool.workers) ((n == 0) || nat_lt MAX_SESSIONS n) ((pool.capacity == 0) || nat_lt MAX_CAPACITY pool.capacity) Workers Sessions Link some
still_refused (Lots lots) n some =
    faults_too ((lots == 0) || nat_lt MAX_WORKERS lots) (n == 0) false Workers Sessions Link some

-- the same, of what was answered
pub early_same : (engine : Engine) (n : ℕ) (first answer : Option CollectFault) (fault : CollectFault) → first ≡ Some fault → first ≡ fault_of_engine engine → answer ≡ due_fault engine n → is_some answer ≡ is_some (fault_of_engine engine)
early_same engine n first answer fault is one other =
    let refused : is_some (fault_of_engine engine) ≡ true = subst (λ (o : Option CollectFault). is_some o ≡ true) (sym is ∙ one) refl in
    let still : is_some answer ≡ true = rw other (still_refused engine n refused) in
    still ∙ sym refused

pub shown : {X : Type 0} (o answer : Option X) → answer ≡ o → IfSome answer (λ x. o ≡ Some x)
shown o None is = tt
shown o (Some x) is = sym is

-- what holds whatever the fault
pub whatever : {X : Type 0} (o : Option X) (P : Type 0) → P → IfSome o (λ x. P)
whatever None P p = tt
whatever (Some x) P p = p

pub even_if_none : {X : Type 0} (o : Option X) (P : Type 0) → P → IfNone o P
even_if_none None P p = p
even_if_none (Some x) P p = tt

pub not_if_some : {X : Type 0} (o : Option X) (P : Type 0) → is_some o ≡ true → IfNone o P
not_if_some None P some = absurd (cc some)
not_if_some (Some x) P some = tt

pub not_if_none : {X : Type 0} (o : Option X) (P : X → Type 0) → is_some o ≡ false → IfSome o P
not_if_none None P none = tt
not_if_none (Some x) P none = absurd (cc none)

-- ---- what was answered

-- the fault that was answered is the one that there is
pub job_fault : {X : Type 0} (n count : ℕ) (TooLarge AreSampled : Type 0) (engine : Engine) (fault : CollectFault) → n ≡ count
    → HasFaultsOrSampled {X = X} (due_fault engine n) TooLarge AreSampled (Err fault) → IsJobFault count TooLarge AreSampled engine fault
job_fault {X = X} n count TooLarge AreSampled engine fault same has =
    record {
      arguments = IfSome_then (due_fault engine count) (subst (λ (n : ℕ). IfSome (due_fault engine n) (λ due. ◌≡◌ {A = Result X CollectFault} (Err fault) (Err due))) same has.arguments) (λ due is. cc is);
      others = subst (λ (n : ℕ). IfNone (due_fault engine n) (IsLateInContext fault)) same has.others;
      too_large = λ is. has.too_large (ap Err is);
      sampled = λ is. has.sampled (ap Err is);
    }

-- and there is none where none was answered
pub not_refused : {X : Type 0} (n count : ℕ) (TooLarge AreSampled : Type 0) (engine : Engine) (collected : X) (P : CollectFault → Type 0) → n ≡ count
    → HasFaultsOrSampled (due_fault engine n) TooLarge AreSampled (Ok collected) → IfSome (due_fault engine count) P
not_refused {X = X} n count TooLarge AreSampled engine collected P same has =
    IfSome_then (due_fault engine count) (subst (λ (n : ℕ). IfSome (due_fault engine n) (λ due. ◌≡◌ {A = Result X CollectFault} (Ok collected) (Err due))) same has.arguments) (λ due is. absurd (cc is))

the_fault : {X : Type 0} {e f : CollectFault} → ◌≡◌ {A = Result X CollectFault} (Err e) (Err f) → e ≡ f
the_fault is = cc is

-- another answer of the same kind has the same faults
pub faults_if_had : {X Y : Type 0} (due : Option CollectFault) (TooLarge AreSampled : Type 0) (x : X) (y : Y) → HasFaultsOrSampled due TooLarge AreSampled (Ok x) → HasFaultsOrSampled due TooLarge AreSampled (Ok y)
faults_if_had {X = X} {Y = Y} due TooLarge AreSampled x y has =
    record {
      arguments = IfSome_then due has.arguments (λ fault is. absurd (cc is));
      others = even_if_none due (Unit {0}) tt;
      too_large = λ is. absurd (cc is);
      sampled = λ is. absurd (cc is);
    }

pub faults_if_not_had : {X Y : Type 0} (due : Option CollectFault) (TooLarge AreSampled : Type 0) (fault : CollectFault) → HasFaultsOrSampled {X = X} due TooLarge AreSampled (Err fault) → HasFaultsOrSampled {X = Y} due TooLarge AreSampled (Err fault)
faults_if_not_had {X = X} {Y = Y} due TooLarge AreSampled fault has =
    record {
      arguments = IfSome_then due has.arguments (λ x is. ap Err (the_fault is));
      others = has.others;
      too_large = λ is. has.too_large (ap Err (the_fault is));
      sampled = λ is. has.sampled (ap Err (the_fault is));
    }

-- a fault of arguments is no other
never_early : (workers sessions link : Bool) (late : CollectFault) → (Workers ≡ late → ⊥) → (Sessions ≡ late → ⊥) → (Link ≡ late → ⊥)
    → (if workers then Some Workers else (if sessions then Some Sessions else (if link then Some Link else None))) ≡ Some late → ⊥
never_early true sessions link late w s l is = w (cc is)
never_early false true link late w s l is = s (cc is)
never_early false false true late w s l is = l (cc is)
never_early false false false late w s l is = absurd (cc is)

due_is_early : (engine : Engine) (n : ℕ) (late : CollectFault) → (Workers ≡ late → ⊥) → (Sessions ≡ late → ⊥) → (Link ≡ late → ⊥) → due_fault engine n ≡ Some late → ⊥
due_is_early (Links pool) n late w s l is =
    never_early ((pool.workers == 0) || nat_lt MAX_WORKERS pool.workers) ((n == 0) || nat_lt MAX_SESSIONS n) ((pool.capacity == 0) || nat_lt MAX_CAPACITY pool.capacity) late w s l is
due_is_early (Lots lots) n late w s l is = never_early ((lots == 0) || nat_lt MAX_WORKERS lots) (n == 0) false late w s l is

-- the fault that the arguments have is answered
pub refused_first : {X : Type 0} (engine : Engine) (n : ℕ) (TooLarge AreSampled : Type 0) (fault : CollectFault) → due_fault engine n ≡ Some fault → HasFaultsOrSampled {X = X} (due_fault engine n) TooLarge AreSampled (Err fault)
refused_first {X = X} engine n TooLarge AreSampled fault due =
    record {
      arguments = subst (λ (o : Option CollectFault). IfSome o (λ x. ◌≡◌ {A = Result X CollectFault} (Err fault) (Err x))) (sym due) refl;
      others = subst (λ (o : Option CollectFault). IfNone o (IsLateInContext fault)) (sym due) tt;
      too_large = λ is. absurd (due_is_early engine n SumTooLarge (λ same. absurd (cc same)) (λ same. absurd (cc same)) (λ same. absurd (cc same)) (due ∙ ap Some (the_fault is)));
      sampled = λ is. absurd (due_is_early engine n Sampled (λ same. absurd (cc same)) (λ same. absurd (cc same)) (λ same. absurd (cc same)) (due ∙ ap Some (the_fault is)));
    }

-- the same of as many sources, if they are the same
pub faults_elsewhere : {S X : Type 0} (seen : S → SourceView) (plan : PlanValue) (engine : Engine) (n m : ℕ) (these those : List (InContext S)) (result : Result X CollectFault) → n ≡ m → these ≡ those
    → HasFaultsBy seen engine these plan n result → HasFaultsBy seen engine those plan m result
faults_elsewhere seen plan engine n m these those result many same has =
    subst (λ (k : ℕ). HasFaultsBy seen engine those plan k result) many (subst (λ (l : List (InContext _)). HasFaultsBy seen engine l plan n result) same has)

-- and where memory ran out after it was had
pub faults_if_memory : {X Y : Type 0} (due : Option CollectFault) (TooLarge AreSampled : Type 0) (x : X) → HasFaultsOrSampled due TooLarge AreSampled (Ok x) → HasFaultsOrSampled {X = Y} due TooLarge AreSampled (Err OutOfMemory)
faults_if_memory {X = X} {Y = Y} due TooLarge AreSampled x has =
    record {
      arguments = IfSome_then due has.arguments (λ fault is. absurd (cc is));
      others = even_if_none due (Unit {0}) tt;
      too_large = λ is. absurd (cc is);
      sampled = λ is. absurd (cc is);
    }

-- ---- what is told of a failure

either_nothing : (b : Bool) → ◌≡◌ {A = List ℕ} (if b then [] else []) []
either_nothing true = refl
either_nothing false = refl

nothing_named : (verbosity : Verbosity) → if_verbose verbosity [] ≡ []
nothing_named verbosity = either_nothing verbosity.verbose

-- a fault that names nothing has its line alone
line_alone : (verbosity : Verbosity) (plan : PlanValue) (origins : List Origin) (failure : CollectFailure) → failure ≡ only_fault failure.fault → failure_lines verbosity plan origins failure ≡ collect_fault_line failure.fault
line_alone verbosity plan origins failure only =
    ap (λ (f : CollectFailure). collect_fault_line failure.fault ++ large_lines verbosity plan origins f) only ∙ ap (λ (l : List ℕ). collect_fault_line failure.fault ++ l) (nothing_named verbosity) ∙ append-nil _

-- the fault that the arguments have is told alone
pub refusal_named : {S : Type 0} (seen : S → SourceView) (plan : PlanValue) (given : List (InContext S)) (engine : Engine) (n : ℕ) (failure : CollectFailure) (verbosity : Verbosity) (origins : List Origin) (Status Untouched : Type 0) (AreTold : List ℕ → Type 0)
    → (due : Option CollectFault) → due ≡ due_fault engine n → IfSome due (λ x. failure.fault ≡ x) → TellsLarge seen plan given failure → Status → Untouched → AreTold (failure_lines verbosity plan origins failure)
    → IfSome due (λ x. Status × Untouched × AreTold (collect_fault_line x))
refusal_named seen plan given engine n failure verbosity origins Status Untouched AreTold None same is names status untouched told = tt
refusal_named seen plan given engine n failure verbosity origins Status Untouched AreTold (Some x) same is names status untouched told =
    let early : (failure.fault ≡ SumTooLarge → ⊥) = λ large. due_is_early engine n SumTooLarge (λ e. absurd (cc e)) (λ e. absurd (cc e)) (λ e. absurd (cc e)) (sym same ∙ ap Some (sym is ∙ large)) in
    (status, untouched, subst AreTold (line_alone verbosity plan origins failure (names.others early) ∙ ap collect_fault_line is) told)

-- one that comes of no sum names nothing
pub none_named : {S : Type 0} (seen : S → SourceView) (plan : PlanValue) (given : List (InContext S)) (engine : Engine) (n : ℕ) (fault : CollectFault) → due_fault engine n ≡ Some fault → TellsLarge seen plan given (only_fault fault)
none_named seen plan given engine n fault due = tells_fault seen plan given fault (λ large. due_is_early engine n SumTooLarge (λ e. absurd (cc e)) (λ e. absurd (cc e)) (λ e. absurd (cc e)) (due ∙ ap Some large))

pub no_memory_named : {S : Type 0} (seen : S → SourceView) (plan : PlanValue) (given : List (InContext S)) → TellsLarge seen plan given (only_fault OutOfMemory)
no_memory_named seen plan given = tells_fault seen plan given OutOfMemory (λ e. cc e)

-- the same of a failure that is a fault alone
pub faults_alone : {X : Type 0} (due : Option CollectFault) (TooLarge AreSampled : Type 0) (fault : CollectFault) (failure : CollectFailure) → failure ≡ only_fault fault
    → HasFaultsOrSampled {X = X} due TooLarge AreSampled (Err fault) → HasFaultsOrSampled {X = X} due TooLarge AreSampled (Err failure.fault)
faults_alone {X = X} due TooLarge AreSampled fault failure is has = subst (λ (f : CollectFailure). HasFaultsOrSampled {X = X} due TooLarge AreSampled (Err f.fault)) (sym is) has

pub names_alone : {S : Type 0} (seen : S → SourceView) (plan : PlanValue) (given : List (InContext S)) (fault : CollectFault) (failure : CollectFailure) → failure ≡ only_fault fault → TellsLarge seen plan given (only_fault fault) → TellsLarge seen plan given failure
names_alone seen plan given fault failure is names = subst (TellsLarge seen plan given) (sym is) names
