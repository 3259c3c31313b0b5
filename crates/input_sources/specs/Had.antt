-- Which sources were had, of those that were still to come.
use Rattle.std.specs.Prelude.{◌≡◌, ◌⊎◌, ℕ, false, List, [], ◌∷◌, ◌++◌, length, All, Option, None, Some}
use Rattle.std.specs.Borrow.{Bor}
use Rattle.std.specs.List.{AllZip}
use Rattle.ipfix_session.specs.Sources.{SourceView}
use Rattle.report_writing.specs.declared.reason.Reason.{Reason}
use Rattle.report_writing.specs.declared.reason.Reason.TheVariants.{OutOfMemory}

-- nothing was read from it yet
pub record IsUnread {S : Type 0} (seen : S → SourceView) (source : S) : Type 0 where
  pub reads : (seen source).reads ≡ 0
  pub failed : (seen source).failed ≡ 0
  pub ended : (seen source).ended ≡ false

-- of the sources that were still to come, if they are told, exactly these came, in this order
abbrev pub NextOnes : {S : Type 0} → Option (List S) → Option (List S) → List S → Type 0
NextOnes None after sources = Unit {0}
NextOnes (Some all) None sources = ⊥
NextOnes (Some all) (Some left) sources = all ≡ sources ++ left

-- and exactly this one came
abbrev pub ComesNext : {S : Type 0} → Option (List S) → Option (List S) → S → Type 0
ComesNext before after source = NextOnes before after (source ∷ [])

-- what is so after a call was so before it
abbrev pub HoldBefore : {A B : Type 0} → (A → B → Type 0) → (A → B → Type 0) → Type 0
HoldBefore {A} {B} before after = (a : A) (b : B) → after a b → before a b

-- the next source came, which is the one that was asked for
pub record IsOpened {S : Type 0} (IsAsked : S → Type 0) (before after : Option (List S)) (source : S) : Type 0 where
  pub asked : IsAsked source
  pub came : ComesNext before after source

-- each path was opened once, in their order: there is one source for each, and exactly these came
pub record AreOpened {P S : Type 0} (opens : P → S → Type 0) (paths : List P) (before after : Option (List S)) (sources : List S) : Type 0 where
  pub one_each : AllZip opens paths sources
  pub came : NextOnes before after sources

-- the same of paths, by what they open
abbrev pub PathsAreOpened : {S O : Type 0} → (O → List ℕ → S → Type 0) → (O → Option (List S)) → O → O → List (Bor (List ℕ)) → List S → Type 0
PathsAreOpened opens coming before after paths sources = AreOpened (λ (path : Bor (List ℕ)). opens before path.now) paths (coming before) (coming after) sources

-- why a source was not had: for such a reason, or there was no memory to keep it
abbrev pub IsReasonOf : (Reason → Type 0) → Reason → Type 0
IsReasonOf Refuses reason = Refuses reason ⊎ (reason ≡ OutOfMemory)

-- so many connections were accepted, in this order, each of them as it was asked for, and exactly these came
pub record AreAccepted {S : Type 0} (IsAsked : S → Type 0) (count : ℕ) (before after : Option (List S)) (sources : List S) : Type 0 where
  pub one_each : length sources ≡ count
  pub asked : All IsAsked sources
  pub came : NextOnes before after sources
