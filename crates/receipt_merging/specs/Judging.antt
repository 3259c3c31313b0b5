-- Whether parts may be merged.
use Rattle.std.specs.Prelude.{◌≡◌, ◌<◌, ◌⊎◌, ℕ, Bool, true, false, All, List, Option, IsNone, get_or, length, map, string_bytes, take}
use Rattle.table_receipts.specs.Values.{input_value}
use Rattle.receipt_merging.specs.Once.{AreFound, AreSame}
use Rattle.receipt_merging.specs.Parts.{PartValue, all_complete, counts_from, inputs_in, is_complete, left_out_in, no_counts}
use Rattle.receipt_merging.specs.declared.merging.Judgement.{Judgement}
use Rattle.receipt_merging.specs.declared.merging.Judgement.TheVariants.{Merged, OtherPlan, Incomplete, InputTwice, OutOfMemory}
use Rattle.receipt_merging.specs.declared.merging.MergedParts.{MergedParts}
use Rattle.receipt_merging.specs.declared.parts.Allowed.{Allowed}

-- the first of these for which a test says no, by its place, counted from 0
pub record IsFirstNot (passes : PartValue → Bool) (parts : List PartValue) (place : ℕ) : Type 0 where
  pub within : place < length parts
  pub fails : (d : PartValue) → passes (get_or parts place d) ≡ false
  pub before : All (λ p. passes p ≡ true) (take place parts)

-- all were made under the plan
abbrev pub HavePlan : List PartValue → Type 0
HavePlan parts = All (λ (p : PartValue). p.has_plan ≡ true) parts

-- all are complete
abbrev pub AreComplete : List PartValue → Type 0
AreComplete parts = All (λ (p : PartValue). p.receipt.complete ≡ true) parts

-- all were made under the plan, and they are complete, unless they needn't be
abbrev pub MayBeMerged : Allowed → List PartValue → Type 0
MayBeMerged allowed parts = HavePlan parts × ((allowed.incomplete ≡ true) ⊎ AreComplete parts)

-- what their receipts say together
pub record AreTogether (parts : List PartValue) (merged : MergedParts) : Type 0 where
  pub inputs : map input_value merged.inputs.items ≡ inputs_in parts
  pub records : merged.records ≡ counts_from no_counts parts
  pub left_out : map string_bytes merged.left_out.items ≡ left_out_in parts

-- and whether all of them are complete
abbrev pub AreGathered : List PartValue → MergedParts → Type 0
AreGathered parts merged = AreTogether parts merged × (merged.complete ≡ all_complete parts)

-- and whether they are complete together
pub record AreMerged (parts : List PartValue) (merged : MergedParts) : Type 0 where
  pub together : AreTogether parts merged
  pub complete : merged.complete ≡ is_complete parts

-- no input comes twice; or these two are the same, which is allowed
abbrev pub MayComeTwice : Allowed → List PartValue → Option (ℕ × ℕ) → Type 0
MayComeTwice allowed parts twice = AreFound (inputs_in parts) twice × (IsNone twice ⊎ (allowed.twice ≡ true))

-- a part of another plan comes first, then one that isn't complete and has to be, then an input that comes twice and may not, in one
-- part or two
abbrev pub IsJudgementOf : Allowed → List PartValue → Judgement → Type 0
IsJudgementOf allowed parts (OtherPlan place) = IsFirstNot (λ p. p.has_plan) parts place
IsJudgementOf allowed parts (Incomplete place) = HavePlan parts × (allowed.incomplete ≡ false) × IsFirstNot (λ p. p.receipt.complete) parts place
IsJudgementOf allowed parts (InputTwice merged first second) =
    MayBeMerged allowed parts × AreMerged parts merged × (allowed.twice ≡ false) × AreSame (inputs_in parts) first second
IsJudgementOf allowed parts (Merged merged twice) = MayBeMerged allowed parts × AreMerged parts merged × MayComeTwice allowed parts twice
IsJudgementOf allowed parts OutOfMemory = MayBeMerged allowed parts
