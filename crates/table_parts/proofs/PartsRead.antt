-- Receipts that are read one after another.
use Rattle.std.proofs.Common.{◌≡◌, ◌∙◌, ℕ, ◌+◌, ◌<◌, ◌≤◌, List, [], ◌∷◌, ◌++◌, append_assoc, length, map, take, drop, get_or, sym, ap, subst, arith, Option, take-append-drop}
use Rattle.std.proofs.lemmas.List.{length-take-le, map-append, take_all, take_more}
use Rattle.std.proofs.lemmas.Slice.Zip.{all_zipped_more}
use Rattle.report_writing.specs.declared.reason.Reason.{Reason}
use Rattle.receipt_merging.specs.Parts.{PartValue}
use Rattle.table_parts.specs.Parts.{AreParts, IsFirstUnread, IsPart, LacksReceipt}
use Rattle.table_parts.specs.declared.files.PartFiles.{PartFiles}
use Rattle.table_parts.specs.declared.plan.PlanAtHand.{PlanAtHand}

module _ (Has : List ℕ → List ℕ → Type 0) (plan : PlanAtHand) (all : List PartFiles) (i : ℕ) (d files : PartFiles) (within : i < length all) (is : get_or all i d ≡ files) where
  next : take (i + 1) all ≡ take i all ++ files ∷ []
  next = take_more all i d within ∙ ap (λ (f : PartFiles). take i all ++ f ∷ []) is

  -- one more was read
  pub parts_more : {A : Type 0} (value : A → PartValue) (parts : List A) (part : A) → AreParts Has plan (take i all) (map value parts) → IsPart Has plan files (value part) → AreParts Has plan (take (i + 1) all) (map value (parts ++ part ∷ []))
  parts_more value parts part so_far one =
      subst (λ (l : List PartFiles). AreParts Has plan l (map value (parts ++ part ∷ []))) (sym next)
      (subst (λ (l : List PartValue). AreParts Has plan (take i all ++ files ∷ []) l) (sym (map-append value parts (part ∷ [])))
      (all_zipped_more (IsPart Has plan) (take i all) (map value parts) files (value part) so_far one))

  -- one wasn't
  pub first_unread : (Refuses : List ℕ → Reason → Type 0) (parts : List PartValue) (why : Option Reason) → AreParts Has plan (take i all) parts → LacksReceipt (Has files.receipt.now) (Refuses files.receipt.now) why → IsFirstUnread Has Refuses plan all (i + 1) files why
  first_unread Refuses parts why so_far lacks = record {
    before = take i all;
    later = drop (i + 1) all;
    are = sym (take-append-drop (i + 1) all) ∙ ap (λ (l : List PartFiles). l ++ drop (i + 1) all) next ∙ append_assoc (take i all) (files ∷ []) (drop (i + 1) all);
    numbered = ap (λ (n : ℕ). n + 1) (sym (length-take-le i all (omega (arith, within))));
    parts = parts;
    read = so_far;
    lacks = lacks;
  }

pub all_read : (Has : List ℕ → List ℕ → Type 0) (plan : PlanAtHand) (all : List PartFiles) (parts : List PartValue) (i : ℕ) → length all ≤ i → AreParts Has plan (take i all) parts → AreParts Has plan all parts
all_read Has plan all parts i none read = subst (λ (l : List PartFiles). AreParts Has plan l parts) (take_all i all none) read
