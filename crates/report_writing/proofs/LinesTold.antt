-- Lines that were told one after another.
use Rattle.std.proofs.Common.{ℕ, List, [], ◌++◌, Option, Result, Ok, Err, inl, inr}
use Rattle.std.proofs.KnownBytes.{Appends-nil, Appends-trans}
use Rattle.std.specs.Prelude.{OnOk, OnErr}
use Rattle.std.specs.Io.KnownBytes.{Appends}
use Rattle.report_writing.specs.Told.{AreTold}

module _ (old mid new : Option (List ℕ)) (Before After : Type 0) where
  -- a write, after what was told before
  pub told_then : {T E : Type 0} (answer : Result T E) (xs ys : List ℕ) → AreTold old mid Before xs → OnOk answer (Appends mid new ys) → OnErr answer After → (Before → After) → AreTold old new After (xs ++ ys)
  told_then (Ok x) xs ys (inl first) ok err kept = inl (Appends-trans old mid new xs ys first ok)
  told_then (Err e) xs ys (inl first) ok err kept = inr err
  told_then answer xs ys (inr failed) ok err kept = inr (kept failed)

  pub both_told : (xs ys : List ℕ) → AreTold old mid Before xs → AreTold mid new After ys → (Before → After) → AreTold old new After (xs ++ ys)
  both_told xs ys (inl first) (inl then) kept = inl (Appends-trans old mid new xs ys first then)
  both_told xs ys (inl first) (inr failed) kept = inr failed
  both_told xs ys (inr failed) then kept = inr (kept failed)

-- nothing
pub none_told : (a : Option (List ℕ)) (HasFailed : Type 0) → AreTold a a HasFailed []
none_told a HasFailed = inl (Appends-nil a)

-- a write alone
pub is_told : {T E : Type 0} (old new : Option (List ℕ)) (HasFailed : Type 0) (answer : Result T E) (xs : List ℕ) → OnOk answer (Appends old new xs) → OnErr answer HasFailed → AreTold old new HasFailed xs
is_told old new HasFailed (Ok x) xs ok err = inl ok
is_told old new HasFailed (Err e) xs ok err = inr err
