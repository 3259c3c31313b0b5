-- Whether parts are complete of which two inputs are the same, or none.
use Rattle.std.proofs.Common.{Equal, ◌≡◌, ◌∙◌, ℕ, zero, suc, ◌<◌, List, [], ◌∷◌, map, length, get_or, Some, None, inl, inr, refl, sym, ap, subst, arith, lt-ltb}
use Rattle.std.specs.Prelude.{All, Bool, true, false, not, nat_lt, ◌&&◌}
use Rattle.std.specs.Cmp.Lexicographic.{slice_cmp}
use Rattle.std.specs.List.{list_all}
use Rattle.std.specs.Ordering.{is_eq, nat_cmp}
use Rattle.std.proofs.lemmas.Bool.{ltb-true}
use Rattle.std.proofs.lemmas.Cmp.{nat_list_cmp_total, tied_itself}
use Rattle.std.proofs.lemmas.List.Elements.{All-head, All-tail}
use Rattle.std.proofs.lemmas.Map.Lookups.{exact_bytes}
use Rattle.std.proofs.lemmas.Map.Views.{tells_apart}
use Rattle.table_receipts.specs.Values.{InputValue, input_value}
use Rattle.receipt_merging.specs.Judging.{AreTogether, IsJudgementOf, MayBeMerged}
use Rattle.receipt_merging.specs.Once.{AreFound, AreSame, EachOnce, IsSameInput, each_once, is_same_input}
use Rattle.receipt_merging.specs.Parts.{PartValue, all_complete, inputs_in, is_complete}
use Rattle.receipt_merging.specs.declared.merging.Judgement.TheVariants.{Merged, InputTwice}
use Rattle.receipt_merging.specs.declared.merging.MergedParts.{MergedParts}
use Rattle.receipt_merging.specs.declared.parts.Allowed.{Allowed}

both : (a b : Bool) → (a && b) ≡ true → (a ≡ true) × (b ≡ true)
both true true is = (refl, refl)
both true false is = absurd cc
both false b is = absurd cc

same_is : (i j : InputValue) → IsSameInput i j → is_same_input i j ≡ true
same_is i j same =
    let tied : slice_cmp nat_cmp i.file.digest j.file.digest ≡ Equal =
    subst (λ (d : List ℕ). slice_cmp nat_cmp i.file.digest d ≡ Equal) same.digests (tied_itself nat_list_cmp_total i.file.digest) in
    rw (lt-ltb 0 i.records same.has_records, lt-ltb 0 j.records same.has_too, tied) refl

is_same : (i j : InputValue) → is_same_input i j ≡ true → IsSameInput i j
is_same i j is =
    let first = both (nat_lt 0 i.records) (nat_lt 0 j.records && is_eq (slice_cmp nat_cmp i.file.digest j.file.digest)) is in
    let then = both (nat_lt 0 j.records) (is_eq (slice_cmp nat_cmp i.file.digest j.file.digest)) first.1 in
    record {
      has_records = ltb-true 0 i.records first.0;
      has_too = ltb-true 0 j.records then.0;
      digests = tells_apart exact_bytes i.file.digest j.file.digest then.1;
    }

not_same : (i j : InputValue) (b : Bool) → b ≡ is_same_input i j → (IsSameInput i j → ⊥) → not b ≡ true
not_same i j true is other = absurd (other (is_same i j (sym is)))
not_same i j false is other = refl

none_same : (i : InputValue) (is : List InputValue) → All (λ j. IsSameInput i j → ⊥) is → list_all (λ j. not (is_same_input i j)) is ≡ true
none_same i [] others = refl
none_same i (j ∷ is) others =
    let P : InputValue → Type 0 = λ j. IsSameInput i j → ⊥ in
    rw (not_same i j (is_same_input i j) refl (All-head P j is others), none_same i is (All-tail P j is others)) refl

once_is : (is : List InputValue) → EachOnce is → each_once is ≡ true
once_is [] once = refl
once_is (i ∷ is) once = rw (none_same i is once.0, once_is is once.1) refl

and_false : (b : Bool) → (b && false) ≡ false
and_false true = refl
and_false false = refl

one_same : (i : InputValue) (is : List InputValue) (place : ℕ) → place < length is → ((d : InputValue) → IsSameInput i (get_or is place d)) → list_all (λ j. not (is_same_input i j)) is ≡ false
one_same i [] place within same = absurd (omega (arith, within))
one_same i (j ∷ is) zero within same = rw (same_is i j (same j)) refl
one_same i (j ∷ is) (suc place) within same =
    let later : list_all (λ k. not (is_same_input i k)) is ≡ false = one_same i is place (omega (arith, within)) same in
    rw (later) (and_false (not (is_same_input i j)))

same_is_twice : (is : List InputValue) (first second : ℕ) → AreSame is first second → each_once is ≡ false
same_is_twice [] first second same = absurd (omega (arith, same.within))
same_is_twice (i ∷ is) zero zero same = absurd (omega (arith, same.order))
same_is_twice (i ∷ is) zero (suc second) same =
    let later : list_all (λ k. not (is_same_input i k)) is ≡ false = one_same i is second (omega (arith, same.within)) same.same in
    rw (later) refl
same_is_twice (i ∷ is) (suc first) zero same = absurd (omega (arith, same.order))
same_is_twice (i ∷ is) (suc first) (suc second) same =
    let later : each_once is ≡ false = same_is_twice is first second (record { order = omega (arith, same.order); within = omega (arith, same.within); same = same.same }) in
    rw (later) (and_false (list_all (λ k. not (is_same_input i k)) is))

and_true : (b : Bool) → (b && true) ≡ b
and_true true = refl
and_true false = refl

-- ---- a judgement

module _ (allowed : Allowed) (parts : List PartValue) (merged : MergedParts) (may : MayBeMerged allowed parts) (together : AreTogether parts merged) where
  twice : (first second : ℕ) → AreSame (map input_value merged.inputs.items) first second → false ≡ is_complete parts
  twice first second same =
      let later : each_once (inputs_in parts) ≡ false = same_is_twice (inputs_in parts) first second (subst (λ is. AreSame is first second) together.inputs same) in
      sym (ap (λ b. all_complete parts && b) later ∙ and_false (all_complete parts))

  pub judged_once : merged.complete ≡ all_complete parts → AreFound (map input_value merged.inputs.items) None → IsJudgementOf allowed parts (Merged merged None)
  judged_once complete found =
      let once : EachOnce (inputs_in parts) = subst (λ is. EachOnce is) together.inputs found in (
        may,
        record { together = together; complete = complete ∙ sym (ap (λ b. all_complete parts && b) (once_is (inputs_in parts) once) ∙ and_true (all_complete parts)) },
        (once, inl refl),
      )

  pub judged_twice : (first second : ℕ) → AreFound (map input_value merged.inputs.items) (Some (first, second)) → allowed.twice ≡ true → IsJudgementOf allowed parts (Merged (record merged { complete = false }) (Some (first, second)))
  judged_twice first second found lets = (
    may,
    record { together = record { inputs = together.inputs; records = together.records; left_out = together.left_out }; complete = twice first second found },
    (subst (λ is. AreSame is first second) together.inputs found, inr lets),
  )

  pub refused_twice : (first second : ℕ) → AreFound (map input_value merged.inputs.items) (Some (first, second)) → allowed.twice ≡ false → IsJudgementOf allowed parts (InputTwice (record merged { complete = false }) first second)
  refused_twice first second found lets = (
    may,
    record { together = record { inputs = together.inputs; records = together.records; left_out = together.left_out }; complete = twice first second found },
    lets,
    subst (λ is. AreSame is first second) together.inputs found,
  )
