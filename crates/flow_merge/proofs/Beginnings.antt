-- Fields that are read one after another.
use Rattle.std.proofs.Common.{◌≡◌, ℕ, ◌+◌, ◌<◌, List, [], ◌∷◌, ◌++◌, length, map, get_or, take, drop, drop-cons, refl, sym, ap, subst, ◌∙◌, add-one}
use Rattle.std.specs.Prelude.{zip}
use Rattle.std.specs.List.{AllZip}
use Rattle.std.proofs.Math.Seq.{take-suc}
use Rattle.ipfix_message.specs.Fields.{Field}
use Rattle.flow_export.proofs.RowFields.{AllZip-append}
use Rattle.flow_merge.specs.InnerReading.{Begin, BeginEach}

module _ {A B : Type 0} (telling : A × B → Field) (Fits : A → B → Type 0) where
  abbrev One : A → List Field → B → List Field → Type 0
  One a fields b rest = Begin telling Fits a fields b rest

  abbrev Each : List A → List Field → List B → List Field → Type 0
  Each as' fields bs rest = BeginEach telling Fits as' fields bs rest

  -- ---- one more

  pushed : (as' : List A) (bs : List B) (a : A) (b : B) (rest : List Field) → AllZip Fits as' bs → map telling (zip as' bs) ++ telling (a, b) ∷ rest ≡ map telling (zip (as' ++ a ∷ []) (bs ++ b ∷ [])) ++ rest
  pushed [] [] a b rest fit = refl
  pushed [] (y ∷ bs) a b rest fit = absurd fit
  pushed (x ∷ as') [] a b rest fit = absurd fit
  pushed (x ∷ as') (y ∷ bs) a b rest fit = ap (λ (fs : List Field). telling (x, y) ∷ fs) (pushed as' bs a b rest fit.1)

  more : (as' : List A) (bs : List B) (a : A) (b : B) (all fields rest : List Field) → Each as' all bs fields → One a fields b rest → Each (as' ++ a ∷ []) all (bs ++ b ∷ []) rest
  more as' bs a b all fields rest so_far here = record {
    are = so_far.are ∙ ap (λ (fs : List Field). map telling (zip as' bs) ++ fs) here.is ∙ pushed as' bs a b rest so_far.fit;
    fit = AllZip-append Fits as' bs (a ∷ []) (b ∷ []) so_far.fit (here.fits, tt);
  }

  -- the first i + 1 of a list
  pub one_more : (as' : List A) (i : ℕ) (d : A) (bs news : List B) (b : B) (all fields rest : List Field) → i < length as' → Each (take i as') all bs fields → One (get_or as' i d) fields b rest → news ≡ bs ++ b ∷ []
      → Each (take (i + 1) as') all news rest
  one_more as' i d bs news b all fields rest inside so_far here added = rw (add-one i, take-suc as' i d inside, added) (more (take i as') bs (get_or as' i d) b all fields rest so_far here)

  -- ---- what is left

  first : (a : A) (as' : List A) (fields : List Field) (bs : List B) (rest : List Field) → Each (a ∷ as') fields bs rest → (b : B) × (after : List Field) × One a fields b after
  first a as' fields [] rest each = absurd each.fit
  first a as' fields (b ∷ bs) rest each = (b, map telling (zip as' bs) ++ rest, record { is = each.are; fits = each.fit.0 })

  others : (a : A) (as' : List A) (fields : List Field) (b : B) (after : List Field) (bs : List B) (rest : List Field) → Each (a ∷ as') fields bs rest → One a fields b after → (cs : List B) × Each as' after cs rest
  others a as' fields b after [] rest each one = absurd each.fit
  others a as' fields b after (c ∷ cs) rest each one = (cs, record { are = ap (drop 1) (sym one.is ∙ each.are); fit = each.fit.1 })

  -- whatever all of them tell, those that are left tell it of what is left of the list
  abbrev pub Left : List A → List Field → List A → List Field → Type 0
  Left as' all left fields = (bs : List B) (rest : List Field) → Each as' all bs rest → (cs : List B) × Each left fields cs rest

  pub one_less : (as' : List A) (i : ℕ) (d : A) (b : B) (all fields after : List Field) → i < length as' → Left as' all (drop i as') fields → One (get_or as' i d) fields b after → Left as' all (drop (i + 1) as') after
  one_less as' i d b all fields after inside left here bs rest each =
      let at : drop i as' ≡ get_or as' i d ∷ drop (i + 1) as' = rw (add-one i) (drop-cons as' i d inside) in
      let now = left bs rest each in
      others (get_or as' i d) (drop (i + 1) as') fields b after now.0 rest (subst (λ (xs : List A). Each xs fields now.0 rest) at now.1) here

  pub none_left : (as' : List A) (i : ℕ) (d : A) (all fields : List Field) → i < length as' → Left as' all (drop i as') fields → ((b : B) (rest : List Field) → One (get_or as' i d) fields b rest → ⊥)
      → ((bs : List B) × (rest : List Field) × Each as' all bs rest) → ⊥
  none_left as' i d all fields inside left none each =
      let at : drop i as' ≡ get_or as' i d ∷ drop (i + 1) as' = rw (add-one i) (drop-cons as' i d inside) in
      let now = left each.0 each.1 each.2 in
      let one = first (get_or as' i d) (drop (i + 1) as') fields now.0 each.1 (subst (λ (xs : List A). Each xs fields now.0 each.1) at now.1) in
      none one.0 one.1 one.2

  -- ---- two readings

  -- what follows is the same
  pub same_rest : (as' : List A) (fields : List Field) (bs cs : List B) (r q : List Field) → Each as' fields bs r → Each as' fields cs q → r ≡ q
  same_rest [] fields [] [] r q one two = sym one.are ∙ two.are
  same_rest [] fields [] (c ∷ cs) r q one two = absurd two.fit
  same_rest [] fields (b ∷ bs) cs r q one two = absurd one.fit
  same_rest (a ∷ as') fields [] cs r q one two = absurd one.fit
  same_rest (a ∷ as') fields (b ∷ bs) [] r q one two = absurd two.fit
  same_rest (a ∷ as') fields (b ∷ bs) (c ∷ cs) r q one two =
      same_rest as' (map telling (zip as' bs) ++ r) bs cs r q (record { are = refl; fit = one.fit.1 }) (record { are = ap (drop 1) (sym one.are ∙ two.are); fit = two.fit.1 })

  -- what is told is the same, where a field tells one thing
  pub same_told : ((a : A) (b c : B) → telling (a, b) ≡ telling (a, c) → Fits a b → Fits a c → b ≡ c) → (as' : List A) (fields : List Field) (bs cs : List B) (r q : List Field)
      → Each as' fields bs r → Each as' fields cs q → bs ≡ cs
  same_told one_value [] fields [] [] r q one two = refl
  same_told one_value [] fields [] (c ∷ cs) r q one two = absurd two.fit
  same_told one_value [] fields (b ∷ bs) cs r q one two = absurd one.fit
  same_told one_value (a ∷ as') fields [] cs r q one two = absurd one.fit
  same_told one_value (a ∷ as') fields (b ∷ bs) [] r q one two = absurd two.fit
  same_told one_value (a ∷ as') fields (b ∷ bs) (c ∷ cs) r q one two =
      let heads : telling (a, b) ≡ telling (a, c) = ap (λ (fs : List Field). get_or fs 0 (telling (a, b))) (sym one.are ∙ two.are) in
      let head = one_value a b c heads one.fit.0 two.fit.0 in
      let tail = same_told one_value as' (map telling (zip as' bs) ++ r) bs cs r q (record { are = refl; fit = one.fit.1 }) (record { are = ap (drop 1) (sym one.are ∙ two.are); fit = two.fit.1 }) in
      rw (head, tail) refl
