-- Sessions that have the same numbers, but at some places where each number has room in 64 bits, are left out alike.
use Rattle.std.proofs.Common.{◌≡◌, ◌⊎◌, ℕ, zero, suc, ◌+◌, ◌^◌, ◌<◌, ◌≤◌, List, [], ◌∷◌, length, refl, sym, ap, ap₂, subst, inl, inr, arith}
use Rattle.std.specs.List.{AllZip}
use Rattle.largest_sessions.specs.LeftOut.{Place, Numbers, together, own, FitAt, IsFirstTooLarge, IsLargest, GoesNext, without, AreLeftOut}

below : (a b limit : ℕ) → a ≤ b → b < limit → a < limit
below a b limit h k = omega arith

large_below : (a limit : ℕ) → limit ≤ a → a < limit → ⊥
large_below a limit h k = omega arith

-- ---- with nothing of one session

pub together-without : (i : ℕ) (fs : List Numbers) (q : Place) (n : ℕ) → together (without i fs) q n ≤ together fs q n
together-without i [] q n = omega arith
together-without zero (f ∷ fs) q n = omega arith
together-without (suc i) (f ∷ fs) q n = omega (arith, together-without i fs q n)

pub without-fits : (count i : ℕ) (fs : List Numbers) (q : Place) → FitAt count fs q → FitAt count (without i fs) q
without-fits count i fs q fit n counted = below (together (without i fs) q n) (together fs q n) (2 ^ 64) (together-without i fs q n) (fit n counted)

-- ---- the same numbers but at some places

module _ (count : ℕ) (X : Place → Type 0) where
  abbrev pub AreSame : Numbers → Numbers → Type 0
  AreSame f g = (q : Place) → (X q → ⊥) → (n : ℕ) → n < count → f q n ≡ g q n

  abbrev pub Agree : List Numbers → List Numbers → Type 0
  Agree = AllZip AreSame

  together-agree : (fs gs : List Numbers) → Agree fs gs → (q : Place) → (X q → ⊥) → (n : ℕ) → n < count → together fs q n ≡ together gs q n
  together-agree [] [] agree q other n counted = refl
  together-agree [] (g ∷ gs) agree q other n counted = absurd agree
  together-agree (f ∷ fs) [] agree q other n counted = absurd agree
  together-agree (f ∷ fs) (g ∷ gs) agree q other n counted = ap₂ (λ (a b : ℕ). a + b) (agree.0 q other n counted) (together-agree fs gs agree.1 q other n counted)

  own-agree : (fs gs : List Numbers) → Agree fs gs → (q : Place) → (X q → ⊥) → (n : ℕ) → n < count → (j : ℕ) → own fs j q n ≡ own gs j q n
  own-agree [] [] agree q other n counted j = refl
  own-agree [] (g ∷ gs) agree q other n counted j = absurd agree
  own-agree (f ∷ fs) [] agree q other n counted j = absurd agree
  own-agree (f ∷ fs) (g ∷ gs) agree q other n counted zero = agree.0 q other n counted
  own-agree (f ∷ fs) (g ∷ gs) agree q other n counted (suc j) = own-agree fs gs agree.1 q other n counted j

  length-agree : (fs gs : List Numbers) → Agree fs gs → length fs ≡ length gs
  length-agree [] [] agree = refl
  length-agree [] (g ∷ gs) agree = absurd agree
  length-agree (f ∷ fs) [] agree = absurd agree
  length-agree (f ∷ fs) (g ∷ gs) agree = ap suc (length-agree fs gs agree.1)

  without-agree : (i : ℕ) (fs gs : List Numbers) → Agree fs gs → Agree (without i fs) (without i gs)
  without-agree i [] [] agree = tt
  without-agree i [] (g ∷ gs) agree = absurd agree
  without-agree i (f ∷ fs) [] agree = absurd agree
  without-agree zero (f ∷ fs) (g ∷ gs) agree = (λ q other n counted. refl, agree.1)
  without-agree (suc i) (f ∷ fs) (g ∷ gs) agree = (agree.0, without-agree i fs gs agree.1)

  module _ (decide : (q : Place) → X q ⊎ (X q → ⊥)) where
    fits-agree : (fs gs : List Numbers) → Agree fs gs → ((q : Place) → X q → FitAt count fs q) → (q : Place) → FitAt count gs q → FitAt count fs q
    fits-agree fs gs agree fit q g_fit n counted = elim (decide q) [
      | inl there ↦ fit q there n counted
      | inr other ↦ subst (λ (a : ℕ). a < 2 ^ 64) (sym (together-agree fs gs agree q other n counted)) (g_fit n counted)
    ]

    goes-agree : (fs gs : List Numbers) → Agree fs gs → ((q : Place) → X q → FitAt count fs q) → ((q : Place) → X q → FitAt count gs q) → (i : ℕ) → GoesNext count gs i → GoesNext count fs i
    goes-agree fs gs agree fit g_fit i next =
        record { place = p; number = m; too_large = too_large; largest = largest }
      where
        p : Place
        p = next.place

        m : ℕ
        m = next.number

        counted : m < count
        counted = next.too_large.counted

        other : X p → ⊥
        other there = large_below (together gs p m) (2 ^ 64) next.too_large.large (g_fit p there m counted)

        same : (j : ℕ) → own fs j p m ≡ own gs j p m
        same j = own-agree fs gs agree p other m counted j

        too_large : IsFirstTooLarge count fs p m
        too_large = record {
          counted = counted;
          large = subst (λ (a : ℕ). 2 ^ 64 ≤ a) (sym (together-agree fs gs agree p other m counted)) next.too_large.large;
          row = λ q less. fits-agree fs gs agree fit q (next.too_large.row q less);
          number = λ n less. subst (λ (a : ℕ). a < 2 ^ 64) (sym (together-agree fs gs agree p other n (omega arith))) (next.too_large.number n less);
        }

        largest : IsLargest fs p m i
        largest = record {
          inside = omega (arith, length-agree fs gs agree, next.largest.inside);
          most = λ j inside. omega (arith, same j, same i, next.largest.most j (omega (arith, length-agree fs gs agree)));
          first = λ j less. omega (arith, same j, same i, next.largest.first j less);
        }

    pub left_out-agree : (fs gs : List Numbers) → Agree fs gs → ((q : Place) → X q → FitAt count fs q) → ((q : Place) → X q → FitAt count gs q) → (out : List ℕ) → AreLeftOut count gs out → AreLeftOut count fs out
    left_out-agree fs gs agree fit g_fit [] none = λ q. fits-agree fs gs agree fit q (none q)
    left_out-agree fs gs agree fit g_fit (i ∷ out) left = (
      goes-agree fs gs agree fit g_fit i left.0,
      left_out-agree (without i fs) (without i gs) (without-agree i fs gs agree) (λ q there. without-fits count i fs q (fit q there)) (λ q there. without-fits count i gs q (g_fit q there)) out left.1,
    )
