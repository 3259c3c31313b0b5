-- Names of unfinished files, and which periods they hold up.
use Rattle.std.proofs.Common.{◌≡◌, ℕ, ◌<◌, ◌≤◌, List, [], ◌∷◌, ◌++◌, get_or, drop, suc, decimal, Bool, true, false, leb, refl, sym, ap, subst, ◌∙◌, arith}
use Rattle.std.proofs.lemmas.Bool.{leb-true, le-leb}
use Rattle.std.proofs.lemmas.Fmt.{decimal_injective}
use Rattle.recording_names.specs.PeriodNames.{calendar_end}
use Rattle.recording_names.specs.SessionNames.{HasNoHyphen}
use Rattle.recording_names.specs.UnfinishedNames.{name_of_unfinished}
use Rattle.recording_names.proofs.Hyphens.{no_hyphen}
use Rattle.recording_periods.specs.FinishedPeriods.{HoldsUp}
use Rattle.recording_periods.specs.Whether.{Whether}

-- what stands before the first hyphen is one text
one_front : (front other back rest : List ℕ) → HasNoHyphen front → HasNoHyphen other → front ++ 45 ∷ back ≡ other ++ 45 ∷ rest → front ≡ other
one_front [] [] back rest none no_more is = refl
one_front [] (b ∷ other) back rest none no_more is = absurd (no_more 0 (omega arith) (sym (ap (λ (t : List ℕ). get_or t 0 0) is)))
one_front (b ∷ front) [] back rest none no_more is = absurd (none 0 (omega arith) (ap (λ (t : List ℕ). get_or t 0 0) is))
one_front (b ∷ front) (d ∷ other) back rest none no_more is =
    let head : b ≡ d = ap (λ (t : List ℕ). get_or t 0 0) is in
    let more = one_front front other back rest (λ i within. none (suc i) (omega (arith, within))) (λ i within. no_more (suc i) (omega (arith, within))) (ap (drop 1) is) in
    subst (λ (x : ℕ). b ∷ front ≡ x ∷ other) head (ap (λ (t : List ℕ). b ∷ t) more)

-- a name tells one period
pub one_period : (begins other : ℕ) (session next : List ℕ) → begins < calendar_end → other < calendar_end → name_of_unfinished begins session ≡ name_of_unfinished other next → begins ≡ other
one_period begins other session next early soon is =
    decimal_injective begins other (omega (arith, early)) (omega (arith, soon))
    (one_front (decimal begins) (decimal other) session next (no_hyphen begins (omega (arith, early))) (no_hyphen other (omega (arith, soon))) is)

only_up_to : (begins told : ℕ) (session name : List ℕ) → told < calendar_end → name ≡ name_of_unfinished told session → HoldsUp begins name → told ≤ begins
only_up_to begins told session name early is h =
    let same = one_period told h.period session h.session early h.in_calendar (sym is ∙ h.named) in
    omega (arith, same, h.up_to)

held_by : (begins told : ℕ) (session name : List ℕ) (r : Bool) → told < calendar_end → name ≡ name_of_unfinished told session → (r ≡ true → told ≤ begins) → (told ≤ begins → r ≡ true)
    → Whether r (HoldsUp begins name)
held_by begins told session name true early is so only = record { period = told; session = session; in_calendar = early; up_to = so refl; named = is }
held_by begins told session name false early is so only = λ h. let wrong : false ≡ true = only (only_up_to begins told session name early is h) in absurd cc

-- by the beginning that a name tells
pub held_or_not : (begins told : ℕ) (session name : List ℕ) → told < calendar_end → name ≡ name_of_unfinished told session → Whether (leb told begins) (HoldsUp begins name)
held_or_not begins told session name early is = held_by begins told session name (leb told begins) early is (leb-true told begins) (le-leb told begins)
