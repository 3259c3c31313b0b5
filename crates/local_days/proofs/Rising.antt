-- Borders to which one more is appended.
use Rattle.std.proofs.Common.{◌≡◌, ℕ, ◌+◌, ◌-◌, ◌<◌, ◌≤◌, ◌^◌, List, [], ◌∷◌, ◌++◌, length, length-append, get_or, refl, sym, subst, ap, ◌∙◌, arith, inl, inr}
use Rattle.std.specs.Prelude.{◌⊎◌, IfNone, IfSome, Option, Some, None}
use Rattle.std.proofs.lemmas.Bool.{cases_lt}
use Rattle.std.proofs.lemmas.List.{get_or_append_left}
use Rattle.std.proofs.Math.Seq.{get_or-append_seam}
use Rattle.jiff_tz.specs.declared.timezone.TimeZone.{TimeZone}
use Rattle.local_days.specs.LocalDays.{AreRising, AreBorders, IsAmong, IsOvertaken, IsStart}
use Rattle.local_days.specs.Pushed.{Appends, PushesLater, PushesStart, StartsNever}
use Rattle.local_days.specs.declared.borders.TheConstants.{LAST_DAY}
use Rattle.local_days.proofs.Starts.{starts_once}
use Rattle.local_days.specs.declared.local_interval.LocalInterval.{LocalInterval}

-- the borders of the first days
pub record AreSome (interval : LocalInterval) (zone : TimeZone) (days : ℕ) (borders : List ℕ) : Type 0 where
  pub some : 0 < length borders
  pub few : length borders ≤ days + 1
  pub first : get_or borders 0 0 ≡ 0
  pub rising : AreRising borders
  pub starts : (k : ℕ) → 0 < k → k < length borders → (day : ℕ) × (day < days) × IsStart interval zone day (get_or borders k 0)
  pub each : (day time : ℕ) → day < days → IsStart interval zone day time → IsAmong borders time ⊎ IsOvertaken interval zone day time

module _ (xs : List ℕ) (x : ℕ) where
  size : length (xs ++ x ∷ []) ≡ length xs + 1
  size = length-append xs (x ∷ [])

  old_at : (k : ℕ) → k < length xs → get_or (xs ++ x ∷ []) k 0 ≡ get_or xs k 0
  old_at k inside = get_or_append_left xs (x ∷ []) 0 k inside

  new_at : (k : ℕ) → k ≡ length xs → get_or (xs ++ x ∷ []) k 0 ≡ x
  new_at k is = ap (λ (n : ℕ). get_or (xs ++ x ∷ []) n 0) is ∙ get_or-append_seam xs x [] 0

  upto_last : AreRising xs → (i : ℕ) → i < length xs → get_or xs i 0 ≤ get_or xs (length xs - 1) 0
  upto_last rising i inside =
      elim (cases_lt i (length xs - 1)) [
        | inl less ↦ omega (arith, rising i (length xs - 1) less (omega (arith, inside)))
        | inr upto ↦
            let same : i ≡ length xs - 1 = omega (arith, inside, upto) in
            subst (λ (n : ℕ). get_or xs i 0 ≤ get_or xs n 0) same (omega arith)
      ]

  rising_more : AreRising xs → (0 < length xs → get_or xs (length xs - 1) 0 < x) → AreRising (xs ++ x ∷ [])
  rising_more rising later i j less inside =
      elim (cases_lt j (length xs)) [
        | inl before ↦ omega (arith, old_at i (omega (arith, less, before)), old_at j before, rising i j less before)
        | inr last ↦
            let at_end : j ≡ length xs = omega (arith, last, inside, size) in
            let i_inside : i < length xs = omega (arith, less, at_end) in
            omega (arith, old_at i i_inside, new_at j at_end, upto_last rising i i_inside, later (omega (arith, i_inside)))
      ]

  starts_more : (P : ℕ → Type 0) → ((k : ℕ) → 0 < k → k < length xs → P (get_or xs k 0)) → P x → (k : ℕ) → 0 < k → k < length (xs ++ x ∷ []) → P (get_or (xs ++ x ∷ []) k 0)
  starts_more P starts here k some inside =
      elim (cases_lt k (length xs)) [
        | inl before ↦ subst P (sym (old_at k before)) (starts k some before)
        | inr last ↦ subst P (sym (new_at k (omega (arith, last, inside, size)))) here
      ]

  among_more : (time : ℕ) → IsAmong xs time → IsAmong (xs ++ x ∷ []) time
  among_more time is = (is.0, omega (arith, size, is.1), old_at is.0 is.1 ∙ is.2)

  among_new : IsAmong (xs ++ x ∷ []) x
  among_new = (length xs, omega (arith, size), new_at (length xs) refl)

-- a day that is one of the first ones, or the next
before_or_last : (day days : ℕ) → day < days + 1 → (day < days) ⊎ (day ≡ days)
before_or_last day days less = elim (cases_lt day days) [ inl before ↦ inl before | inr upto ↦ inr (omega (arith, less, upto)) ]

module _ (interval : LocalInterval) (zone : TimeZone) (days : ℕ) (old : List ℕ) (are : AreSome interval zone days old) where
  abbrev Found : List ℕ → ℕ → ℕ → Type 0
  Found borders day time = IsAmong borders time ⊎ IsOvertaken interval zone day time

  -- borders of one day more, which has none, or whose border is not later
  with_each : ((time : ℕ) → IsStart interval zone days time → Found old days time) → AreSome interval zone (days + 1) old
  with_each next =
      record {
        some = are.some;
        few = omega (arith, are.few);
        first = are.first;
        rising = are.rising;
        starts = λ k some inside. let is = are.starts k some inside in (is.0, omega (arith, is.1), is.2);
        each = λ day time less start.
            elim (before_or_last day days less) [
              | inl before ↦ are.each day time before start
              | inr same ↦
                  let found = next time (subst (λ (d : ℕ). IsStart interval zone d time) same start) in
                  subst (λ (d : ℕ). Found old d time) (sym same) found
            ];
      }

  -- the last border is the begin of an earlier day, if a time is before it
  last_start : (time : ℕ) → time < get_or old (length old - 1) 0 → IsOvertaken interval zone days time
  last_start time less =
      elim (cases_lt 0 (length old - 1)) [
        | inl later ↦
            let is = are.starts (length old - 1) later (omega (arith, are.some)) in
            record { earlier = is.0; before = is.1; begin = get_or old (length old - 1) 0; start = is.2; later = less }
        | inr first ↦
            let at_first : length old - 1 ≡ 0 = omega (arith, first) in
            let none : get_or old (length old - 1) 0 ≡ 0 = ap (λ (k : ℕ). get_or old k 0) at_first ∙ are.first in
            absurd (omega (arith, less, none))
      ]

  passed : (time : ℕ) → time ≤ get_or old (length old - 1) 0 → Found old days time
  passed time upto =
      elim (cases_lt time (get_or old (length old - 1) 0)) [
        | inl less ↦ inr (last_start time less)
        | inr over ↦ inl (length old - 1, omega (arith, are.some), omega (arith, upto, over))
      ]

  appended : (time : ℕ) (new : List ℕ) → IsStart interval zone days time → Appends old time new → AreSome interval zone (days + 1) new
  appended time new start more =
      subst (AreSome interval zone (days + 1)) (sym more.are) (record {
        some = omega (arith, size old time);
        few = omega (arith, size old time, are.few);
        first = old_at old time 0 are.some ∙ are.first;
        rising = rising_more old time are.rising more.later;
        starts = starts_more old time (λ (t : ℕ). (day : ℕ) × (day < days + 1) × IsStart interval zone day t)
            (λ k some inside. let is = are.starts k some inside in (is.0, omega (arith, is.1), is.2)) (days, omega arith, start);
        each = λ day t less other.
            elim (before_or_last day days less) [
              | inl before ↦ elim (are.each day t before other) [ inl among ↦ inl (among_more old time t among) | inr over ↦ inr over ]
              | inr same ↦
                  let is : time ≡ t = starts_once interval zone days time t start (subst (λ (d : ℕ). IsStart interval zone d t) same other) in
                  inl (subst (IsAmong (old ++ time ∷ [])) is (among_new old time))
            ];
      })

  -- one day more
  one_more : (time : ℕ) (new : List ℕ) → IsStart interval zone days time → PushesLater old time new → AreSome interval zone (days + 1) new
  one_more time new start pushes =
      elim pushes [
        | inl passes ↦
            let found = λ (t : ℕ) (other : IsStart interval zone days t). subst (Found old days) (starts_once interval zone days time t start other) (passed time passes.upto) in
            subst (AreSome interval zone (days + 1)) (sym passes.same) (with_each found)
        | inr more ↦ appended time new start more
      ]

  pub next_day : (start : Option ℕ) (new : List ℕ) → IfSome start (IsStart interval zone days) → IfNone start (StartsNever interval zone days) → PushesStart old start new → AreSome interval zone (days + 1) new
  next_day None new is never same = subst (AreSome interval zone (days + 1)) (sym same) (with_each (λ time start. absurd (never time start)))
  next_day (Some time) new is never pushes = one_more time new is pushes

pub only_first : (interval : LocalInterval) (zone : TimeZone) (borders : List ℕ) → borders ≡ 0 ∷ [] → AreSome interval zone 0 borders
only_first interval zone borders is =
    subst (AreSome interval zone 0) (sym is) (record {
      some = omega arith;
      few = omega arith;
      first = refl;
      rising = λ i j less inside. absurd (omega (arith, less, inside));
      starts = λ k some inside. absurd (omega (arith, some, inside));
      each = λ day time less start. absurd (omega (arith, less));
    })

pub are_all : (interval : LocalInterval) (zone : TimeZone) (days : ℕ) (borders : List ℕ) → AreSome interval zone days borders → days ≡ LAST_DAY + 1 → AreBorders interval zone borders
are_all interval zone days borders are all =
    record {
      some = are.some;
      few = omega (arith, are.few, all);
      first = are.first;
      rising = are.rising;
      starts = λ k some inside. let is = are.starts k some inside in (is.0, omega (arith, is.1, all), is.2);
      each = λ day time upto start. are.each day time (omega (arith, upto, all)) start;
    }
