-- What is known of a record that is used, and of the intervals that it contributes to.
use Rattle.std.proofs.Common.{◌≡◌, ℕ, ◌+◌, ◌-◌, ◌*◌, ◌/◌, ◌^◌, ◌<◌, ◌≤◌, inl, inr, zero, suc, Bool, true, false, nat_eq, ltb, cond, is_none, List, [], ◌∷◌, Option, Some, None, refl, sym, ap, ap₂, subst, ◌∙◌, arith, option_and_then}
use Rattle.std.specs.List.{list_any, range_with_len}
use Rattle.std.specs.Option.{option_or, ForSome}
use Rattle.std.proofs.lemmas.Bool.{cases_Bool, cond-true, cond-false, ltb-true, ltb-false, eqb-true, or_cases, and_parts}
use Rattle.std.proofs.lemmas.Nat.{le-div}
use Rattle.std.proofs.Math.Nat.{div-mul-le_self, mul-le-mul_right, mul-zero}
use Rattle.ipfix_elements.specs.declared.iana.TheConstants.{FLOW_END_SECONDS, FLOW_END_MILLISECONDS}
use Rattle.ipfix_elements.specs.declared.cell.Cell.{Cell}
use Rattle.ipfix_message.specs.declared.record.DataRecord.{DataRecord}
use Rattle.element_values.specs.Instants.{micros_in, nanos_in}
use Rattle.ipfix_message.specs.Fields.{octets_of}
use Rattle.flow_table.specs.declared.choices.Times.{Times}
use Rattle.flow_table.specs.declared.choices.Times.TheVariants as times
use Rattle.flow_table.specs.declared.times.TheConstants.{FLOW_END_MICROSECONDS, FLOW_END_NANOSECONDS, FLOW_END_DELTA_MICROSECONDS, UPTIME_ROUND}
use Rattle.flow_table.specs.declared.class.Class.{Class}
use Rattle.flow_table.specs.declared.class.Class.TheVariants.{Options, Backward, Unkeyed, TooLong, Used}
use Rattle.flow_table.specs.declared.method.Method.{Method}
use Rattle.flow_table.specs.declared.method.Method.TheVariants.{Start, End, Mid, Uniform, Proportional}
use Rattle.flow_table.specs.Intervals.{covered_by, covers_by}
use Rattle.flow_table.specs.Plans.{PlanValue}
use Rattle.ipfix_elements.specs.Elements.{iana, kind_of}
use Rattle.ipfix_elements.specs.Values.{number_in}
use Rattle.ipfix_elements.specs.declared.kind.Kind.TheVariants.{Millis}
use Rattle.ipfix_wire.specs.declared.specifier.ElementId.{ElementId}
use Rattle.flow_table.specs.Reading.{number_as, time_in, time_of, time_before, micros_time, nanos_time, delta_time, fine_time, unsigned32_of, duration_of, basic_end, told_start, told_end, start_by_duration, end_by_duration, init_time, uptime_at_start, uptime_at_end, first_time, uptime_end_of, latest_end, is_known, uptime_time, uptime_start, uptime_end, any_start, any_end, fine_start, fine_end, basic_start, other_start, other_end, start_of, start_without_uptime, end_of, end_without_uptime, key_of, is_too_long, flow_class, class_of, IsUsed}
use Rattle.flow_table.proofs.UsedRecords.{is_used}

-- ---- times

time_in-small : (t : ℕ) → ForSome (time_in t) (λ u. u < 2 ^ 50)
time_in-small t u e =
    elim (cases_Bool (ltb t (2 ^ 50))) as (λ _. u < 2 ^ 50) [
      | inl small ↦
          let same : Some t ≡ Some u = sym (cond-true (ltb t (2 ^ 50)) (Some t) None small) ∙ e in
          let is : t ≡ u = cc in
          omega (arith, ltb-true t (2 ^ 50) small, is)
      | inr large ↦
          let none : None ≡ Some u = sym (cond-false (ltb t (2 ^ 50)) (Some t) None large) ∙ e in
          cc
    ]

some_time : (o : Option ℕ) (unit : ℕ) → ForSome (option_and_then (λ n. time_in (n * unit)) o) (λ u. u < 2 ^ 50)
some_time None unit u e = cc
some_time (Some n) unit u e = time_in-small (n * unit) u e

or_small : (o p : Option ℕ) → ForSome o (λ u. u < 2 ^ 50) → ForSome p (λ u. u < 2 ^ 50) → ForSome (option_or o p) (λ u. u < 2 ^ 50)
or_small None p h k = k
or_small (Some t) p h k = h

within_small : (o : Option ℕ) (f : ℕ → ℕ) → ForSome (option_and_then (λ n. time_in (f n)) o) (λ u. u < 2 ^ 50)
within_small None f u e = cc
within_small (Some n) f u e = time_in-small (f n) u e

basic_small : (r : DataRecord) → ForSome (basic_end r) (λ u. u < 2 ^ 50)
basic_small r =
    or_small (time_of (iana FLOW_END_MILLISECONDS) 1 r) (time_of (iana FLOW_END_SECONDS) 1000 r) (some_time (number_as (kind_of (iana FLOW_END_MILLISECONDS)) (iana FLOW_END_MILLISECONDS) r) 1)
    (some_time (number_as (kind_of (iana FLOW_END_SECONDS)) (iana FLOW_END_SECONDS) r) 1000)

fine_small : (micros nanos delta : ℕ) (r : DataRecord) → ForSome (fine_time micros nanos delta r) (λ u. u < 2 ^ 50)
fine_small micros nanos delta r =
    or_small (micros_time (iana micros) r) (option_or (nanos_time (iana nanos) r) (delta_time (iana delta) r))
    (within_small (option_and_then micros_in (octets_of (iana micros) r.fields)) (λ n. n / 1000))
    (or_small (nanos_time (iana nanos) r) (delta_time (iana delta) r)
    (within_small (option_and_then nanos_in (octets_of (iana nanos) r.fields)) (λ n. n / 1000000))
    (within_small (option_and_then (time_before (r.export_time * 1000000)) (unsigned32_of (iana delta) r)) (λ n. n / 1000)))

after_small : (o d : Option ℕ) → ForSome (option_and_then (λ start. option_and_then (λ long. time_in (start + long)) d) o) (λ u. u < 2 ^ 50)
after_small None d u e = cc
after_small (Some start) d u e = within_small d (λ long. start + long) u e

first_small : (element : ElementId) (r : DataRecord) → ForSome (first_time element r) (λ u. u < 2 ^ 50)
first_small element r = after_small (number_as Millis init_time r) (unsigned32_of element r)

-- what is given if a test holds
if_given : (b : Bool) (t u : ℕ) → cond b (Some t) None ≡ Some u → (b ≡ true) × (t ≡ u)
if_given true t u e = (refl, cc)
if_given false t u e = absurd cc

-- where an uptime is read: of a flow whose end is known, and at the first time that it may be
known_time : (r : DataRecord) (e f : Option ℕ) (u : ℕ) → option_and_then (λ end. option_and_then (λ first. cond (is_known r end first) (Some first) None) f) e ≡ Some u
    → (end : ℕ) × (e ≡ Some end) × (f ≡ Some u) × (is_known r end u ≡ true)
known_time r None f u h = absurd cc
known_time r (Some end) None u h = absurd cc
known_time r (Some end) (Some first) u h =
    let given = if_given (is_known r end first) first u h in
    (end, refl, ap (λ (t : ℕ). Some t) given.1, subst (λ (t : ℕ). is_known r end t ≡ true) given.1 given.0)

known_small : (r : DataRecord) (e f : Option ℕ) → ForSome f (λ u. u < 2 ^ 50) → ForSome (option_and_then (λ end. option_and_then (λ first. cond (is_known r end first) (Some first) None) f) e) (λ u. u < 2 ^ 50)
known_small r e f small u h = let known = known_time r e f u h in small u known.2

end_small : (choice : Times) (r : DataRecord) → ForSome (end_of choice r) (λ u. u < 2 ^ 50)
unfolding end_of
end_small times.Basic r = basic_small r
end_small times.All r =
    or_small (basic_end r) (other_end r) (basic_small r)
    (or_small (fine_end r) (option_or (uptime_end r) (end_by_duration r (any_start r))) (fine_small FLOW_END_MICROSECONDS FLOW_END_NANOSECONDS FLOW_END_DELTA_MICROSECONDS r)
    (or_small (uptime_end r) (end_by_duration r (any_start r)) (known_small r (uptime_end_of r) (first_time uptime_at_end r) (first_small uptime_at_end r))
    (after_small (any_start r) (duration_of r))))

first_stays : (o p : Option ℕ) (time : ℕ) → o ≡ Some time → option_or o p ≡ Some time
first_stays None p time h = absurd cc
first_stays (Some t) p time h = h

pub start_stays : (r : DataRecord) (time : ℕ) → start_of times.Basic r ≡ Some time → start_of times.All r ≡ Some time
unfolding start_of
start_stays r time h = first_stays (basic_start r) (other_start r) time h

pub end_stays : (r : DataRecord) (time : ℕ) → end_of times.Basic r ≡ Some time → end_of times.All r ≡ Some time
unfolding end_of
end_stays r time h = first_stays (basic_end r) (other_end r) time h

-- ---- without the time at which the exporter was started

or_assoc : (o p q : Option ℕ) → option_or o (option_or p q) ≡ option_or (option_or o p) q
or_assoc None p q = refl
or_assoc (Some t) p q = refl

no_first : (r : DataRecord) (e f : Option ℕ) → f ≡ None → option_and_then (λ end. option_and_then (λ first. cond (is_known r end first) (Some first) None) f) e ≡ None
no_first r None f h = refl
no_first r (Some end) f h = ap (λ (o : Option ℕ). option_and_then (λ first. cond (is_known r end first) (Some first) None) o) h

no_uptime : (element : ElementId) (r : DataRecord) → octets_of init_time r.fields ≡ None → uptime_time element r ≡ None
no_uptime element r h =
    let started : number_as Millis init_time r ≡ None = ap (λ (o : Option (List ℕ)). option_and_then (number_in Millis) o) h in
    no_first r (uptime_end_of r) (first_time element r) (ap (λ (o : Option ℕ). option_and_then (λ s. option_and_then (λ n. time_in (s + n)) (unsigned32_of element r)) o) started)

-- times that an element or an uptime says, where no uptime does
or_none : (o p : Option ℕ) → p ≡ None → option_or o p ≡ o
or_none None p h = h
or_none (Some t) p h = refl

pub start_without : (r : DataRecord) → octets_of init_time r.fields ≡ None → start_of times.All r ≡ start_without_uptime r
unfolding start_of
start_without r h =
    ap (λ (o : Option ℕ). option_or (basic_start r) (option_or (fine_start r) (option_or o (start_by_duration r (any_end r))))) (no_uptime uptime_at_start r h)
    ∙ ap (λ (o : Option ℕ). option_or (basic_start r) (option_or (fine_start r) (start_by_duration r o))) (or_none (told_end r) (uptime_end r) (no_uptime uptime_at_end r h))
    ∙ or_assoc (basic_start r) (fine_start r) (start_by_duration r (told_end r))

pub end_without : (r : DataRecord) → octets_of init_time r.fields ≡ None → end_of times.All r ≡ end_without_uptime r
unfolding end_of
end_without r h =
    ap (λ (o : Option ℕ). option_or (basic_end r) (option_or (fine_end r) (option_or o (end_by_duration r (any_start r))))) (no_uptime uptime_at_end r h)
    ∙ ap (λ (o : Option ℕ). option_or (basic_end r) (option_or (fine_end r) (end_by_duration r o))) (or_none (told_start r) (uptime_start r) (no_uptime uptime_at_start r h))
    ∙ or_assoc (basic_end r) (fine_end r) (end_by_duration r (told_start r))

-- ---- which time an uptime is

-- a time that isn't so long after the first that the count is the same again is the first
same_round : (first rounds later : ℕ) → first + rounds * UPTIME_ROUND ≤ later → later < first + UPTIME_ROUND → first ≡ first + rounds * UPTIME_ROUND
same_round first zero later h k = omega arith
same_round first (suc n) later h k = absurd (omega (arith, h, k))

pub right_start : (r : DataRecord) (end first rounds time : ℕ) → uptime_end_of r ≡ Some end → first_time uptime_at_start r ≡ Some first → first + rounds * UPTIME_ROUND ≤ end → uptime_start r ≡ Some time
    → time ≡ first + rounds * UPTIME_ROUND
right_start r end first rounds time ends firsts before h =
    let known = known_time r (uptime_end_of r) (first_time uptime_at_start r) time h in
    let is : first ≡ time = cc (firsts, known.2) in
    let e : end ≡ known.0 = cc (ends, known.1) in
    let in_time = and_parts _ _ known.3 in
    let near = and_parts _ _ in_time.1 in
    let within : known.0 < time + UPTIME_ROUND = ltb-true known.0 (time + UPTIME_ROUND) near.1 in
    let round : end < first + UPTIME_ROUND = omega (arith, within, is, e) in
    sym is ∙ same_round first rounds end before round

pub right_end : (r : DataRecord) (first rounds time : ℕ) → told_end r ≡ None → first_time uptime_at_end r ≡ Some first → first + rounds * UPTIME_ROUND ≤ latest_end r → uptime_end r ≡ Some time
    → time ≡ first + rounds * UPTIME_ROUND
right_end r first rounds time untold firsts before h =
    let known = known_time r (uptime_end_of r) (first_time uptime_at_end r) time h in
    let is : first ≡ time = cc (firsts, known.2) in
    let ends : uptime_end_of r ≡ Some first =
    ap₂ (λ (o p : Option ℕ). option_or o (option_or p (end_by_duration r (first_time uptime_at_start r)))) untold firsts in
    let e : known.0 ≡ first = cc (ends, known.1) in
    let in_time = and_parts _ _ known.3 in
    let near = and_parts _ _ in_time.1 in
    let within : latest_end r < known.0 + UPTIME_ROUND = ltb-true (latest_end r) (known.0 + UPTIME_ROUND) near.0 in
    let round : latest_end r < first + UPTIME_ROUND = omega (arith, within, e) in
    sym is ∙ same_round first rounds (latest_end r) before round

-- ---- a used record

-- start, end and key of a used record
abbrev pub UsedAs : PlanValue → DataRecord → Type 0
UsedAs plan r = (s : ℕ) × (e : ℕ) × (key : List Cell) × IsUsed plan r s e key

some_key : (o : Option (List Cell)) → is_none o ≡ false → (key : List Cell) × (o ≡ Some key)
some_key None h = absurd (cc)
some_key (Some key) h = (key, refl)

-- what a choice gives that isn't its first
otherwise : {X : Type 0} (b : Bool) (x y z : X) → cond b x y ≡ z → (x ≡ z → ⊥) → (b ≡ false) × (y ≡ z)
otherwise true x y z h other = absurd (other h)
otherwise false x y z h other = (refl, h)

flow_used : (plan : PlanValue) (r : DataRecord) (s e : Option ℕ) → r.scope ≤ 0 → start_of plan.choices.times r ≡ s → end_of plan.choices.times r ≡ e → flow_class plan r s e ≡ Used → UsedAs plan r
flow_used plan r None e plain start end h = absurd cc
flow_used plan r (Some s) None plain start end h = absurd cc
flow_used plan r (Some s) (Some e) plain start end h =
    let last : Class = cond (is_too_long plan s e) TooLong Used in
    let forward = otherwise (ltb e s) Backward (cond (is_none (key_of plan r)) Unkeyed last) Used h (λ q. cc) in
    let keyed = otherwise (is_none (key_of plan r)) Unkeyed last Used forward.1 (λ q. cc) in
    let short = otherwise (is_too_long plan s e) TooLong Used Used keyed.1 (λ q. cc) in
    let key = some_key (key_of plan r) keyed.0 in
    (s, e, key.0, is_used plan r s e key.0 plain start end (ltb-false e s forward.0) (end_small plan.choices.times r e end) key.1 short.0)

pub used_as : (plan : PlanValue) (r : DataRecord) → class_of plan r ≡ Used → UsedAs plan r
used_as plan r h =
    let flow = otherwise (ltb 0 r.scope) Options (flow_class plan r (start_of plan.choices.times r) (end_of plan.choices.times r)) Used h (λ q. cc) in
    flow_used plan r (start_of plan.choices.times r) (end_of plan.choices.times r) (ltb-false 0 r.scope flow.0) refl refl flow.1

-- ---- intervals

in_run : (k low n : ℕ) → list_any (nat_eq k) (range_with_len low n) ≡ true → k < low + n
in_run k low zero h = absurd cc
in_run k low (suc n) h =
    elim (or_cases (nat_eq k low) (list_any (nat_eq k) (range_with_len (low + 1) n)) h) as (λ _. k < low + suc n) [
      | inl here ↦ omega (arith, eqb-true k low here)
      | inr later ↦ omega (arith, in_run k (low + 1) n later)
    ]

in_one : (k j : ℕ) → list_any (nat_eq k) (j ∷ []) ≡ true → k ≡ j
in_one k j h =
    elim (or_cases (nat_eq k j) false h) as (λ _. k ≡ j)
    [ inl here ↦ eqb-true k j here | inr none ↦ absurd cc ]

div-le-div : (length s e : ℕ) → 0 < length → s ≤ e → s / length ≤ e / length
div-le-div length s e some h = le-div (s / length) e length some (omega (arith, div-mul-le_self s length))

-- an interval that a flow contributes to begins no later than the flow ends
begins : (k length t e : ℕ) → t ≤ e → k ≡ t / length → k * length ≤ e
begins k length t e h at = omega (arith, div-mul-le_self t length, ap (λ (n : ℕ). n * length) at)

begins_in_run : (k length s e : ℕ) → s ≤ e → list_any (nat_eq k) (covered_by length s e) ≡ true → k * length ≤ e
begins_in_run k zero s e h in_it = omega (arith, mul-zero k)
begins_in_run k (suc n) s e h in_it =
    let ordered = div-le-div (suc n) s e (omega arith) h in
    let below : k < s / suc n + (e / suc n - s / suc n + 1) = in_run k (s / suc n) (e / suc n - s / suc n + 1) in_it in
    let within : k ≤ e / suc n = omega arith in
    omega (arith, div-mul-le_self e (suc n), mul-le-mul_right (suc n) within)

pub begins_in_time : (method : Method) (k length s e : ℕ) → s ≤ e → list_any (nat_eq k) (covers_by method length s e) ≡ true → k * length ≤ e
begins_in_time Start k length s e h in_it = begins k length s e h (in_one k (s / length) in_it)
begins_in_time End k length s e h in_it = begins k length e e (omega arith) (in_one k (e / length) in_it)
begins_in_time Mid k length s e h in_it = begins k length ((s + e) / 2) e (omega arith) (in_one k ((s + e) / 2 / length) in_it)
begins_in_time Uniform k length s e h in_it = begins_in_run k length s e h in_it
begins_in_time Proportional k length s e h in_it = begins_in_run k length s e h in_it
