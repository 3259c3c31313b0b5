-- What is noted, and what is told.
use Rattle.std.proofs.Common.{◌≡◌, ℕ, Bool, ◌||◌, not, true, false, cond, List, [], ◌∷◌, Option, None, Some, refl, sym, ap, ◌∙◌, subst, inl, inr}
use Rattle.std.specs.Prelude.{◌⊎◌, ◌&&◌, All, nat_lt, is_none, is_some}
use Rattle.std.specs.List.{list_any}
use Rattle.std.specs.Option.{option_or}
use Rattle.std.proofs.lemmas.Bool.{false≢true}
use Rattle.std.proofs.lemmas.List.Elements.{All-cons, All-head, All-nil, All-tail}
use Rattle.ipfix_message.specs.declared.record.DataRecord.{DataRecord}
use Rattle.flow_table.specs.Plans.{PlanValue}
use Rattle.flow_table.specs.Reading.{basic_end, basic_start, class_of, end_of, flow_class, is_too_long, key_of, start_of}
use Rattle.flow_table.specs.declared.choices.Times.{Times}
use Rattle.flow_table.specs.declared.choices.Times.TheVariants.{Basic}
use Rattle.flow_table.specs.declared.class.Class.{Class}
use Rattle.flow_table.specs.declared.class.Class.TheVariants.{Options, Untimed, Backward, Unkeyed, TooLong, Used}
use Rattle.flow_times.specs.Elements.{other_time, start_element}
use Rattle.flow_times.specs.Noted.{after, first, noted_of}
use Rattle.flow_times.specs.Starts.{counted, counted_all}
use Rattle.flow_times.specs.Timed.{is_timed}
use Rattle.flow_times.specs.Untimed.{AreLeftOut, IsLeftOut, first_other, is_timed_flow, times_of, untimed_time}
use Rattle.flow_times.specs.declared.element.TimeElement.{TimeElement}
use Rattle.flow_times.specs.declared.notes.TimeNotes.{TimeNotes}
use Rattle.flow_times.specs.declared.notes.TimeNoting.{TimeNoting}
use Rattle.flow_times.specs.declared.notes.TimeNoting.TheVariants as noting
use Rattle.flow_times.specs.declared.notes.TimesReport.{TimesReport}
use Rattle.flow_times.specs.declared.starts.StartCounts.{StartCounts}
use Rattle.flow_times.specs.declared.starts.TheConstants.{NO_STARTS}

-- ---- what is noted

same_either : (options : Bool) (n : TimeNotes) → cond options n n ≡ n
same_either true n = refl
same_either false n = refl

-- where nothing more is noted
none_more : (rs : List DataRecord) → after (first noting.Nothing) rs ≡ first noting.Nothing
none_more [] = refl
none_more (r ∷ rs) = ap (λ (n : TimeNotes). after n rs) (same_either (nat_lt 0 r.scope) (first noting.Nothing)) ∙ none_more rs

abbrev open_with : Option TimeElement → TimeNotes
open_with o = record { noting = noting.Untimed; report = record { untimed = o; starts = NO_STARTS } }

or_assoc : (a b c : Option TimeElement) → option_or (option_or a b) c ≡ option_or a (option_or b c)
or_assoc None b c = refl
or_assoc (Some x) b c = refl

or_none : (a : Option TimeElement) → a ≡ option_or a None
or_none None = refl
or_none (Some x) = refl

-- what the records that are left make of it
abbrev told_with : Option TimeElement → List DataRecord → TimesReport
told_with o rs = record { untimed = cond (list_any is_timed_flow rs) None (option_or o (first_other rs)); starts = NO_STARTS }

abbrev told_by : Option TimeElement → TimesReport
told_by o = record { untimed = o; starts = NO_STARTS }

step : (options timed : Bool) (o t : Option TimeElement) (rs : List DataRecord) → ((p : Option TimeElement) → (after (open_with p) rs).report ≡ told_with p rs)
    → (after (cond options (open_with o) (cond timed (first noting.Nothing) (open_with (option_or o t)))) rs).report
    ≡ told_by (cond ((not options && timed) || list_any is_timed_flow rs) None (option_or o (option_or (cond (not options) t None) (first_other rs))))
step true timed o t rs rest = rest o
step false true o t rs rest = ap (λ (n : TimeNotes). n.report) (none_more rs)
step false false o t rs rest = rest (option_or o t) ∙ ap (λ (p : Option TimeElement). told_by (cond (list_any is_timed_flow rs) None p)) (or_assoc o t (first_other rs))

noted_so : (rs : List DataRecord) (o : Option TimeElement) → (after (open_with o) rs).report ≡ told_with o rs
noted_so [] o = ap told_by (or_none o)
noted_so (r ∷ rs) o = step (nat_lt 0 r.scope) (is_timed r) o (other_time r.fields) rs (noted_so rs)

-- and where starts are counted
abbrev counting : StartCounts → TimeNotes
counting s = record { noting = noting.Starts; report = record { untimed = None; starts = s } }

abbrev told_counts : StartCounts → TimesReport
told_counts s = record { untimed = None; starts = s }

count_step : (options : Bool) (s t : StartCounts) (rs : List DataRecord) → ((u : StartCounts) → (after (counting u) rs).report ≡ told_counts (counted_all u rs))
    → (after (cond options (counting s) (counting t)) rs).report ≡ told_counts (counted_all (cond (not options) t s) rs)
count_step true s t rs rest = rest s
count_step false s t rs rest = rest t

counted_so : (rs : List DataRecord) (s : StartCounts) → (after (counting s) rs).report ≡ told_counts (counted_all s rs)
counted_so [] s = refl
counted_so (r ∷ rs) s = count_step (nat_lt 0 r.scope) s (counted (start_element r.fields) s) rs (counted_so rs)

pub noted_told : (noting : TimeNoting) (rs : List DataRecord) → noted_of noting rs ≡ times_of noting rs
noted_told noting.Nothing rs = ap (λ (n : TimeNotes). n.report) (none_more rs)
noted_told noting.Untimed rs = noted_so rs None
noted_told noting.Starts rs = counted_so rs NO_STARTS

-- ---- classes

no_pair : {X : Type 0} → true ≡ false → X
no_pair is = absurd (false≢true (sym is))

by_times : (plan : PlanValue) (r : DataRecord) (options : Bool) (s e : Option ℕ) → (not options && (is_some s && is_some e)) ≡ false
    → (cond options Options (flow_class plan r s e) ≡ Options) ⊎ (cond options Options (flow_class plan r s e) ≡ Untimed)
by_times plan r true s e is = inl refl
by_times plan r false None e is = inr refl
by_times plan r false (Some s) None is = inr refl
by_times plan r false (Some s) (Some e) is = no_pair is

never : (backward unkeyed long : Bool) (class : Class) → (class ≡ Options) ⊎ (class ≡ Untimed) → cond backward Backward (cond unkeyed Unkeyed (cond long TooLong Used)) ≡ class → ⊥
never true unkeyed long class (inl o) is = absurd (cc (is, o))
never true unkeyed long class (inr u) is = absurd (cc (is, u))
never false true long class (inl o) is = absurd (cc (is, o))
never false true long class (inr u) is = absurd (cc (is, u))
never false false true class (inl o) is = absurd (cc (is, o))
never false false true class (inr u) is = absurd (cc (is, u))
never false false false class (inl o) is = absurd (cc (is, o))
never false false false class (inr u) is = absurd (cc (is, u))

by_class : (plan : PlanValue) (r : DataRecord) (options : Bool) (s e : Option ℕ)
    → (cond options Options (flow_class plan r s e) ≡ Options) ⊎ (cond options Options (flow_class plan r s e) ≡ Untimed) → (not options && (is_some s && is_some e)) ≡ false
by_class plan r true s e is = refl
by_class plan r false None e is = refl
by_class plan r false (Some s) None is = refl
by_class plan r false (Some s) (Some e) is = absurd (never (nat_lt e s) (is_none (key_of plan r)) (is_too_long plan s e) _ is refl)

-- by its times under plans that read milliseconds and seconds alone
class_is : (plan : PlanValue) (r : DataRecord) → plan.choices.times ≡ Basic → class_of plan r ≡ cond (nat_lt 0 r.scope) Options (flow_class plan r (basic_start r) (basic_end r))
unfolding start_of end_of
class_is plan r basic = ap (λ (t : Times). cond (nat_lt 0 r.scope) Options (flow_class plan r (start_of t r) (end_of t r))) basic

left_out : (plan : PlanValue) (r : DataRecord) → plan.choices.times ≡ Basic → is_timed_flow r ≡ false → IsLeftOut plan r
left_out plan r basic is =
    subst (λ (c : Class). (c ≡ Options) ⊎ (c ≡ Untimed)) (sym (class_is plan r basic)) (by_times plan r (nat_lt 0 r.scope) (basic_start r) (basic_end r) is)

not_timed : (plan : PlanValue) (r : DataRecord) → plan.choices.times ≡ Basic → IsLeftOut plan r → is_timed_flow r ≡ false
not_timed plan r basic is =
    by_class plan r (nat_lt 0 r.scope) (basic_start r) (basic_end r) (subst (λ (c : Class). (c ≡ Options) ⊎ (c ≡ Untimed)) (class_is plan r basic) is)

-- ---- all of them

neither : (a b : Bool) → (a || b) ≡ false → (a ≡ false) × (b ≡ false)
neither true b is = no_pair is
neither false b is = (refl, is)

all_left : (plan : PlanValue) (rs : List DataRecord) → plan.choices.times ≡ Basic → list_any is_timed_flow rs ≡ false → All (IsLeftOut plan) rs
all_left plan [] basic is = All-nil (IsLeftOut plan)
all_left plan (r ∷ rs) basic is =
    let both = neither (is_timed_flow r) (list_any is_timed_flow rs) is in
    All-cons (IsLeftOut plan) r rs (left_out plan r basic both.0) (all_left plan rs basic both.1)

none_timed : (plan : PlanValue) (rs : List DataRecord) → plan.choices.times ≡ Basic → All (IsLeftOut plan) rs → list_any is_timed_flow rs ≡ false
none_timed plan [] basic all = refl
none_timed plan (r ∷ rs) basic all =
    ap (λ (b : Bool). b || list_any is_timed_flow rs) (not_timed plan r basic (All-head (IsLeftOut plan) r rs all)) ∙ none_timed plan rs basic (All-tail (IsLeftOut plan) r rs all)

told_only : (any : Bool) (o : Option TimeElement) (e : TimeElement) → cond any None o ≡ Some e → any ≡ false
told_only true o e is = absurd (cc is)
told_only false o e is = refl

pub only_untimed : (plan : PlanValue) (rs : List DataRecord) (e : TimeElement) → plan.choices.times ≡ Basic → untimed_time rs ≡ Some e → AreLeftOut plan rs
only_untimed plan rs e basic is = all_left plan rs basic (told_only (list_any is_timed_flow rs) (first_other rs) e is)

pub all_untimed : (plan : PlanValue) (rs : List DataRecord) → plan.choices.times ≡ Basic → AreLeftOut plan rs → untimed_time rs ≡ first_other rs
all_untimed plan rs basic all = ap (λ (b : Bool). cond b None (first_other rs)) (none_timed plan rs basic all)
