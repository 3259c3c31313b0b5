-- Estimates that are too large, among records.
use Rattle.std.proofs.Common.{◌≡◌, Bool, ◌||◌, true, false, cond, List, [], ◌∷◌, ◌++◌, Option, None, Some, refl, sym, ap, ◌∙◌, subst, inl, inr}
use Rattle.std.specs.Prelude.{◌⊎◌, nat_lt}
use Rattle.std.specs.Borrow.{Bor}
use Rattle.std.specs.List.{AllZip, list_any}
use Rattle.std.proofs.lemmas.Bool.{false≢true}
use Rattle.ipfix_message.specs.declared.record.DataRecord.{DataRecord}
use Rattle.ipfix_session.specs.Given.{IsPrefix}
use Rattle.exporter_options.specs.Known.{Known}
use Rattle.flow_estimates.specs.Estimates.{is_too_large_for}
use Rattle.flow_estimates.specs.Noted.{IsReportOf, Noted, note, noted_first}
use Rattle.flow_estimates.specs.declared.estimates.Estimates.{Estimates}
use Rattle.flow_estimates.specs.declared.report.SamplingReport.{SamplingReport}
use Rattle.flow_collect.specs.Rated.{have_large, is_large, noted_after, notes_first, Tells}
use Rattle.flow_collect.specs.declared.session_context.InContext.{InContext}

-- ---- tests

or_assoc : (a b c : Bool) → ((a || b) || c) ≡ (a || (b || c))
or_assoc true b c = refl
or_assoc false b c = refl

or_false : (a : Bool) → a ≡ (a || false)
or_false true = refl
or_false false = refl

pub or_cases : (a b : Bool) → (a || b) ≡ true → (a ≡ true) ⊎ (b ≡ true)
or_cases true b h = inl refl
or_cases false b h = inr h

pub or_left : (a b : Bool) → a ≡ true → (a || b) ≡ true
or_left true b h = refl
or_left false b h = absurd (false≢true h)

pub or_right : (a b : Bool) → b ≡ true → (a || b) ≡ true
or_right true b h = refl
or_right false b h = h

any_more : {X : Type 0} (p : X → Bool) (xs ys : List X) → list_any p xs ≡ true → list_any p (xs ++ ys) ≡ true
any_more p [] ys is = absurd (false≢true is)
any_more p (x ∷ xs) ys is = elim (or_cases (p x) (list_any p xs) is) as (λ _. list_any p ((x ∷ xs) ++ ys) ≡ true) [
  | inl here ↦ or_left (p x) (list_any p (xs ++ ys)) here
  | inr there ↦ or_right (p x) (list_any p (xs ++ ys)) (any_more p xs ys there)
]

any_prefix : {X : Type 0} (p : X → Bool) (xs ys : List X) → IsPrefix xs ys → list_any p xs ≡ true → list_any p ys ≡ true
any_prefix p xs ys h is = ap (list_any p) h.1 ∙ any_more p xs h.0 is

-- ---- what is noted

step : (options : Bool) (n m : Noted) (large rest : Bool) → m.has_too_large ≡ (n.has_too_large || large) → ((cond options n m).has_too_large || rest) ≡ (n.has_too_large || (cond options false large || rest))
step true n m large rest h = refl
step false n m large rest h = ap (λ (x : Bool). x || rest) h ∙ or_assoc n.has_too_large large rest

flag_of : (e : Option (Bor Estimates)) (n : Noted) (rs : List DataRecord) → (m : Noted) × (noted_after e (Some n) rs ≡ Some m) × (m.has_too_large ≡ (n.has_too_large || list_any (is_large e) rs))
flag_of e n [] = (n, refl, or_false n.has_too_large)
flag_of e n (r ∷ rs) =
    let rest = flag_of e (note e n r) rs in
    (rest.0, rest.1, rest.2 ∙ step (nat_lt 0 r.scope) n _ (is_too_large_for e r.fields) (list_any (is_large e) rs) refl)

none_noted : (e : Option (Bor Estimates)) (rs : List DataRecord) → noted_after e None rs ≡ None
none_noted e [] = refl
none_noted e (r ∷ rs) = none_noted e rs

-- where it is told that an estimate is too large, one is
pub told_large : (asked : Bool) (e : Option (Bor Estimates)) (known : Known) (rs : List DataRecord) (report : SamplingReport) → Tells known (noted_after e (notes_first asked) rs) report → report.is_too_large ≡ true
    → list_any (is_large e) rs ≡ true
told_large false e known rs report t is =
    let empty = subst (λ (n : Option Noted). Tells known n report) (none_noted e rs) t in
    absurd (false≢true (sym empty.too_large_is ∙ is))
told_large true e known rs report t is =
    let flag = flag_of e noted_first rs in
    let told : IsReportOf known flag.0 report = subst (λ (n : Option Noted). Tells known n report) flag.1 t in
    sym flag.2 ∙ sym told.too_large_is ∙ is

-- ---- all sessions

module _ {S : Type 0} where
  pub more_large : (sources : List (InContext S)) (qs rs : List (List DataRecord)) → AllZip IsPrefix qs rs → have_large sources qs ≡ true → have_large sources rs ≡ true
  more_large [] qs rs z is = absurd (false≢true is)
  more_large (s ∷ sources) [] rs z is = absurd (false≢true is)
  more_large (s ∷ sources) (q ∷ qs) [] z is = absurd z
  more_large (s ∷ sources) (q ∷ qs) (r ∷ rs) z is =
      let p = is_large s.context.estimates in
      elim (or_cases (list_any p q) (have_large sources qs) is) as (λ _. have_large (s ∷ sources) (r ∷ rs) ≡ true) [
        | inl here ↦ or_left (list_any p r) (have_large sources rs) (any_prefix p q r z.0 here)
        | inr there ↦ or_right (list_any p r) (have_large sources rs) (more_large sources qs rs z.1 there)
      ]

-- nothing is too large of which no estimate is wanted
same : (options : Bool) → cond options false false ≡ false
same true = refl
same false = refl

pub all_small : (q : List DataRecord) → list_any (is_large None) q ≡ false
all_small [] = refl
all_small (r ∷ q) = ap (λ (b : Bool). b || list_any (is_large None) q) (same (nat_lt 0 r.scope)) ∙ all_small q
