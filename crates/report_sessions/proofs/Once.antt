-- The first different elements of those that come in turn.
use Rattle.std.proofs.Common.{◌≡◌, ℕ, suc, ◌+◌, ◌<◌, Bool, true, false, not, cond, eqb, ltb, List, [], ◌∷◌, ◌++◌, length, take, drop, filter, map, get_or, Option, Some, None, refl, sym, ap, subst, ◌∙◌, append_assoc, append-nil, length-append, drop-cons, arith}
use Rattle.std.specs.Prelude.{◌&&◌, ◌||◌, IsTrue, nat_eq, option_map, unwrap_or}
use Rattle.std.specs.BTreeMap.{BTreeMap, values}
use Rattle.std.specs.List.{flat_map, list_any}
use Rattle.std.specs.Map.{lookup}
use Rattle.std.proofs.lemmas.Bool.{and_parts, eqb-true, le-ltb, lt-ltb, ltb-false, ltb-true}
use Rattle.std.proofs.lemmas.Grind.{flat_map-append}
use Rattle.std.proofs.lemmas.List.{length-take-le, take_all, take_at}
use Rattle.std.proofs.lemmas.List.Folds.{list_any-append}
use Rattle.element_registry.specs.Registries.{Known}
use Rattle.ipfix_message.specs.Domains.{DomainsView}
use Rattle.ipfix_message.specs.declared.record.Template.{Template}
use Rattle.ipfix_session.specs.declared.report.DomainReport.{DomainReport}
use Rattle.ipfix_wire.specs.declared.specifier.ElementId.{ElementId}
use Rattle.ipfix_wire.specs.declared.specifier.Spec.{Spec}
use Rattle.report_sessions.specs.FirstElements.{KeepsFirst, once_after, with_element, with_unnamed}
use Rattle.report_sessions.specs.UnnamedElements.{ElementsView, each_once, is_element, is_unnamed, templates_at, templates_of, unnamed_in}

-- ---- each once

abbrev element : ℕ → ℕ → ElementId
element pen number = record { pen = pen; number = number }

element-same : (a b c d : ℕ) → a ≡ c → b ≡ d → element a b ≡ element c d
element-same a b c d i j = rw (i, j) refl

same_element : (e other : ElementId) → is_element e other ≡ true → other ≡ e
same_element e other same =
    let parts = and_parts (eqb other.pen e.pen) (eqb other.number e.number) same in
    element-same other.pen other.number e.pen e.number (eqb-true other.pen e.pen parts.0) (eqb-true other.number e.number parts.1)

filter_within : {X : Type 0} (p q : X → Bool) → ((x : X) → q x ≡ false → p x ≡ false) → (xs : List X) → filter p (filter q xs) ≡ filter p xs
filter_within p q out [] = refl
filter_within {X} p q out (x ∷ xs) = by_test (q x) refl (filter_within p q out xs)
  where
    by_test : (b : Bool) → q x ≡ b → filter p (filter q xs) ≡ filter p xs → filter p (cond b (x ∷ filter q xs) (filter q xs)) ≡ cond (p x) (x ∷ filter p xs) (filter p xs)
    by_test true e more = ap (λ (l : List X). cond (p x) (x ∷ l) l) more
    by_test false e more = rw (out x e) more

and_true : (b : Bool) → (b && true) ≡ b
and_true true = refl
and_true false = refl

and_false : (b : Bool) → (b && false) ≡ false
and_false true = refl
and_false false = refl

filter_both : {X : Type 0} (p q both : X → Bool) → ((x : X) → both x ≡ (p x && q x)) → (xs : List X) → filter both xs ≡ filter p (filter q xs)
filter_both p q both is [] = refl
filter_both {X} p q both is (x ∷ xs) = by_test (q x) (is x) (filter_both p q both is xs)
  where
    by_test : (b : Bool) → both x ≡ (p x && b) → filter both xs ≡ filter p (filter q xs) → cond (both x) (x ∷ filter both xs) (filter both xs) ≡ filter p (cond b (x ∷ filter q xs) (filter q xs))
    by_test true e more = rw (e ∙ and_true (p x)) (ap (λ (l : List X). cond (p x) (x ∷ l) l) more)
    by_test false e more = rw (e ∙ and_false (p x)) more

neither : (a b : Bool) → not (a || (b || false)) ≡ (not a && not b)
neither true true = refl
neither true false = refl
neither false true = refl
neither false false = refl

not_not : (b : Bool) → not b ≡ false → b ≡ true
not_not true e = refl
not_not false e = absurd cc

-- none of those before
abbrev is_new : List ElementId → ElementId → Bool
is_new before e = not (list_any (is_element e) before)

abbrev is_other : ElementId → ElementId → Bool
is_other e other = not (is_element other e)

once_is : (before es : List ElementId) → once_after before es ≡ filter (is_new before) (each_once es)
once_is before [] = refl
once_is before (e ∷ es) = by_test (λ bs. once_is bs es) (list_any (is_element e) before) refl
  where
    by_test : ((bs : List ElementId) → once_after bs es ≡ filter (is_new bs) (each_once es)) → (b : Bool) → list_any (is_element e) before ≡ b
        → cond b (once_after before es) (e ∷ once_after (before ++ e ∷ []) es) ≡ cond (not b) (e ∷ filter (is_new before) (filter (is_other e) (each_once es))) (filter (is_new before) (filter (is_other e) (each_once es)))
    by_test later true seen =
        later before
        ∙ sym (filter_within (is_new before) (is_other e) (λ other out. subst (λ (x : ElementId). is_new before x ≡ false) (same_element other e (not_not (is_element other e) out)) (ap not seen)) (each_once es))
    by_test later false seen =
        ap (λ (l : List ElementId). e ∷ l) (later (before ++ e ∷ [])
        ∙ filter_both (is_new before) (is_other e) (is_new (before ++ e ∷ [])) (λ other. ap not (list_any-append (is_element other) before (e ∷ [])) ∙ neither (list_any (is_element other) before) (is_element other e)) (each_once es))

all_new : (es : List ElementId) → filter (is_new []) es ≡ es
all_new [] = refl
all_new (e ∷ es) = ap (λ (l : List ElementId). e ∷ l) (all_new es)

once_all : (es : List ElementId) → each_once es ≡ once_after [] es
once_all es = sym (once_is [] es ∙ all_new (each_once es))

-- ---- the first ones

keeps_start : (v : ElementsView) (all : List ElementId) → v.first ≡ [] → v.more ≡ false → KeepsFirst v all all
keeps_start v all first none = record {
  few = λ m. (omega (arith, ap length first), subst (λ (l : List ElementId). each_once all ≡ l ++ once_after l all) (sym first) (once_all all));
  many = λ m. let no : true ≡ false = sym m ∙ none in absurd cc;
}

abbrev kept_more : ElementsView → ElementId → ElementsView
kept_more v e = record { first = v.first ++ e ∷ []; more = v.more }

abbrev kept_full : ElementsView → ElementsView
kept_full v = record { first = v.first; more = true }

keeps_next : (v : ElementsView) (all : List ElementId) (e : ElementId) (coming : List ElementId) → KeepsFirst v all (e ∷ coming) → KeepsFirst (with_element v e) all coming
keeps_next v all e coming k = by_tests (list_any (is_element e) v.first) (ltb (length v.first) 64) refl refl
  where
    seen : list_any (is_element e) v.first ≡ true → once_after v.first (e ∷ coming) ≡ once_after v.first coming
    seen h = rw h refl

    new : list_any (is_element e) v.first ≡ false → once_after v.first (e ∷ coming) ≡ e ∷ once_after (v.first ++ e ∷ []) coming
    new h = rw h refl

    full : list_any (is_element e) v.first ≡ false → ltb (length v.first) 64 ≡ false → (m : Bool) → v.more ≡ m → (64 < length (each_once all)) × (v.first ≡ take 64 (each_once all))
    full h b true is = k.many is
    full h b false is =
        let few = k.few is in
        let rest = e ∷ once_after (v.first ++ e ∷ []) coming in
        let all_are : each_once all ≡ v.first ++ rest = few.1 ∙ ap (λ (l : List ElementId). v.first ++ l) (new h) in
        let most = ltb-false (length v.first) 64 b in
        let size = ap length all_are ∙ length-append v.first rest in
        (omega (arith, size, most), sym (ap (take 64) all_are ∙ take_at v.first rest 64 (omega (arith, most, few.0))))

    by_tests : (a b : Bool) → list_any (is_element e) v.first ≡ a → ltb (length v.first) 64 ≡ b → KeepsFirst (cond a v (cond b (kept_more v e) (kept_full v))) all coming
    by_tests true b h room = record { few = λ m. ((k.few m).0, (k.few m).1 ∙ ap (λ (l : List ElementId). v.first ++ l) (seen h)); many = k.many }
    by_tests false true h room =
        let less = ltb-true (length v.first) 64 room in
        record {
          few = λ m. (omega (arith, length-append v.first (e ∷ []), less), (k.few m).1 ∙ ap (λ (l : List ElementId). v.first ++ l) (new h) ∙ sym (append_assoc v.first (e ∷ []) (once_after (v.first ++ e ∷ []) coming)));
          many = λ m. let most = k.many m in
              let size = ap length most.1 ∙ length-take-le 64 (each_once all) (omega (arith, most.0)) in
              absurd (omega (arith, size, less));
        }
    by_tests false false h room = record { few = λ m. absurd cc; many = λ m. full h room v.more refl }

keeps_all : (v : ElementsView) (all : List ElementId) → KeepsFirst v all [] → (v.first ≡ take 64 (each_once all)) × (v.more ≡ ltb 64 (length (each_once all)))
keeps_all v all k = by_more v.more refl
  where
    by_more : (m : Bool) → v.more ≡ m → (v.first ≡ take 64 (each_once all)) × (v.more ≡ ltb 64 (length (each_once all)))
    by_more true is = let many = k.many is in (many.1, is ∙ sym (lt-ltb 64 (length (each_once all)) many.0))
    by_more false is =
        let few = k.few is in
        let all_are : each_once all ≡ v.first = few.1 ∙ append-nil v.first in
        let size : length (each_once all) ≡ length v.first = ap length all_are in
        (sym (take_all 64 (each_once all) (omega (arith, size, few.0)) ∙ all_are), is ∙ sym (le-ltb 64 (length (each_once all)) (omega (arith, size, few.0))))

pub keeps_from : (v w : ElementsView) (all : List ElementId) → v.first ≡ [] → v.more ≡ false → (KeepsFirst v all (all ++ []) → KeepsFirst w all []) → (w.first ≡ take 64 (each_once all)) × (w.more ≡ ltb 64 (length (each_once all)))
keeps_from v w all first none takes = keeps_all w all (takes (subst (λ (es : List ElementId). KeepsFirst v all es) (sym (append-nil all)) (keeps_start v all first none)))

-- ---- those of a template, of a domain, and of all domains

drop_next : {X : Type 0} (xs : List X) (i : ℕ) (x : X) → i < length xs → drop i xs ≡ get_or xs i x ∷ drop (i + 1) xs
drop_next xs i x less = let next : suc i ≡ i + 1 = omega arith in drop-cons xs i x less ∙ ap (λ (k : ℕ). get_or xs i x ∷ drop k xs) next

module _ (known : List Known) (all : List ElementId) where
  abbrev unnamed_of : List Spec → List ElementId
  unnamed_of specs = filter (is_unnamed known) (map (λ s. s.element) specs)

  keeps_if : (v : ElementsView) (e : ElementId) (es coming : List ElementId) (unnamed : Bool) → KeepsFirst v all (cond unnamed (e ∷ es) es ++ coming) → KeepsFirst (cond unnamed (with_element v e) v) all (es ++ coming)
  keeps_if v e es coming true k = keeps_next v all e (es ++ coming) k
  keeps_if v e es coming false k = k

  pub keeps_spec : (v w : ElementsView) (specs : List Spec) (i : ℕ) (s d : Spec) (coming : List ElementId) → i < length specs → s ≡ get_or specs i d → w ≡ with_unnamed known v s.element
      → KeepsFirst v all (unnamed_of (drop i specs) ++ coming) → KeepsFirst w all (unnamed_of (drop (i + 1) specs) ++ coming)
  keeps_spec v w specs i s d coming less is added k =
      let next : drop i specs ≡ s ∷ drop (i + 1) specs = drop_next specs i d less ∙ ap (λ (x : Spec). x ∷ drop (i + 1) specs) (sym is) in
      subst (λ (u : ElementsView). KeepsFirst u all (unnamed_of (drop (i + 1) specs) ++ coming)) (sym added)
      (keeps_if v s.element (unnamed_of (drop (i + 1) specs)) coming (is_unnamed known s.element) (subst (λ (l : List Spec). KeepsFirst v all (unnamed_of l ++ coming)) next k))

  abbrev unnamed_of_all : List Template → List ElementId
  unnamed_of_all ts = flat_map (unnamed_in known) ts

  pub keeps_template : (v w : ElementsView) (t : Template) (ts rest : List Template) (coming : List ElementId) → ts ≡ t ∷ rest → ((more : List ElementId) → KeepsFirst v all (unnamed_in known t ++ more) → KeepsFirst w all more)
      → KeepsFirst v all (unnamed_of_all ts ++ coming) → KeepsFirst w all (unnamed_of_all rest ++ coming)
  keeps_template v w t ts rest coming step takes k =
      takes (unnamed_of_all rest ++ coming)
      (subst (λ (es : List ElementId). KeepsFirst v all es) (ap (λ (us : List Template). unnamed_of_all us ++ coming) step ∙ append_assoc (unnamed_in known t) (unnamed_of_all rest) coming) k)

  pub keeps_domain : (v w : ElementsView) (d : DomainsView) (reports : List DomainReport) (i : ℕ) (r other : DomainReport) (coming : List ElementId) → i < length reports → r ≡ get_or reports i other
      → ((more : List ElementId) → KeepsFirst v all (unnamed_of_all (templates_of d r.domain) ++ more) → KeepsFirst w all more)
      → KeepsFirst v all (unnamed_of_all (templates_at (Some d) (drop i reports)) ++ coming) → KeepsFirst w all (unnamed_of_all (templates_at (Some d) (drop (i + 1) reports)) ++ coming)
  keeps_domain v w d reports i r other coming less is takes k =
      let rest = templates_at (Some d) (drop (i + 1) reports) in
      let next : drop i reports ≡ r ∷ drop (i + 1) reports = drop_next reports i other less ∙ ap (λ (x : DomainReport). x ∷ drop (i + 1) reports) (sym is) in
      let parts : unnamed_of_all (templates_at (Some d) (drop i reports)) ++ coming ≡ unnamed_of_all (templates_of d r.domain) ++ (unnamed_of_all rest ++ coming) =
      ap (λ (l : List DomainReport). unnamed_of_all (templates_at (Some d) l) ++ coming) next
      ∙ ap (λ (es : List ElementId). es ++ coming) (flat_map-append (unnamed_in known) (templates_of d r.domain) rest)
      ∙ append_assoc (unnamed_of_all (templates_of d r.domain)) (unnamed_of_all rest) coming in
      takes (unnamed_of_all rest ++ coming) (subst (λ (es : List ElementId). KeepsFirst v all es) parts k)

-- ---- the templates of a domain as they are looked up

abbrev Entries : Option (BTreeMap ℕ Template) → Option (List (ℕ × Template))
Entries o = option_map (λ (m : BTreeMap ℕ Template). m.entries) o

module _ (d : DomainsView) (domain : ℕ) (found : Option (BTreeMap ℕ Template)) (entries : d.spent ≡ false → Entries found ≡ lookup (nat_eq domain) d.domains) where
  templates_are : (spent : Bool) → d.spent ≡ spent → (ts : List Template) → (spent ≡ true → ts ≡ []) → (spent ≡ false → ts ≡ map (λ e. e.1) (unwrap_or (lookup (nat_eq domain) d.domains) [])) → templates_of d domain ≡ ts
  templates_are true is ts none some = rw is (sym (none refl))
  templates_are false is ts none some = rw is (sym (some refl))

  pub templates_none : found ≡ None → templates_of d domain ≡ []
  templates_none is =
      templates_are d.spent refl [] (λ spent. refl)
      (λ fresh. ap (λ (o : Option (List (ℕ × Template))). map (λ e. e.1) (unwrap_or o [])) (sym (ap Entries is) ∙ entries fresh))

  pub templates_some : (m : BTreeMap ℕ Template) → found ≡ Some m → (IsTrue d.spent → found ≡ None) → templates_of d domain ≡ values m
  templates_some m is spent_none =
      templates_are d.spent refl (values m) (λ spent. let no : Some m ≡ None = sym is ∙ spent_none (rw spent refl) in absurd cc)
      (λ fresh. ap (λ (o : Option (List (ℕ × Template))). map (λ e. e.1) (unwrap_or o [])) (sym (ap Entries is) ∙ entries fresh))
