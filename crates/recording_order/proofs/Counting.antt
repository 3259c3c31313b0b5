-- The counts of each domain, one after another.
use Rattle.std.proofs.Common.{◌≡◌, ℕ, Bool, true, false, cond, ◌++◌, take, filter, zero, suc, Some, List, [], ◌∷◌, length, map, refl, sym, ap, ◌∙◌}
use Rattle.std.specs.Prelude.{slice_get, if◌then◌else◌}
use Rattle.indexmap.specs.Layout.{set_value_at}
use Rattle.std.specs.Map.{values_of}
use Rattle.recording_order.specs.declared.numbering.Numbering.{Numbering}
use Rattle.recording_order.specs.declared.order_counts.OrderCounts.{OrderCounts}
use Rattle.recording_order.specs.Counts.{counts_of, is_told, none_counted}

-- those before an index
abbrev pub begun : ℕ → List (ℕ × Numbering) → List (ℕ × Numbering)
begun zero es = es
begun (suc index) [] = []
begun (suc index) (e ∷ es) = none_counted e ∷ begun index es

pub begun-length : (index : ℕ) (es : List (ℕ × Numbering)) → length (begun index es) ≡ length es
begun-length zero es = refl
begun-length (suc index) [] = refl
begun-length (suc index) (e ∷ es) = ap suc (begun-length index es)

pub begun-all : (es : List (ℕ × Numbering)) → begun (length es) es ≡ map none_counted es
begun-all [] = refl
begun-all (e ∷ es) = ap (λ (xs : List (ℕ × Numbering)). none_counted e ∷ xs) (begun-all es)

begun-suc : (index : ℕ) (es : List (ℕ × Numbering)) (n : Numbering) → slice_get (values_of (begun index es)) index ≡ Some n → set_value_at (begun index es) index (record n { doubled = 0; reordered = 0 }) ≡ begun (suc index) es
begun-suc zero [] n at = refl
begun-suc zero (e ∷ es) n at =
    let same : e.1 ≡ n = cc in
    ap (λ (m : Numbering). (e.0, record m { doubled = 0; reordered = 0 }) ∷ es) (sym same)
begun-suc (suc index) [] n at = refl
begun-suc (suc index) (e ∷ es) n at = ap (λ (xs : List (ℕ × Numbering)). none_counted e ∷ xs) (begun-suc index es n at)

pub begun-next : (index next : ℕ) (es : List (ℕ × Numbering)) (n : Numbering) → next ≡ suc index → slice_get (values_of (begun index es)) index ≡ Some n → set_value_at (begun index es) index (record n { doubled = 0; reordered = 0 }) ≡ begun next es
begun-next index next es n is at = begun-suc index es n at ∙ ap (λ (k : ℕ). begun k es) (sym is)

-- ---- what is told of those before an index

abbrev pub told : ℕ → List (ℕ × Numbering) → List OrderCounts
told index es = filter is_told (map counts_of (take index es))

abbrev pub one_told : List OrderCounts → OrderCounts → List OrderCounts
one_told cs c = if is_told c then cs ++ c ∷ [] else cs

told-suc : (index : ℕ) (es : List (ℕ × Numbering)) (e : ℕ × Numbering) → slice_get es index ≡ Some e → one_told (told index es) (counts_of e) ≡ told (suc index) es
told-suc index [] e at = absurd cc
told-suc zero (x ∷ es) e at = let same : x ≡ e = cc in rw same refl
told-suc (suc index) (x ∷ es) e at = by_test (is_told (counts_of x)) (is_told (counts_of e)) (told-suc index es e at)
  where
    by_test : (b c : Bool) → cond c (told index es ++ counts_of e ∷ []) (told index es) ≡ told (suc index) es
        → cond c (cond b (counts_of x ∷ told index es) (told index es) ++ counts_of e ∷ []) (cond b (counts_of x ∷ told index es) (told index es)) ≡ cond b (counts_of x ∷ told (suc index) es) (told (suc index) es)
    by_test true true more = ap (λ (cs : List OrderCounts). counts_of x ∷ cs) more
    by_test true false more = ap (λ (cs : List OrderCounts). counts_of x ∷ cs) more
    by_test false true more = more
    by_test false false more = more

pub told-next : (index next : ℕ) (es : List (ℕ × Numbering)) (e : ℕ × Numbering) → next ≡ suc index → slice_get es index ≡ Some e → one_told (told index es) (counts_of e) ≡ told next es
told-next index next es e is at = told-suc index es e at ∙ ap (λ (k : ℕ). told k es) (sym is)
