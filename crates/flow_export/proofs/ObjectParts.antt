-- The text of a row's object, part by part.
use Rattle.std.proofs.Common.{◌≡◌, ℕ, ◌+◌, ◌<◌, ◌≤◌, List, [], ◌∷◌, ◌++◌, length, map, get_or, take, refl, sym, ap, ◌∙◌, append_assoc, arith}
use Rattle.std.specs.Prelude.{codes}
use Rattle.std.specs.List.{flat_map, zip}
use Rattle.std.proofs.lemmas.List.{append-nil, get_or_default, take_all, length-map, map-append}
use Rattle.std.proofs.lemmas.Grind.{flat_map-append}
use Rattle.std.proofs.lemmas.Slice.Zip.{get_or-zip, length-zip}
use Rattle.element_registry.specs.Registries.{element_name}
use Rattle.ipfix_elements.specs.declared.cell.Cell.{Cell}
use Rattle.flow_table.specs.Plans.{PlanValue}
use Rattle.flow_table.specs.SameTables.{value_of}
use Rattle.flow_table.specs.declared.table.Row.{Row}
use Rattle.flow_export.specs.Intervals.{first_in, last_in}
use Rattle.flow_export.specs.declared.intervals.Intervals.{Intervals}
use Rattle.flow_export.specs.JsonParts.{AreLabels, interval_members, label, labelled, text_of}
use Rattle.flow_export.specs.Fitting.{IsExportable}
use Rattle.flow_export.specs.Shown.{shown_cells}
use Rattle.flow_table.specs.declared.key.Key.{Key}
use Rattle.flow_export.specs.JsonText.{member}
use Rattle.flow_export.specs.CsvText.{key_text}
use Rattle.flow_export.specs.JsonText.{row_object_in}
use Rattle.ipfix_elements.specs.JsonValues.{json_cell, json_number}
use Rattle.flow_export.specs.declared.json_text.labels.MemberLabel.{MemberLabel}
use Rattle.flow_export.specs.declared.json_text.labels.RowLabels.{RowLabels}
use Rattle.flow_export.proofs.Appending.{one_more}
use Rattle.flow_export.proofs.KeyCells.{same_length}
use Rattle.flow_export.proofs.ShownKeys.{shown_length}
use Rattle.flow_export.proofs.Lines.{behind_commas, next, six_parts}

-- ---- values after their labels, one after another

same_pair : {A B : Type 0} {a b : A} {x y : B} → a ≡ b → x ≡ y → ◌≡◌ {A = A × B} (a, x) (b, y)
same_pair is_a is_x = rw (is_a, is_x) refl

-- one more, after those that were appended
pub pair_more : {X : Type 0} (value : X → List ℕ) (ls : List MemberLabel) (xs : List X) (i : ℕ) (l : MemberLabel) (d : X) (o p q : List ℕ) → length ls ≡ length xs → i < length xs → l ≡ get_or ls i l
    → p ≡ o ++ flat_map (labelled value) (take i (zip ls xs)) → q ≡ p ++ labelled value (l, get_or xs i d) → q ≡ o ++ flat_map (labelled value) (take (i + 1) (zip ls xs))
pair_more {X} value ls xs i l d o p q same inside is_l is_p is_q =
    let within : i < length (zip ls xs) = omega (arith, length-zip ls xs, same, inside) in
    let x = get_or xs i d in
    let at = get_or-zip ls xs i (l, x) (omega (arith, same, inside)) inside ∙ same_pair (sym is_l) (get_or_default xs i x d inside) in
    one_more (labelled value) (zip ls xs) i (l, x) o p q within (sym at) is_p is_q

-- all of them
pub pairs_all : {X : Type 0} (value : X → List ℕ) (ls : List MemberLabel) (xs : List X) (i : ℕ) (o p : List ℕ) → length ls ≡ length xs → length xs ≤ i
    → p ≡ o ++ flat_map (labelled value) (take i (zip ls xs)) → p ≡ o ++ flat_map (labelled value) (zip ls xs)
pairs_all {X} value ls xs i o p same outside is_p =
    is_p ∙ ap (λ (pairs : List (MemberLabel × X)). o ++ flat_map (labelled value) pairs) (take_all i (zip ls xs) (omega (arith, length-zip ls xs, same, outside)))

-- ---- members after commas

member_is : (name made v : List ℕ) → made ≡ label name → made ++ v ≡ next (member (name, v))
member_is name made v is_made =
    ap (λ (t : List ℕ). t ++ v) is_made
    ∙ ap (λ (t : List ℕ). codes ",\"" ++ t) (append_assoc name (codes "\":") v ∙ sym (append_assoc name (codes "\"") (codes ":" ++ v)))

members_are : {X : Type 0} (value : X → List ℕ) (names : List (List ℕ)) (ls : List MemberLabel) (xs : List X) → map text_of ls ≡ map label names
    → flat_map (labelled value) (zip ls xs) ≡ flat_map next (map member (zip names (map value xs)))
members_are value [] [] xs same = refl
members_are value [] (l ∷ ls) xs same = absurd cc
members_are value (n ∷ ns) [] xs same = absurd cc
members_are value (n ∷ ns) (l ∷ ls) [] same = refl
members_are value (n ∷ ns) (l ∷ ls) (x ∷ xs) same =
    let here : labelled value (l, x) ≡ next (member (n, value x)) = member_is n (text_of l) (value x) cc in
    rw (here, members_are value ns ls xs cc) refl

zip-append : {A B : Type 0} (xs us : List A) (ys vs : List B) → length xs ≡ length ys → zip (xs ++ us) (ys ++ vs) ≡ zip xs ys ++ zip us vs
zip-append [] us [] vs same = refl
zip-append [] us (y ∷ ys) vs same = absurd (omega (arith, same))
zip-append (x ∷ xs) us [] vs same = absurd (omega (arith, same))
zip-append {A} {B} (x ∷ xs) us (y ∷ ys) vs same = ap (λ (pairs : List (A × B)). (x, y) ∷ pairs) (zip-append xs us ys vs (omega (arith, same)))

-- ---- a row

abbrev pub cells_of : PlanValue → RowLabels → Row → List ℕ
cells_of plan labels row = flat_map (labelled json_cell) (zip labels.keys.items (shown_cells plan.keys row.key.items))

abbrev pub sums_of : RowLabels → Row → List ℕ
sums_of labels row = flat_map (labelled json_number) (zip labels.counters.items row.sums.items)

-- a cell for each label of a key, and a sum for each of a counter
pub same_counts : (plan : PlanValue) (labels : RowLabels) (row : Row) → AreLabels plan labels → IsExportable plan (value_of row)
    → (length labels.keys.items ≡ length row.key.items) × (length labels.counters.items ≡ length row.sums.items)
same_counts plan labels row made fits =
    let keys = ap length made.keys in
    let counters = ap length made.counters in
    let cells = same_length plan.kinds row.key.items fits.fields.key.fit in (
      omega (arith, keys, cells, length-map labels.keys.items text_of, length-map (map (key_text labels.elements.now) plan.keys) label, length-map plan.keys (key_text labels.elements.now), fits.fields.key.beside),
      omega (arith, counters, fits.fields.sums, length-map labels.counters.items text_of, length-map (map (element_name labels.elements.now) plan.counters) label, length-map plan.counters (element_name labels.elements.now)),
    )

pub keys_counted : (plan : PlanValue) (row : Row) → IsExportable plan (value_of row) → length plan.keys ≡ length row.key.items
keys_counted plan row fits = omega (arith, fits.fields.key.beside, same_length plan.kinds row.key.items fits.fields.key.fit)

three_parts : (ps qs : List (List ℕ × List ℕ)) (p : List ℕ × List ℕ)
    → flat_map next (map member (ps ++ (qs ++ p ∷ []))) ≡ flat_map next (map member ps) ++ (flat_map next (map member qs) ++ next (member p))
three_parts ps qs p =
    ap (flat_map next) (map-append member ps (qs ++ p ∷ []))
    ∙ flat_map-append next (map member ps) (map member (qs ++ p ∷ []))
    ∙ ap (λ (t : List ℕ). flat_map next (map member ps) ++ t)
    (ap (flat_map next) (map-append member qs (p ∷ [])) ∙ flat_map-append next (map member qs) (member p ∷ [])
    ∙ ap (λ (t : List ℕ). flat_map next (map member qs) ++ t) (append-nil (next (member p))))

-- the members after the first two
tail_members : (plan : PlanValue) (labels : RowLabels) (row : Row) → AreLabels plan labels → IsExportable plan (value_of row)
    → flat_map next (map member (zip (map (key_text labels.elements.now) plan.keys ++ (map (element_name labels.elements.now) plan.counters ++ codes "flows" ∷ [])) (map json_cell (shown_cells plan.keys row.key.items) ++ (map json_number row.sums.items ++ json_number row.flows ∷ []))))
    ≡ cells_of plan labels row ++ (sums_of labels row ++ (codes ",\"flows\":" ++ json_number row.flows))
tail_members plan labels row made fits =
    let counts = same_counts plan labels row made fits in
    let names = map (key_text labels.elements.now) plan.keys in
    let more_names = map (element_name labels.elements.now) plan.counters in
    let shown = shown_cells plan.keys row.key.items in
    let values = map json_cell shown in
    let more_values = map json_number row.sums.items in
    let keys : length names ≡ length values = omega (arith, counts.0, ap length made.keys, length-map labels.keys.items text_of, length-map names label, length-map shown json_cell, shown_length plan.keys row.key.items) in
    let counters : length more_names ≡ length more_values =
    omega (arith, counts.1, ap length made.counters, length-map labels.counters.items text_of, length-map more_names label, length-map row.sums.items json_number) in
    rw (zip-append names (more_names ++ codes "flows" ∷ []) values (more_values ++ json_number row.flows ∷ []) keys)
    (rw (zip-append more_names (codes "flows" ∷ []) more_values (json_number row.flows ∷ []) counters)
    (three_parts (zip names values) (zip more_names more_values) (codes "flows", json_number row.flows)
    ∙ rw (members_are json_cell names labels.keys.items shown made.keys, members_are json_number more_names labels.counters.items row.sums.items made.counters) refl))

joined : (m b c d e f : List ℕ) → (m ++ (b ++ (c ++ (d ++ e)))) ++ f ≡ m ++ (b ++ (c ++ (d ++ (e ++ f))))
joined m b c d e f = simp append_assoc

object_parts : (intervals : Intervals) (plan : PlanValue) (labels : RowLabels) (row : Row) → AreLabels plan labels → IsExportable plan (value_of row)
    → row_object_in intervals labels.elements.now plan (value_of row)
    ≡ (codes "{\"start\":" ++ json_number (first_in intervals plan row.interval)) ++ ((codes ",\"end\":" ++ json_number (last_in intervals plan row.interval))
    ++ (cells_of plan labels row ++ (sums_of labels row ++ ((codes ",\"flows\":" ++ json_number row.flows) ++ codes "}\n"))))
object_parts intervals plan labels row made fits =
    let first = member (codes "start", json_number (first_in intervals plan row.interval)) in
    let second = member (codes "end", json_number (last_in intervals plan row.interval)) in
    let rest = map member (zip (map (key_text labels.elements.now) plan.keys ++ (map (element_name labels.elements.now) plan.counters ++ codes "flows" ∷ [])) (map json_cell (shown_cells plan.keys row.key.items) ++ (map json_number row.sums.items ++ json_number row.flows ∷ []))) in
    ap (λ (t : List ℕ). codes "{" ++ (t ++ codes "}\n"))
    (behind_commas first (second ∷ rest) ∙ ap (λ (t : List ℕ). first ++ (next second ++ t)) (tail_members plan labels row made fits))
    ∙ ap (λ (t : List ℕ). codes "{" ++ t) (joined first (next second) (cells_of plan labels row) (sums_of labels row) (codes ",\"flows\":" ++ json_number row.flows) (codes "}\n"))

-- an object whose members after the first two were appended one after another
pub object_appended : (intervals : Intervals) (plan : PlanValue) (labels : RowLabels) (row : Row) (ls counters : List MemberLabel) (ks : List Key) (cs : List Cell) (vs o q r s t u : List ℕ) → AreLabels plan labels → IsExportable plan (value_of row)
    → ls ≡ labels.keys.items → ks ≡ plan.keys → counters ≡ labels.counters.items → cs ≡ row.key.items → vs ≡ row.sums.items → q ≡ o ++ interval_members intervals plan row.interval
    → r ≡ q ++ flat_map (labelled json_cell) (zip ls (shown_cells ks cs)) → s ≡ r ++ flat_map (labelled json_number) (zip counters vs) → t ≡ s ++ (codes ",\"flows\":" ++ json_number row.flows)
    → u ≡ t ++ codes "}\n" → u ≡ o ++ row_object_in intervals labels.elements.now plan (value_of row)
object_appended intervals plan labels row ls counters ks cs vs o q r s t u made fits is_ls is_ks is_counters is_cs is_vs is_q is_r is_s is_t is_u =
    let first = codes "{\"start\":" ++ json_number (first_in intervals plan row.interval) in
    let last = codes ",\"end\":" ++ json_number (last_in intervals plan row.interval) in
    let cells : r ≡ q ++ cells_of plan labels row = is_r ∙ rw (is_ls, is_ks, is_cs) refl in
    let sums : s ≡ r ++ sums_of labels row = is_s ∙ rw (is_counters, is_vs) refl in
    six_parts o (o ++ first) q r s t u first last _ _ _ _ refl (is_q ∙ sym (append_assoc o first last)) cells sums is_t is_u
    ∙ ap (λ (x : List ℕ). o ++ x) (sym (object_parts intervals plan labels row made fits))
