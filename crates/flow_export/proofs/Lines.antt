-- A line of a row, field by field.
use Rattle.std.proofs.Common.{◌≡◌, ℕ, List, [], ◌∷◌, ◌++◌, map, refl, sym, ap, ap₂, ◌∙◌, append_assoc}
use Rattle.std.specs.Fmt.{decimal}
use Rattle.std.specs.List.{flat_map, join_with_byte}
use Rattle.std.proofs.lemmas.List.{append-nil}
use Rattle.std.proofs.lemmas.Grind.{flat_map-append}
use Rattle.ipfix_elements.specs.Texts.{cell_text}
use Rattle.flow_table.specs.Plans.{PlanValue}
use Rattle.flow_table.specs.SameTables.{RowValue, value_of}
use Rattle.flow_table.specs.declared.table.Row.{Row}
use Rattle.ipfix_elements.specs.declared.cell.Cell.{Cell}
use Rattle.flow_table.specs.declared.key.Key.{Key}
use Rattle.flow_export.specs.CsvText.{row_line_in}
use Rattle.flow_export.specs.Intervals.{first_in, last_in}
use Rattle.flow_export.specs.declared.intervals.Intervals.{Intervals}
use Rattle.flow_export.specs.Shown.{shown_cells}
use Rattle.flow_export.specs.Written.{interval_texts, next_cell, next_number}

abbrev pub next : List ℕ → List ℕ
next t = 44 ∷ t

-- the first field, and then each after a comma
pub behind_commas : (f : List ℕ) (fs : List (List ℕ)) → join_with_byte 44 (f ∷ fs) ≡ f ++ flat_map next fs
behind_commas f [] = sym (append-nil f)
behind_commas f (g ∷ gs) = ap (λ (t : List ℕ). f ++ (44 ∷ t)) (behind_commas g gs)

each : {X : Type 0} (text : X → List ℕ) (xs : List X) → flat_map next (map text xs) ≡ flat_map (λ x. 44 ∷ text x) xs
each text [] = refl
each text (x ∷ xs) = ap (λ (t : List ℕ). (44 ∷ text x) ++ t) (each text xs)

-- the fields after the first two
tail_parts : (cells : List Cell) (row : RowValue) → flat_map next (map cell_text cells ++ (map decimal row.sums ++ decimal row.flows ∷ []))
    ≡ flat_map next_cell cells ++ (flat_map next_number row.sums ++ next_number row.flows)
tail_parts shown row =
    flat_map-append next (map cell_text shown) (map decimal row.sums ++ decimal row.flows ∷ [])
    ∙ rw (each cell_text shown, flat_map-append next (map decimal row.sums) (decimal row.flows ∷ []), each decimal row.sums, append-nil (next_number row.flows)) refl

row_parts : (intervals : Intervals) (plan : PlanValue) (row : RowValue) → row_line_in intervals plan row
    ≡ decimal (first_in intervals plan row.interval) ++ (next_number (last_in intervals plan row.interval) ++ (flat_map next_cell (shown_cells plan.keys row.key) ++ (flat_map next_number row.sums ++ (next_number row.flows ++ 10 ∷ []))))
row_parts intervals plan row =
    let first = decimal (first_in intervals plan row.interval) in
    let second = next_number (last_in intervals plan row.interval) in
    let shown = shown_cells plan.keys row.key in
    let cells = flat_map next_cell shown in
    let sums = flat_map next_number row.sums in
    let rest = map cell_text shown ++ (map decimal row.sums ++ decimal row.flows ∷ []) in
    ap (λ (t : List ℕ). t ++ 10 ∷ []) (behind_commas first (decimal (last_in intervals plan row.interval) ∷ rest))
    ∙ append_assoc first (second ++ flat_map next rest) (10 ∷ [])
    ∙ ap (λ (t : List ℕ). first ++ t) (append_assoc second (flat_map next rest) (10 ∷ []))
    ∙ ap (λ (t : List ℕ). first ++ (second ++ (t ++ 10 ∷ []))) (tail_parts shown row)
    ∙ ap (λ (t : List ℕ). first ++ (second ++ t)) (append_assoc cells (sums ++ next_number row.flows) (10 ∷ []))
    ∙ ap (λ (t : List ℕ). first ++ (second ++ (cells ++ t))) (append_assoc sums (next_number row.flows) (10 ∷ []))

pub six_parts : (o p q r s t u a b c d e f : List ℕ) → p ≡ o ++ a → q ≡ p ++ b → r ≡ q ++ c → s ≡ r ++ d → t ≡ s ++ e → u ≡ t ++ f → u ≡ o ++ (a ++ (b ++ (c ++ (d ++ (e ++ f)))))
six_parts o p q r s t u a b c d e f is_p is_q is_r is_s is_t is_u = rw (is_u, is_t, is_s, is_r, is_q, is_p) (simp append_assoc)

-- a line whose fields after the first two were appended one after another
pub line_appended : (intervals : Intervals) (plan : PlanValue) (row : Row) (ks : List Key) (cs : List Cell) (vs o q r s t u : List ℕ) → ks ≡ plan.keys → cs ≡ row.key.items → vs ≡ row.sums.items → q ≡ o ++ interval_texts intervals plan row.interval
    → r ≡ q ++ flat_map next_cell (shown_cells ks cs) → s ≡ r ++ flat_map next_number vs → t ≡ s ++ next_number row.flows → u ≡ t ++ 10 ∷ [] → u ≡ o ++ row_line_in intervals plan (value_of row)
line_appended intervals plan row ks cs vs o q r s t u is_ks is_cs is_vs is_q is_r is_s is_t is_u =
    let first = decimal (first_in intervals plan row.interval) in
    let last = next_number (last_in intervals plan row.interval) in
    let cells : flat_map next_cell (shown_cells ks cs) ≡ flat_map next_cell (shown_cells plan.keys row.key.items) = ap₂ (λ (keys : List Key) (found : List Cell). flat_map next_cell (shown_cells keys found)) is_ks is_cs in
    let sums : flat_map next_number vs ≡ flat_map next_number row.sums.items = ap (flat_map next_number) is_vs in
    six_parts o (o ++ first) q r s t u first last (flat_map next_cell (shown_cells plan.keys row.key.items)) (flat_map next_number row.sums.items)
    (next_number row.flows) (10 ∷ []) refl (is_q ∙ sym (append_assoc o first last)) (is_r ∙ ap (λ (x : List ℕ). q ++ x) cells)
    (is_s ∙ ap (λ (x : List ℕ). r ++ x) sums) is_t is_u
    ∙ ap (λ (x : List ℕ). o ++ x) (sym (row_parts intervals plan (value_of row)))
