-- The octets of a row, part by part.
use Rattle.std.proofs.Common.{◌≡◌, ℕ, zero, suc, ◌+◌, ◌<◌, ◌≤◌, List, [], ◌∷◌, ◌++◌, length, map, get_or, take, refl, sym, ap, ◌∙◌, append_assoc, add-one, arith}
use Rattle.std.specs.List.{zip, flat_map, AllZip}
use Rattle.std.proofs.lemmas.List.{append-nil, take_all}
use Rattle.std.proofs.lemmas.Grind.{flat_map-append}
use Rattle.ipfix_wire.specs.declared.specifier.ElementId.{ElementId}
use Rattle.ipfix_elements.specs.declared.cell.Cell.{Cell}
use Rattle.ipfix_elements.specs.declared.kind.Kind.{Kind}
use Rattle.ipfix_message.specs.Fields.{Field}
use Rattle.flow_table.specs.declared.key.Key.{Key}
use Rattle.flow_table.specs.Fitting.{IsCellOf}
use Rattle.flow_table.specs.Plans.{PlanValue, keys_and_kinds}
use Rattle.flow_table.specs.SameTables.{RowValue, value_of}
use Rattle.flow_table.specs.declared.table.Row.{Row}
use Rattle.ipfix_elements.specs.Placed.{Placed}
use Rattle.ipfix_elements.proofs.Places.{placed_as, then_placed}
use Rattle.flow_export.specs.Fitting.{FitsValue, IsExportable}
use Rattle.flow_export.specs.IpfixText.{key_field, number_field, number_octets, row_octets_in}
use Rattle.flow_export.specs.Intervals.{first_in, last_in}
use Rattle.flow_export.specs.declared.intervals.Intervals.{Intervals}
use Rattle.flow_export.specs.RowOctets.{wide_octets, cells_octets}

-- ---- cells and their kinds

pub same_length : (ks : List Kind) (cs : List Cell) → AllZip IsCellOf ks cs → length ks ≡ length cs
same_length [] [] fits = refl
same_length [] (c ∷ cs) fits = absurd fits
same_length (k ∷ ks) [] fits = absurd fits
same_length (k ∷ ks) (c ∷ cs) fits = omega (arith, same_length ks cs fits.1)

pub cell_at : (ks : List Kind) (cs : List Cell) (i : ℕ) (k : Kind) (c : Cell) → AllZip IsCellOf ks cs → i < length cs → IsCellOf (get_or ks i k) (get_or cs i c)
cell_at [] [] i k c fits inside = absurd (omega (arith, inside))
cell_at [] (d ∷ cs) i k c fits inside = absurd fits
cell_at (j ∷ ks) [] i k c fits inside = absurd fits
cell_at (j ∷ ks) (d ∷ cs) zero k c fits inside = fits.0
cell_at (j ∷ ks) (d ∷ cs) (suc i) k c fits inside = cell_at ks cs i k c fits.1 (omega (arith, inside))

pub cells_more : (ks : List Kind) (cs : List Cell) (i : ℕ) (k : Kind) (c : Cell) → AllZip IsCellOf ks cs → i < length cs
    → cells_octets (take (suc i) ks) (take (suc i) cs) ≡ cells_octets (take i ks) (take i cs) ++ wide_octets (get_or ks i k, get_or cs i c)
cells_more [] [] i k c fits inside = absurd (omega (arith, inside))
cells_more [] (d ∷ cs) i k c fits inside = absurd fits
cells_more (j ∷ ks) [] i k c fits inside = absurd fits
cells_more (j ∷ ks) (d ∷ cs) zero k c fits inside = append-nil (wide_octets (j, d))
cells_more (j ∷ ks) (d ∷ cs) (suc i) k c fits inside =
    ap (λ (t : List ℕ). wide_octets (j, d) ++ t) (cells_more ks cs i k c fits.1 (omega (arith, inside)))
    ∙ sym (append_assoc (wide_octets (j, d)) (cells_octets (take i ks) (take i cs)) (wide_octets (get_or ks i k, get_or cs i c)))

-- one more cell, after those that were written
pub cell_placed : {a b c : List ℕ} {at j k : ℕ} (ks : List Kind) (cs : List Cell) (i : ℕ) (kind : Kind) (cell : Cell) → AllZip IsCellOf ks cs → i < length cs
    → Placed a b at (cells_octets (take i ks) (take i cs)) j → Placed b c j (wide_octets (get_or ks i kind, get_or cs i cell)) k → Placed a c at (cells_octets (take (i + 1) ks) (take (i + 1) cs)) k
cell_placed ks cs i kind cell fits inside p q = placed_as (sym (cells_more ks cs i kind cell fits inside) ∙ rw (add-one i) refl) (then_placed p q)

pub cells_placed : {a b : List ℕ} {at j : ℕ} (ks : List Kind) (cs : List Cell) (i : ℕ) → AllZip IsCellOf ks cs → length cs ≤ i → Placed a b at (cells_octets (take i ks) (take i cs)) j → Placed a b at (cells_octets ks cs) j
cells_placed ks cs i fits all p = rw (take_all i cs all, take_all i ks (omega (arith, all, same_length ks cs fits))) at p

-- ---- a row

abbrev octets_in : List Field → List ℕ
octets_in fields = flat_map (λ f. f.octets) fields

key_parts : (ks : List Key) (kinds : List Kind) (cs : List Cell) → length kinds ≡ length ks → octets_in (map key_field (zip (zip ks kinds) cs)) ≡ cells_octets kinds cs
key_parts [] [] cs beside = refl
key_parts [] (kind ∷ kinds) cs beside = absurd (omega (arith, beside))
key_parts (k ∷ ks) [] cs beside = absurd (omega (arith, beside))
key_parts (k ∷ ks) (kind ∷ kinds) [] beside = refl
key_parts (k ∷ ks) (kind ∷ kinds) (c ∷ cs) beside = ap (λ (t : List ℕ). wide_octets (kind, c) ++ t) (key_parts ks kinds cs (omega (arith, beside)))

sum_parts : (es : List ElementId) (vs : List ℕ) → length vs ≡ length es → octets_in (map number_field (zip es vs)) ≡ flat_map number_octets vs
sum_parts [] [] same = refl
sum_parts [] (v ∷ vs) same = absurd (omega (arith, same))
sum_parts (e ∷ es) [] same = absurd (omega (arith, same))
sum_parts (e ∷ es) (v ∷ vs) same = ap (λ (t : List ℕ). number_octets v ++ t) (sum_parts es vs (omega (arith, same)))

-- the times, the cells of the key, the sums and the number of flows
pub row_parts : (intervals : Intervals) (plan : PlanValue) (row : RowValue) → FitsValue plan row
    → row_octets_in intervals plan row ≡ number_octets (first_in intervals plan row.interval) ++ (number_octets (last_in intervals plan row.interval) ++ (cells_octets plan.kinds row.key ++ (flat_map number_octets row.sums ++ number_octets row.flows)))
row_parts intervals plan row fits =
    let keys = map key_field (zip (keys_and_kinds plan) row.key) in
    let sums = map number_field (zip plan.counters row.sums) in
    let split : octets_in (keys ++ (sums ++ number_field (record { pen = 0; number = 375 }, row.flows) ∷ [])) ≡ cells_octets plan.kinds row.key ++ (flat_map number_octets row.sums ++ number_octets row.flows) =
    flat_map-append (λ f. f.octets) keys (sums ++ number_field (record { pen = 0; number = 375 }, row.flows) ∷ [])
    ∙ ap (λ (t : List ℕ). t ++ octets_in (sums ++ number_field (record { pen = 0; number = 375 }, row.flows) ∷ [])) (key_parts plan.keys plan.kinds row.key fits.key.beside)
    ∙ ap (λ (t : List ℕ). cells_octets plan.kinds row.key ++ t)
    (flat_map-append (λ f. f.octets) sums (number_field (record { pen = 0; number = 375 }, row.flows) ∷ [])
    ∙ ap (λ (t : List ℕ). t ++ (number_octets row.flows ++ [])) (sum_parts plan.counters row.sums fits.sums)
    ∙ ap (λ (t : List ℕ). flat_map number_octets row.sums ++ t) (append-nil (number_octets row.flows))) in
    ap (λ (t : List ℕ). number_octets (first_in intervals plan row.interval) ++ (number_octets (last_in intervals plan row.interval) ++ t)) split

-- its five parts, one after another
pub row_placed : {a b c d e f : List ℕ} {i j k m n o : ℕ} (intervals : Intervals) (plan : PlanValue) (row : Row) (start end : ℕ) (ks : List Kind) (cs : List Cell) (vs : List ℕ) → IsExportable plan (value_of row)
    → start ≡ first_in intervals plan row.interval → end ≡ last_in intervals plan row.interval → ks ≡ plan.kinds → cs ≡ row.key.items → vs ≡ row.sums.items
    → Placed a b i (number_octets start) j → Placed b c j (number_octets end) k → Placed c d k (cells_octets ks cs) m → Placed d e m (flat_map number_octets vs) n
    → Placed e f n (number_octets row.flows) o → Placed a f i (row_octets_in intervals plan (value_of row)) o
row_placed intervals plan row start end ks cs vs fits is_start is_end is_ks is_cs is_vs first last key sums flows =
    let whole : number_octets start ++ (number_octets end ++ (cells_octets ks cs ++ (flat_map number_octets vs ++ number_octets row.flows))) ≡ row_octets_in intervals plan (value_of row) =
    rw (is_start, is_end, is_ks, is_cs, is_vs) (sym (row_parts intervals plan (value_of row) fits.fields)) in
    placed_as whole (then_placed first (then_placed last (then_placed key (then_placed sums flows))))
