-- The line of a row whose sum is too large, piece by piece.
use Rattle.std.proofs.Common.{◌≡◌, ℕ, zero, suc, ◌+◌, ◌*◌, ◌<◌, ◌≤◌, ◌^◌, List, [], ◌∷◌, ◌++◌, length, get_or, map, take, Option, refl, sym, ap, subst, ◌∙◌, append_assoc, arith, mul-le-mul}
use Rattle.std.specs.Prelude.{codes, slice_get}
use Rattle.std.specs.Option.{option_map_or}
use Rattle.std.specs.Io.KnownBytes.{Appends}
use Rattle.std.proofs.KnownBytes.{Appends-trans}
use Rattle.std.proofs.lemmas.Grind.{flat_map-append}
use Rattle.std.proofs.lemmas.List.{append-nil, get_or_default, take_more}
use Rattle.std.specs.Fmt.{decimal}
use Rattle.std.specs.List.{flat_map}
use Rattle.ipfix_elements.specs.Texts.{cell_text}
use Rattle.ipfix_elements.specs.declared.cell.Cell.{Cell}
use Rattle.flow_table.specs.Plans.{PlanValue}
use Rattle.flow_table.specs.declared.key.Key.{Key}
use Rattle.flow_table.specs.declared.table.RowPlace.{RowPlace}
use Rattle.flow_export.specs.Intervals.{first_in, last_in}
use Rattle.flow_export.specs.Shown.{shown_cell, shown_cells}
use Rattle.flow_export.specs.Written.{next_cell}
use Rattle.flow_export.specs.declared.intervals.Intervals.TheVariants.{OfPlan}
use Rattle.flow_export.proofs.Lines.{behind_commas, next}
use Rattle.flow_export.proofs.ShownKeys.{shown_length}
use Rattle.command_collect.specs.Large.{interval_start, interval_text, next_cells, row_line}

each_cell : (cells : List Cell) → flat_map next (map cell_text cells) ≡ flat_map next_cell cells
each_cell [] = refl
each_cell (c ∷ cells) = ap (λ (t : List ℕ). (44 ∷ cell_text c) ++ t) (each_cell cells)

pub row_parts : (plan : PlanValue) (row : RowPlace)
    → row_line plan row ≡ interval_start plan row.interval ++ (next_cells plan.keys row.key.items ++ codes "\n")
unfolding interval_text
row_parts plan row =
    let first = decimal (first_in OfPlan plan row.interval) in
    let last = decimal (last_in OfPlan plan row.interval) in
    let cells = shown_cells plan.keys row.key.items in
    let start = codes "collectd: collect: too large: " in
    ap (λ (t : List ℕ). start ++ (t ++ 10 ∷ [])) (behind_commas first (last ∷ map cell_text cells) ∙ ap (λ (t : List ℕ). first ++ (44 ∷ (last ++ t))) (each_cell cells))
    ∙ ap (λ (t : List ℕ). start ++ t) (append_assoc first (44 ∷ (last ++ flat_map next_cell cells)) (10 ∷ []) ∙ ap (λ (t : List ℕ). first ++ (44 ∷ t)) (append_assoc last (flat_map next_cell cells) (10 ∷ [])))
    ∙ sym (append_assoc start (first ++ (44 ∷ last)) (flat_map next_cell cells ++ 10 ∷ []) ∙ ap (λ (t : List ℕ). start ++ t) (append_assoc first (44 ∷ last) (flat_map next_cell cells ++ 10 ∷ [])))

-- a number of an interval times its length, in 128 bits
pub millis_fit : (interval long : ℕ) → interval < 2 ^ 64 → long < 2 ^ 32 → interval * long ≤ 2 ^ 64 * 2 ^ 32
millis_fit interval long few short =
    let most : interval ≤ 2 ^ 64 = omega (arith, few) in
    let longest : long ≤ 2 ^ 32 = omega (arith, short) in
    mul-le-mul most longest

-- ---- the key

-- a cell as it is shown, under the key of its place, if there is one
shown_there : (ks : List Key) (cs : List Cell) (i : ℕ) (c d : Cell) → i < length cs → get_or (shown_cells ks cs) i d ≡ option_map_or (λ (k : Key). shown_cell k (get_or cs i c)) (slice_get ks i) (get_or cs i c)
shown_there [] cs i c d inside = get_or_default cs i d c inside
shown_there (k ∷ ks) [] i c d inside = absurd (omega (arith, inside))
shown_there (k ∷ ks) (e ∷ cs) zero c d inside = refl
shown_there (k ∷ ks) (e ∷ cs) (suc i) c d inside = shown_there ks cs i c d (omega (arith, inside))

-- one more cell, after those that were written
pub cell_told : (o p q : Option (List ℕ)) (ks : List Key) (cs : List Cell) (i : ℕ) (c x : Cell) → i < length cs → x ≡ option_map_or (λ (k : Key). shown_cell k (get_or cs i c)) (slice_get ks i) (get_or cs i c)
    → Appends o p (flat_map next_cell (take i (shown_cells ks cs))) → Appends p q (next_cell x) → Appends o q (flat_map next_cell (take (i + 1) (shown_cells ks cs)))
cell_told o p q ks cs i c x inside is before then =
    let shown = shown_cells ks cs in
    let within : i < length shown = omega (arith, inside, shown_length ks cs) in
    let same : get_or shown i x ≡ x = shown_there ks cs i c x inside ∙ sym is in
    let more : flat_map next_cell (take (i + 1) shown) ≡ flat_map next_cell (take i shown) ++ next_cell x =
    ap (flat_map next_cell) (take_more shown i x within ∙ ap (λ (y : Cell). take i shown ++ y ∷ []) same) ∙ flat_map-append next_cell (take i shown) (x ∷ []) ∙ ap (λ (t : List ℕ). flat_map next_cell (take i shown) ++ t) (append-nil (next_cell x)) in
    subst (Appends o q) (sym more) (Appends-trans o p q (flat_map next_cell (take i shown)) (next_cell x) before then)
