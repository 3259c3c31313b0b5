-- What is looked up in the value of a row's line.
use Rattle.std.proofs.Common.{◌≡◌, ℕ, zero, suc, ◌<◌, ◌≤◌, ◌^◌, ◌*◌, ◌+◌, ◌-◌, false, List, [], ◌∷◌, ◌++◌, length, map, Some, None, refl, sym, arith, inl, inr}
use Rattle.std.specs.Prelude.{◌≢◌, All, AllPairs}
use Rattle.std.specs.List.{AllZip, zip}
use Rattle.std.specs.Str.{bytes_eq}
use Rattle.std.proofs.lemmas.Bool.{cases_Bool}
use Rattle.std.proofs.lemmas.List.{length-append, length-map}
use Rattle.std.proofs.lemmas.List.Elements.{All-append, All-cons, All-head, All-nil, All-tail}
use Rattle.std.proofs.lemmas.Slice.Eq.{bytes_eq-Decides}
use Rattle.json.specs.Find.{get_member}
use Rattle.json.specs.Json.{Json, Members, member, object}
use Rattle.ipfix_elements.specs.declared.kind.Kind.{Kind}
use Rattle.ipfix_elements.specs.declared.kind.Kind.TheVariants as kinds
use Rattle.ipfix_elements.specs.declared.kind.Width.TheVariants.{One, Two, Four, Eight}
use Rattle.ipfix_elements.specs.declared.cell.Cell.{Cell}
use Rattle.ipfix_elements.specs.declared.cell.Cell.TheVariants.{Number, Ipv4, Ipv6, Mac}
use Rattle.flow_table.specs.declared.table.Row.{Row}
use Rattle.flow_table.specs.Fitting.{FitsKeys, FitsRow, IsCellOf}
use Rattle.flow_table.specs.Plans.{IsPlan, PlanValue}
use Rattle.flow_table.specs.SameTables.{value_of}
use Rattle.element_registry.specs.Registries.{Known}
use Rattle.flow_export.specs.CsvText.{first_of, heading, last_of}
use Rattle.laws_json.specs.Objects.{members_of, value_of_cell}
use Rattle.laws_json.specs.RowObjects.{columns, FitsHeading, NamesContext, object_of_row}
use Rattle.laws_json.specs.Told.{HasMember, TellsCell, TellsRow}
use Rattle.laws_json.proofs.Names.{names_differ}
use Rattle.flow_export.specs.Shown.{shown_cells}
use Rattle.flow_export.proofs.ShownKeys.{shown_length}
use Rattle.laws_json.proofs.ShownCells.{all_shown}
use Rattle.laws_json.proofs.Told.{cell_tells, HasRoom}

-- ---- looking up by names that differ

abbrev values : List (List ℕ) → List Cell → Members
values names cells = members_of (zip names (map value_of_cell cells))

not_equal : (a b : List ℕ) → a ≢ b → bytes_eq b a ≡ false
not_equal a b other = elim (cases_Bool (bytes_eq b a)) [
  | inl t ↦ absurd (other (sym ((bytes_eq-Decides b a).0 t)))
  | inr f ↦ f
]

none_there : (name : List ℕ) (names : List (List ℕ)) (cells : List Cell) → All (λ other. name ≢ other) names → get_member name (values names cells) ≡ None
none_there name [] cells other = refl
none_there name (n ∷ ns) [] other = refl
none_there name (n ∷ ns) (c ∷ cs) other =
    rw (none_there name ns cs (All-tail (λ o. name ≢ o) n ns other), not_equal name n (All-head (λ o. name ≢ o) n ns other)) refl

first_there : (name : List ℕ) (value : Json) (rest : Members) → get_member name rest ≡ None → get_member name (member name value rest) ≡ Some value
first_there name value rest none = rw (none, (bytes_eq-Decides name name).1 refl) refl

-- a member after another one is still found
still_there : (name first : List ℕ) (value found : Json) (rest : Members) → get_member name rest ≡ Some found → get_member name (member first value rest) ≡ Some found
still_there name first value found rest there = rw there refl

behind : (first : List ℕ) (value : Json) (rest : Members) (names : List (List ℕ)) (cells : List Cell)
    → AllZip (λ name cell. HasMember name (TellsCell cell) (object rest)) names cells → AllZip (λ name cell. HasMember name (TellsCell cell) (object (member first value rest))) names cells
behind first value rest [] [] all = tt
behind first value rest [] (c ∷ cs) all = absurd all
behind first value rest (n ∷ ns) [] all = absurd all
behind first value rest (n ∷ ns) (c ∷ cs) all =
    let found = all.0 in
    ((found.0, still_there n first value found.0 rest found.1, found.2), behind first value rest ns cs all.1)

columns_tell : (names : List (List ℕ)) (cells : List Cell) → length names ≡ length cells → AllPairs (λ a b. a ≢ b) names → All HasRoom cells
    → AllZip (λ name cell. HasMember name (TellsCell cell) (object (values names cells))) names cells
columns_tell [] [] same differ room = tt
columns_tell [] (c ∷ cs) same differ room = absurd (omega (arith, same))
columns_tell (n ∷ ns) [] same differ room = absurd (omega (arith, same))
columns_tell (n ∷ ns) (c ∷ cs) same differ room =
    let others : All (λ o. n ≢ o) ns = λ k d within. differ 0 (suc k) d (omega arith) (omega arith) in
    let later : AllPairs (λ a b. a ≢ b) ns = λ i j d less within. differ (suc i) (suc j) d (omega arith) (omega arith) in
    let rest = columns_tell ns cs (omega (arith, same)) later (All-tail HasRoom c cs room) in
    let first = first_there n (value_of_cell c) (values ns cs) (none_there n ns cs others) in
    ((value_of_cell c, first, cell_tells c (All-head HasRoom c cs room)), behind n (value_of_cell c) (values ns cs) ns cs rest)

-- ---- rows that fit

cell_room : (kind : Kind) (c : Cell) → IsCellOf kind c → HasRoom c
cell_room (kinds.Unsigned One) (Number n) fits = omega (arith, fits)
cell_room (kinds.Unsigned Two) (Number n) fits = omega (arith, fits)
cell_room (kinds.Unsigned Four) (Number n) fits = omega (arith, fits)
cell_room (kinds.Unsigned Eight) (Number n) fits = omega (arith, fits)
cell_room kinds.Ipv4 (Number n) fits = absurd fits
cell_room kinds.Ipv6 (Number n) fits = absurd fits
cell_room kinds.Mac (Number n) fits = absurd fits
cell_room kinds.Seconds (Number n) fits = absurd fits
cell_room kinds.Millis (Number n) fits = absurd fits
cell_room kinds.Octets (Number n) fits = absurd fits
cell_room kind (Ipv4 address) fits = tt
cell_room kind (Ipv6 address) fits = tt
cell_room kind (Mac address) fits = tt

kinds_room : (kinds : List Kind) (cs : List Cell) → AllZip IsCellOf kinds cs → All HasRoom cs × (length kinds ≡ length cs)
kinds_room [] [] fits = (All-nil HasRoom, refl)
kinds_room [] (c ∷ cs) fits = absurd fits
kinds_room (kind ∷ kinds) [] fits = absurd fits
kinds_room (kind ∷ kinds) (c ∷ cs) fits =
    let rest = kinds_room kinds cs fits.1 in
    (All-cons HasRoom c cs (cell_room kind c fits.0) rest.0, omega (arith, rest.1))

key_room : (plan : PlanValue) (cs : List Cell) → FitsKeys plan cs → All HasRoom cs × (length plan.keys ≡ length cs)
key_room plan cs fits =
    let room = kinds_room plan.kinds cs fits.fit in
    (room.0, omega (arith, fits.beside, room.1))

numbers_room : (ns : List ℕ) (last : ℕ) → All (λ n. n < 2 ^ 64) ns → last < 2 ^ 64 → All HasRoom (map (λ n. Number n) ns ++ Number last ∷ [])
numbers_room [] last small fits = All-cons HasRoom (Number last) [] fits (All-nil HasRoom)
numbers_room (n ∷ ns) last small fits =
    All-cons HasRoom (Number n) (map (λ n. Number n) ns ++ Number last ∷ []) (All-head (λ n. n < 2 ^ 64) n ns small) (numbers_room ns last (All-tail (λ n. n < 2 ^ 64) n ns small) fits)

times_room : (i l : ℕ) → i * l < 2 ^ 50 → l < 2 ^ 64 → (i * l < 2 ^ 64) × (i * l + l - 1 < 2 ^ 64)
times_room zero l start small = (omega (arith, start), omega (arith, small))
times_room (suc i) l start small =
    let long : l ≤ suc i * l = grind arith in
    (omega (arith, start), omega (arith, start, long))

pub row_tells : (known : List Known) (plan : PlanValue) (row : Row) → FitsHeading known → NamesContext known plan → IsPlan plan → plan.length < 2 ^ 64 → FitsRow plan row → TellsRow known plan (value_of row) (object_of_row known plan (value_of row))
row_tells known plan row heads own is small fits =
    let key = key_room plan row.key.items fits.key in
    let shown = shown_cells plan.keys row.key.items in
    let times = times_room row.interval plan.length fits.interval small in
    let numbers = numbers_room row.sums.items row.flows fits.small fits.few in
    let last : List Cell = map (λ n. Number n) row.sums.items ++ Number row.flows ∷ [] in
    let room : All HasRoom (columns plan (value_of row)) =
    All-cons HasRoom (Number (first_of plan (value_of row))) (Number (last_of plan (value_of row)) ∷ (shown ++ last)) times.0
    (All-cons HasRoom (Number (last_of plan (value_of row))) (shown ++ last) times.1 (All-append HasRoom shown last (all_shown HasRoom (λ address has. tt) plan.keys row.key.items key.0) numbers)) in
    let same : length (heading known plan) ≡ length (columns plan (value_of row)) = simp (length-append, length-map) (omega (arith, shown_length plan.keys row.key.items, key.1, fits.sums)) in
    columns_tell (heading known plan) (columns plan (value_of row)) same (names_differ known heads plan own is) room
