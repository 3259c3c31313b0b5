-- What is exported of a table is an export of its rows.
use Rattle.std.proofs.Common.{◌≡◌, ℕ, ◌^◌, ◌<◌, Bool, true, List, [], ◌∷◌, length, map, filter, All, refl, sym, ap, subst, inl, inr, arith}
use Rattle.std.specs.Prelude.{sum_by}
use Rattle.std.specs.List.{range_with_len}
use Rattle.std.proofs.lemmas.Bool.{cases_Bool, cond-false}
use Rattle.std.proofs.lemmas.List.Sums.{sum_by-cons}
use Rattle.std.proofs.lemmas.List.Elements.{All-nil, All-cons, All-head, All-tail}
use Rattle.ipfix_elements.specs.declared.cell.Cell.{Cell}
use Rattle.ipfix_message.specs.Domains.{Message}
use Rattle.ipfix_message.specs.declared.record.DataRecord.{DataRecord}
use Rattle.ipfix_session.specs.Given.{Given, gives}
use Rattle.ipfix_session.specs.Ledger.{capped, domain_report}
use Rattle.flow_table.specs.AddedUp.{rows_in}
use Rattle.flow_table.specs.Fitting.{FitsPlan, FitsRow}
use Rattle.flow_table.specs.Plans.{PlanValue}
use Rattle.flow_table.specs.SameTables.{RowValue, value_of}
use Rattle.flow_table.specs.Tables.{contributes, flows_at, IsRow, IsTable}
use Rattle.flow_table.specs.declared.table.Row.{Row}
use Rattle.flow_table.specs.declared.table.Table.{Table}
use Rattle.flow_table.proofs.Fits.{contributes_at}
use Rattle.flow_export.specs.IpfixText.{ipfix_text, message_count}
use Rattle.flow_export.proofs.PlanFacts.{has_room}
use Rattle.laws_export.specs.ReadBack.{row_record, CanBeExported}
use Rattle.laws_export.proofs.Hundreds.{read_hundred, read_all, text_gives}
use Rattle.laws_export.proofs.ReadAll.{read_all_back}
use Rattle.laws_export.proofs.Room.{CanBeWritten}
use Rattle.laws_export.proofs.Tables.{can_be_exported}
use Rattle.flow_merge.specs.Merging.{AreOfExport, AreRowRecords, IsExport, LosesNone}
use Rattle.laws_merge.specs.Exports.{IsExportOf}
use Rattle.flow_merge.specs.RowRecords.{AreProjected, IsRowOf, IsRowRecord}
use Rattle.laws_merge.proofs.PrefixBits.{cells_projected}
use Rattle.flow_merge.proofs.Reported.{nothing_is}

-- ---- the rows

some_passes : {X : Type 0} (p : X → Bool) (xs : List X) → 0 < length (filter p xs) → (x : X) × (p x ≡ true)
some_passes p [] some = absurd (omega arith)
some_passes p (x ∷ xs) some =
    elim (cases_Bool (p x)) [
      | inl does ↦ (x, does)
      | inr doesnt ↦
          let others : filter p (x ∷ xs) ≡ filter p xs = cond-false (p x) (x ∷ filter p xs) (filter p xs) doesnt in
          some_passes p xs (rw others at some)
    ]

key_projected : (plan : PlanValue) (rs : List DataRecord) (k : ℕ) (key : List Cell) → length plan.kinds ≡ length plan.keys → 0 < flows_at plan rs k key → AreProjected plan.keys key
unfolding flows_at
key_projected plan rs k key beside some =
    let one = some_passes (contributes plan k key) rs some in
    cells_projected plan.keys plan.kinds one.0 key beside (contributes_at plan k key one.0 one.1).2

row_of_plan : (plan : PlanValue) (rs : List DataRecord) (row : Row) → plan.length < 2 ^ 32 → FitsRow plan row → IsRow plan rs row → IsRowOf plan (value_of row)
row_of_plan plan rs row short fits is =
    record {
      interval = fits.interval;
      end = let begins = fits.interval in omega (arith, begins, short);
      fits = record { key = fits.key; sums = fits.sums };
      projected = key_projected plan rs row.interval row.key.items fits.key.beside is.some;
      small = fits.small;
      some = let flows = is.flows in let some = is.some in omega (arith, flows, some);
      few = fits.few;
    }

rows_of_plan : (plan : PlanValue) (rs : List DataRecord) (rows : List Row) → plan.length < 2 ^ 32 → All (FitsRow plan) rows → All (IsRow plan rs) rows → All (IsRowOf plan) (map value_of rows)
rows_of_plan plan rs [] short fit are = All-nil (IsRowOf plan)
rows_of_plan plan rs (row ∷ rows) short fit are =
    All-cons (IsRowOf plan) (value_of row) (map value_of rows) (row_of_plan plan rs row short (All-head (FitsRow plan) row rows fit) (All-head (IsRow plan rs) row rows are))
    (rows_of_plan plan rs rows short (All-tail (FitsRow plan) row rows fit) (All-tail (IsRow plan rs) row rows are))

pub table_rows : (plan : PlanValue) (rs : List DataRecord) (table : Table) → plan.length < 2 ^ 32 → FitsPlan plan table → IsTable plan rs table → All (IsRowOf plan) (rows_in table)
table_rows plan rs table short fits is = rows_of_plan plan rs table.rows.items short fits.rows is.rows

-- ---- their records

pub own_record : (plan : PlanValue) (time : ℕ) (row : RowValue) → IsRowOf plan row → IsRowRecord plan (row_record plan time row) row
own_record plan time row is = record { of_template = record { domain = refl; template = refl; scope = refl }; fields = refl; of_plan = is }

own_records : (plan : PlanValue) (time : ℕ) (rows : List RowValue) → All (IsRowOf plan) rows → AreRowRecords plan (map (row_record plan time) rows) rows
own_records plan time [] are = tt
own_records plan time (row ∷ rows) are = (own_record plan time row (All-head (IsRowOf plan) row rows are), own_records plan time rows (All-tail (IsRowOf plan) row rows are))

-- ---- their messages

none_over : {X : Type 0} (f : Message → ℕ) (g : X → Message) (xs : List X) → ((x : X) → f (g x) ≡ 0) → sum_by f (map g xs) ≡ 0
none_over f g [] none = refl
none_over f g (x ∷ xs) none =
    omega (arith, sum_by-cons f (g x) (map g xs), none x, none_over f g xs none)

all_of_export : (plan : PlanValue) (time : ℕ) (rows : List RowValue) → AreOfExport (read_all plan time rows)
all_of_export plan time rows =
    let none = λ (f : Message → ℕ) (each : (i : ℕ) → f (read_hundred plan time rows i) ≡ 0). ap capped (none_over f (read_hundred plan time rows) (range_with_len 0 (message_count rows)) each) in
    record {
      some = omega arith;
      whole = nothing_is _ _ _ (none (λ m. m.decoding.passed_over.skipped_sets) (λ i. refl)) (none (λ m. m.decoding.passed_over.unknown_sets) (λ i. refl)) (none (λ m. m.decoding.passed_over.ignored_withdrawals) (λ i. refl));
    }

each_one : {X : Type 0} {P : X → Type 0} → ((x : X) → P x) → (xs : List X) → All P xs
each_one {P} each [] = All-nil P
each_one {P} each (x ∷ xs) = All-cons P x xs (each x) (each_one each xs)

text_is_export : (plan : PlanValue) (time : ℕ) (rows : List RowValue) → CanBeExported plan time rows → All (IsRowOf plan) rows → IsExport plan (ipfix_text plan time rows) rows
text_is_export plan time rows export are =
    let can : CanBeWritten plan time rows = record { room = has_room plan export.is_plan; small_time = export.small_time; few = export.few; fit = export.fit } in
    let back = read_all_back plan time rows export in
    let each : (domain : ℕ) → LosesNone (domain_report (gives (ipfix_text plan time rows)).messages domain) = λ domain. (back.lost domain, back.backward domain) in
    record {
      clean = back.stop;
      messages = subst AreOfExport (sym (ap (λ (g : Given). g.messages) (text_gives plan time rows can))) (all_of_export plan time rows);
      none_lost = each_one each _;
      records = subst (λ (l : List DataRecord). AreRowRecords plan l rows) (sym back.records) (own_records plan time rows are);
    }

pub export_is_export : (plan : PlanValue) (rs : List DataRecord) (table : Table) (text : List ℕ) → IsExportOf plan rs table text → IsExport plan text (rows_in table)
export_is_export plan rs table text export =
    subst (λ (w : List ℕ). IsExport plan w (rows_in table)) (sym export.octets)
    (text_is_export plan export.time (rows_in table) (can_be_exported plan table export.time export.is_plan export.fits export.small_time export.few) (table_rows plan rs table export.short export.fits export.is_table))
