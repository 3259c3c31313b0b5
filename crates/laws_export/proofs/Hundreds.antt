-- The messages of the rows, a hundred rows each, are read one after another.
use Rattle.std.proofs.Common.{◌≡◌, ℕ, zero, suc, ◌+◌, ◌*◌, ◌^◌, ◌<◌, ◌≤◌, List, [], ◌∷◌, ◌++◌, length, map, drop, All, Ok, refl, sym, ap, ◌∙◌, arith}
use Rattle.std.specs.Prelude.{flat_map}
use Rattle.std.specs.List.{range_with_len}
use Rattle.std.proofs.lemmas.List.{length-take, take-append-drop, drop-drop, drop_all, map-append}
use Rattle.std.proofs.lemmas.List.Elements.{All-take, All-drop}
use Rattle.ipfix_message.specs.DataRecords.{record_of}
use Rattle.ipfix_message.specs.declared.record.DataRecord.{DataRecord}
use Rattle.ipfix_message.specs.Domains.{History, Message, admit}
use Rattle.ipfix_session.specs.declared.stop.Stop.TheVariants.{Clean}
use Rattle.ipfix_session.specs.MessageStream.{next_message}
use Rattle.ipfix_session.specs.Given.{Given, gives_after, gives, behind, records_in}
use Rattle.ipfix_session.proofs.Giving.{gives_after-stop}
use Rattle.flow_table.specs.Plans.{PlanValue}
use Rattle.flow_table.specs.SameTables.{RowValue}
use Rattle.flow_export.specs.IpfixText.{template, template_octets, row_fields, row_octets, data_message, message_count, rows_of_message, ipfix_text}
use Rattle.flow_export.specs.Fitting.{FitsValue}
use Rattle.laws_export.specs.ReadBack.{row_record}
use Rattle.flow_export.proofs.Lengths.{length-template}
use Rattle.flow_export.proofs.Room.{HasRoom}
use Rattle.laws_export.proofs.Room.{CanBeWritten}
use Rattle.laws_export.proofs.OneMessage.{header, message_of, message_first}
use Rattle.laws_export.proofs.Bodies.{defined, after_template, template_gives, length-rows, with_rows, rows_give}

-- the history after the template
abbrev pub known : PlanValue → History
known plan = (0, defined plan ∷ []) ∷ []

abbrev body : PlanValue → List RowValue → List ℕ
body plan rows = flat_map (row_octets plan) rows

-- what the message of rows gives
abbrev pub read_rows : PlanValue → ℕ → ℕ → List RowValue → Message
read_rows plan time sequence rows = message_of (known plan) time sequence (body plan rows) (with_rows plan (header time sequence (length (body plan rows))) rows)

abbrev pub read_template : PlanValue → ℕ → Message
read_template plan time = message_of ((0, []) ∷ []) time 0 (template_octets (template plan)) (after_template plan)

admit_known : (plan : PlanValue) → admit (known plan) 0 ≡ Ok (known plan)
unfolding admit
admit_known plan = refl

admit_first : admit [] 0 ≡ Ok ((0, []) ∷ [])
unfolding admit
admit_first = refl

rows_first : (plan : PlanValue) (time sequence : ℕ) (rows : List RowValue) (rest : List ℕ) → HasRoom plan → time < 2 ^ 32 → sequence < 2 ^ 32 → length rows ≤ 100 → All (FitsValue plan) rows
    → gives_after (known plan) (data_message plan time sequence rows ++ rest) ≡ behind (read_rows plan time sequence rows ∷ []) (gives_after (known plan) rest)
rows_first plan time sequence rows rest room t s few all =
    let long = length-rows plan rows room all in
    message_first (known plan) (known plan) time sequence 256 (body plan rows) rest (with_rows plan (header time sequence (length (body plan rows))) rows)
    (record { small_time = t; small_sequence = s; small_id = omega arith; size = omega (arith, long, few) })
    (admit_known plan) (rows_give plan (header time sequence (length (body plan rows))) rows all)

-- ---- all of them

abbrev pub read_hundred : PlanValue → ℕ → List RowValue → ℕ → Message
read_hundred plan time rows i = read_rows plan time (100 * i) (rows_of_message rows i)

abbrev ends_clean : List Message → Given
ends_clean ms = record { messages = ms; stop = Clean }

nothing_left : (ds : History) → gives_after ds [] ≡ ends_clean []
unfolding next_message
nothing_left ds = gives_after-stop ds [] Clean refl

pub hundreds_give : (plan : PlanValue) (time : ℕ) (rows : List RowValue) (i n : ℕ) → CanBeWritten plan time rows → 100 * (i + n) ≤ length rows + 99
    → gives_after (known plan) (flat_map (λ j. data_message plan time (100 * j) (rows_of_message rows j)) (range_with_len i n)) ≡ ends_clean (map (read_hundred plan time rows) (range_with_len i n))
hundreds_give plan time rows i zero can within = nothing_left (known plan)
hundreds_give plan time rows i (suc n) can within =
    let rest = flat_map (λ j. data_message plan time (100 * j) (rows_of_message rows j)) (range_with_len (i + 1) n) in
    let small : 100 * i < 2 ^ 32 = omega (arith, within, can.few) in
    let few : length (rows_of_message rows i) ≤ 100 = omega (arith, length-take 100 (drop (100 * i) rows)) in
    let fit = All-take (FitsValue plan) 100 (drop (100 * i) rows) (All-drop (FitsValue plan) (100 * i) rows can.fit) in
    rows_first plan time (100 * i) (rows_of_message rows i) rest can.room can.small_time small few fit
    ∙ ap (behind (read_hundred plan time rows i ∷ [])) (hundreds_give plan time rows (i + 1) n can (omega (arith, within)))

abbrev pub read_all : PlanValue → ℕ → List RowValue → List Message
read_all plan time rows = read_template plan time ∷ map (read_hundred plan time rows) (range_with_len 0 (message_count rows))

pub text_gives : (plan : PlanValue) (time : ℕ) (rows : List RowValue) → CanBeWritten plan time rows → gives (ipfix_text plan time rows) ≡ ends_clean (read_all plan time rows)
text_gives plan time rows can =
    let rest = flat_map (λ j. data_message plan time (100 * j) (rows_of_message rows j)) (range_with_len 0 (message_count rows)) in
    let room = length-template plan can.room in
    message_first [] ((0, []) ∷ []) time 0 2 (template_octets (template plan)) rest (after_template plan)
    (record { small_time = can.small_time; small_sequence = omega arith; small_id = omega arith; size = omega (arith, room) })
    admit_first (template_gives plan (header time 0 (length (template_octets (template plan)))) can.room)
    ∙ ap (behind (read_template plan time ∷ [])) (hundreds_give plan time rows 0 (message_count rows) can (omega arith))

-- ---- their records

rows_as_records : (plan : PlanValue) (time sequence n : ℕ) (rows : List RowValue) → map (record_of (header time sequence n) (template plan)) (map (row_fields plan) rows) ≡ map (row_record plan time) rows
rows_as_records plan time sequence n [] = refl
rows_as_records plan time sequence n (row ∷ rows) = ap (λ (rs : List DataRecord). row_record plan time row ∷ rs) (rows_as_records plan time sequence n rows)

hundreds_left : (rows : List RowValue) (i : ℕ) → rows_of_message rows i ++ drop (100 * (i + 1)) rows ≡ drop (100 * i) rows
hundreds_left rows i =
    let next : drop (100 * (i + 1)) rows ≡ drop 100 (drop (100 * i) rows) = ap (λ (k : ℕ). drop k rows) (omega arith) ∙ sym (drop-drop 100 (100 * i) rows) in
    ap (λ (xs : List RowValue). rows_of_message rows i ++ xs) next ∙ take-append-drop 100 (drop (100 * i) rows)

hundreds_records : (plan : PlanValue) (time : ℕ) (rows : List RowValue) (i n : ℕ) → length rows ≤ 100 * (i + n)
    → records_in (map (read_hundred plan time rows) (range_with_len i n)) ≡ map (row_record plan time) (drop (100 * i) rows)
hundreds_records plan time rows i zero within = ap (map (row_record plan time)) (sym (drop_all (100 * i) rows (omega (arith, within))))
hundreds_records plan time rows i (suc n) within =
    let here = rows_as_records plan time (100 * i) (length (body plan (rows_of_message rows i))) (rows_of_message rows i) in
    let others = hundreds_records plan time rows (i + 1) n (omega (arith, within)) in
    rw (here, others) (sym (map-append (row_record plan time) (rows_of_message rows i) (drop (100 * (i + 1)) rows)) ∙ ap (map (row_record plan time)) (hundreds_left rows i))

pub all_records : (plan : PlanValue) (time : ℕ) (rows : List RowValue) → records_in (read_all plan time rows) ≡ map (row_record plan time) rows
all_records plan time rows = hundreds_records plan time rows 0 (message_count rows) (omega arith)
