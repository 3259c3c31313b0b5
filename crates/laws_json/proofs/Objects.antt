-- The text of an object is the line that is written.
use Rattle.std.proofs.Common.{◌≡◌, ℕ, ◌<◌, Bool, true, false, List, [], ◌∷◌, ◌++◌, map, refl, sym, ap, ap₂, append_assoc, ◌∙◌}
use Rattle.std.specs.Prelude.{codes, decimal, All}
use Rattle.std.specs.List.{join_with_byte, zip}
use Rattle.std.proofs.lemmas.List.{map-append}
use Rattle.std.proofs.lemmas.List.Elements.{All-append, All-drop, All-head, All-map, All-nil, All-tail}
use Rattle.json.specs.Json.{Json, string}
use Rattle.json.specs.Value.{items_of}
use Rattle.ipfix_elements.specs.JsonValues.{in_quotes, json_cell, json_number}
use Rattle.ipfix_elements.specs.declared.cell.Cell.{Cell}
use Rattle.ipfix_elements.specs.declared.cell.Cell.TheVariants.{Number}
use Rattle.element_registry.specs.Registries.{Known, element_kind, element_name}
use Rattle.element_values.specs.FieldTexts.{element_json}
use Rattle.element_values.specs.Strings.{json_string}
use Rattle.ipfix_message.specs.DataRecords.{HasOctets}
use Rattle.ipfix_message.specs.Fields.{Field}
use Rattle.ipfix_message.specs.declared.record.DataRecord.{DataRecord}
use Rattle.ipfix_dump.specs.JsonLines.{comma_if, json_field, json_fields, json_line}
use Rattle.flow_table.specs.Plans.{PlanValue}
use Rattle.flow_table.specs.SameTables.{RowValue}
use Rattle.flow_export.specs.CsvText.{first_of, heading, last_of}
use Rattle.flow_export.specs.JsonText.{member, object_line, row_object, row_values}
use Rattle.flow_export.specs.PlainNames.{have_plain_names}
use Rattle.laws_json.specs.Objects.{members_of, object_of, object_of_field, object_with, record_names, record_values, value_of, value_of_cell}
use Rattle.laws_json.specs.RowObjects.{columns, HasAddresses, object_of_row}
use Rattle.laws_json.specs.Texts.{compact_text, items_text, members_text}
use Rattle.laws_json.proofs.Plain.{AllPlain, AreOctets, HasAddress, heading_plain, name_plain}
use Rattle.flow_export.specs.Shown.{shown_cells}
use Rattle.laws_json.proofs.ShownCells.{all_shown}
use Rattle.laws_json.proofs.Strings.{plain_string}
use Rattle.laws_json.proofs.Values.{cell_written, value_written}

-- ---- members

last_member : (q n v : List ℕ) → q ≡ in_quotes n → q ++ 58 ∷ (v ++ codes "}") ≡ member (n, v) ++ codes "}"
last_member q n v is = rw is (simp append_assoc)

regroup : (q k v c rest e : List ℕ) → q ++ (k ++ (v ++ (c ++ (rest ++ e)))) ≡ ((q ++ (k ++ v)) ++ (c ++ rest)) ++ e
regroup q k v c rest e = simp append_assoc

next_member : (q n v given rest : List ℕ) → q ≡ in_quotes n → given ≡ rest ++ codes "}" → q ++ 58 ∷ (v ++ 44 ∷ given) ≡ (member (n, v) ++ 44 ∷ rest) ++ codes "}"
next_member q n v given rest is is_given =
    ap₂ (λ (x y : List ℕ). x ++ 58 ∷ (v ++ 44 ∷ y)) is is_given ∙ regroup (in_quotes n) (codes ":") v (44 ∷ []) rest (codes "}")

members_are : (names : List (List ℕ)) (values : List Json) → AllPlain names
    → members_text false (members_of (zip names values)) ≡ join_with_byte 44 (map member (zip names (map compact_text values))) ++ codes "}"
members_are [] values all = refl
members_are (n ∷ ns) [] all = refl
members_are (n ∷ []) (v ∷ vs) all = last_member (json_string n) n (compact_text v) (plain_string n all.0)
members_are (n ∷ m ∷ ns) (v ∷ []) all = last_member (json_string n) n (compact_text v) (plain_string n all.0)
members_are (n ∷ m ∷ ns) (v ∷ u ∷ vs) all = next_member (json_string n) n (compact_text v) _ _ (plain_string n all.0) (members_are (m ∷ ns) (u ∷ vs) all.1)

object_is : (names : List (List ℕ)) (values : List Json) → AllPlain names → compact_text (object_with names values) ++ codes "\n" ≡ object_line (zip names (map compact_text values))
object_is names values all =
    ap (λ (w : List ℕ). 123 ∷ (w ++ codes "\n")) (members_are names values all)
    ∙ ap (λ (w : List ℕ). 123 ∷ w) (append_assoc (join_with_byte 44 (map member (zip names (map compact_text values)))) (codes "}") (codes "\n"))

-- ---- records

abbrev field_object : List ℕ → List ℕ → List ℕ
field_object name value = 123 ∷ (join_with_byte 44 (map member ((codes "name", name) ∷ (codes "value", value) ∷ [])) ++ codes "}")

field_parts : (name value : List ℕ) → field_object (in_quotes name) value ≡ codes "{\"name\":\"" ++ (name ++ (codes "\",\"value\":" ++ (value ++ codes "}")))
field_parts name value = simp append_assoc

abbrev record_object : List ℕ → List ℕ → List ℕ → List ℕ → List ℕ → List ℕ
record_object domain template time scope fields =
    object_line ((codes "domain", domain) ∷ (codes "template", template) ∷ (codes "export_time", time) ∷ (codes "scope", scope) ∷ (codes "fields", 91 ∷ fields) ∷ [])

flat_front : (a d b t c e x s y f z : List ℕ) → ((a ++ d) ++ ((b ++ t) ++ ((c ++ e) ++ ((x ++ s) ++ y)))) ++ (f ++ z) ≡ a ++ (d ++ (b ++ (t ++ (c ++ (e ++ (x ++ (s ++ (y ++ (f ++ z)))))))))
flat_front a d b t c e x s y f z = simp append_assoc

flat_members : (k c a d b t x e y s z o f p q : List ℕ)
    → ((a ++ (k ++ d)) ++ (c ++ ((b ++ (k ++ t)) ++ (c ++ ((x ++ (k ++ e)) ++ (c ++ ((y ++ (k ++ s)) ++ (c ++ (z ++ (k ++ (o ++ (f ++ p)))))))))))) ++ q
    ≡ a ++ (k ++ (d ++ (c ++ (b ++ (k ++ (t ++ (c ++ (x ++ (k ++ (e ++ (c ++ (y ++ (k ++ (s ++ (c ++ (z ++ (k ++ (o ++ (f ++ (p ++ q))))))))))))))))))))
flat_members k c a d b t x e y s z o f p q = simp append_assoc

record_parts : (d t e s f : List ℕ)
    → ((codes "{\"domain\":" ++ d) ++ ((codes ",\"template\":" ++ t) ++ ((codes ",\"export_time\":" ++ e) ++ ((codes ",\"scope\":" ++ s) ++ codes ",\"fields\":[")))) ++ (f ++ codes "]}\n")
    ≡ record_object d t e s (f ++ codes "]")
record_parts d t e s f =
    flat_front (codes "{\"domain\":") d (codes ",\"template\":") t (codes ",\"export_time\":") e (codes ",\"scope\":") s (codes ",\"fields\":[") f (codes "]}\n")
    ∙ ap (λ (w : List ℕ). 123 ∷ w)
    (sym (flat_members (codes ":") (codes ",") (codes "\"domain\"") d (codes "\"template\"") t (codes "\"export_time\"") e (codes "\"scope\"") s (codes "\"fields\"") (codes "[") f (codes "]") (codes "}\n")))

next_item : (later : Bool) (field_given field rest given : List ℕ) → field_given ≡ field → given ≡ rest ++ codes "]"
    → comma_if later ++ (field_given ++ given) ≡ (comma_if later ++ (field ++ rest)) ++ codes "]"
next_item later field_given field rest given is_field is = rw (is_field, is) (simp append_assoc)

-- ---- columns

numbers_have : (ns : List ℕ) → All HasAddress (map (λ n. Number n) ns)
numbers_have ns = All-map HasAddress {Y = ℕ} (λ n. Number n) ns (λ k d within. All-nil (λ b. b < 256))

pub columns_have : (plan : PlanValue) (row : RowValue) → HasAddresses row → All HasAddress (columns plan row)
columns_have plan row all =
    All-append HasAddress (map (λ n. Number n) (first_of plan row ∷ last_of plan row ∷ [])) _ (numbers_have (first_of plan row ∷ last_of plan row ∷ []))
    (All-append HasAddress (shown_cells plan.keys row.key) _ (all_shown HasAddress (λ address has. All-drop (λ b. b < 256) 12 address has) plan.keys row.key all) (All-append HasAddress (map (λ n. Number n) row.sums) _ (numbers_have row.sums) (numbers_have (row.flows ∷ []))))

cells_are : (cells : List Cell) → All HasAddress cells → map compact_text (map value_of_cell cells) ≡ map json_cell cells
cells_are [] all = refl
cells_are (c ∷ cs) all =
    ap₂ (λ (t : List ℕ) (ts : List (List ℕ)). t ∷ ts) (cell_written (λ z. Unit {0}) (λ n less. tt) c (All-head HasAddress c cs all)).text (cells_are cs (All-tail HasAddress c cs all))

numbers_are : (ns : List ℕ) (rest : List Cell) → map json_cell (map (λ n. Number n) ns ++ rest) ≡ map json_number ns ++ map json_cell rest
numbers_are [] rest = refl
numbers_are (n ∷ ns) rest = ap (λ (t : List (List ℕ)). json_number n ∷ t) (numbers_are ns rest)

values_are : (plan : PlanValue) (row : RowValue) → HasAddresses row → map compact_text (map value_of_cell (columns plan row)) ≡ row_values plan row
values_are plan row all =
    cells_are (columns plan row) (columns_have plan row all)
    ∙ ap (λ (t : List (List ℕ)). json_number (first_of plan row) ∷ json_number (last_of plan row) ∷ t)
    (map-append json_cell (shown_cells plan.keys row.key) (map (λ n. Number n) row.sums ++ Number row.flows ∷ []) ∙ ap (λ (t : List (List ℕ)). map json_cell (shown_cells plan.keys row.key) ++ t) (numbers_are row.sums (Number row.flows ∷ [])))

module _ (known : List Known) (plain : have_plain_names known ≡ true) where
  field_is : (f : Field) → AreOctets f.octets → compact_text (object_of_field known f) ≡ json_field known f
  unfolding json_field
  field_is f all =
      let kind = element_kind known f.element in
      let name = element_name known f.element in
      let value : compact_text (value_of kind f.octets) ≡ element_json kind f.octets = (value_written (λ z. Unit {0}) (λ n less. tt) kind f.octets all (λ width is z exact. tt)).text in
      ap (λ (w : List ℕ). 123 ∷ w) (members_are (codes "name" ∷ codes "value" ∷ []) (string name ∷ value_of kind f.octets ∷ []) (refl, (refl, tt)))
      ∙ ap₂ field_object (plain_string name (name_plain known plain f.element)) value ∙ field_parts name (element_json kind f.octets)

  fields_are : (later : Bool) (fs : List Field) → All (λ f. AreOctets f.octets) fs → items_text later (items_of (map (object_of_field known) fs)) ≡ json_fields known later fs ++ codes "]"
  fields_are later [] all = refl
  fields_are later (f ∷ fs) all =
      next_item later (compact_text (object_of_field known f)) (json_field known f) (json_fields known true fs) _ (field_is f (All-head (λ f. AreOctets f.octets) f fs all))
      (fields_are true fs (All-tail (λ f. AreOctets f.octets) f fs all))

  pub line_is : (r : DataRecord) → HasOctets r → json_line known r ≡ compact_text (object_of known r) ++ codes "\n"
  unfolding json_line
  line_is r all =
      record_parts (decimal r.domain) (decimal r.template) (decimal r.export_time) (decimal r.scope) (json_fields known false r.fields)
      ∙ ap (record_object (decimal r.domain) (decimal r.template) (decimal r.export_time) (decimal r.scope)) (sym (fields_are false r.fields all))
      ∙ sym (object_is record_names (record_values known r) (refl, (refl, (refl, (refl, (refl, tt))))))

  -- ---- rows

  pub row_is : (plan : PlanValue) (row : RowValue) → HasAddresses row → row_object known plan row ≡ compact_text (object_of_row known plan row) ++ codes "\n"
  row_is plan row all =
      ap (λ (values : List (List ℕ)). object_line (zip (heading known plan) values)) (sym (values_are plan row all))
      ∙ sym (object_is (heading known plan) (map value_of_cell (columns plan row)) (heading_plain known plain plan))
