use Rattle.std.proofs.Common.{◌≡◌, ap, map, ◌∙◌}
use Rattle.json.specs.Json.{array}
use Rattle.json.specs.Value.{items_view, value_view}
use Rattle.json.proofs.Trees.{view-Array}
use Rattle.table_receipts.proofs.Telling.{names_told}
use Rattle.table_receipts.proofs.part_reading.left_out_of.Goals as goal

pub returns-in-Some-Array : goal.returns-in-Some-Array
returns-in-Some-Array c names is =
    let items = c.in-Some-Array.items in
    let view : value_view c.in-Some-Array.field-0.now ≡ array (items_view items.items) = ap value_view c.in-Some-Array.field-0-is ∙ view-Array items in
    let told : map value_view items.items ≡ map _ names = names_told (value_view c.in-Some-Array.field-0.now) (map value_view items.items) names (c.in-Some-Array.ensures ∙ is) view in
    c.texts_of.ensures names (ap (map value_view) (c.as_slice.ensures.value ∙ ap (λ v. v.items) c.in-Some-Array.items-is) ∙ told)
