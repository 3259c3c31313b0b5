use Rattle.std.proofs.Common.{◌≡◌, sym, ap, ◌∙◌}
use Rattle.std.specs.Prelude.{Some, map}
use Rattle.json.specs.Json.{array}
use Rattle.json.specs.Value.{items_view, value_view}
use Rattle.json.proofs.Trees.{view-Array}
use Rattle.table_receipts.proofs.Items.{arrays_same}
use Rattle.table_receipts.proofs.looking_up.items_of.Goals as goal

pub returns-in-Array : goal.returns-in-Array
returns-in-Array c js is =
    let items = c.in-Array.items in
    let view : value_view c.args.value.now ≡ array (items_view items.items) = ap value_view c.in-Array.is ∙ view-Array items in
    ap (λ vs. Some (map value_view vs)) c.as_slice.ensures.value ∙ ap Some (arrays_same (map value_view items.items) js (sym view ∙ is))
