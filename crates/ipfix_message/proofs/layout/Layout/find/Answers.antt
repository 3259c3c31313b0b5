use Rattle.std.proofs.Common.{◌≡◌, ◌≤◌, ◌<◌, ◌^◌, Some, length, sym, arith, rules}
use Rattle.std.specs.Ordering.{nat_cmp}
use Rattle.std.specs.BTreeMap.{get}
use Rattle.std.proofs.lemmas.List.{length-take-le}
use Rattle.ipfix_message.specs.Layouts.{key_of}
use Rattle.ipfix_message.proofs.Layouts.{layout-inside}
use Rattle.ipfix_message.proofs.layout.Layout.find.Goals as goal

pub slice_bounds-after_gaps-end : goal.slice_bounds-after_gaps-end
slice_bounds-after_gaps-end c =
    let found : get nat_cmp c.args.self.now.places.all (key_of c.args.element) ≡ Some c.in_ok-place.place.now = search rules in
    let small : c.args.element.number < 2 ^ 16 = omega arith in
    let inside = layout-inside c.args.self.now c.requires.0 c.args.element c.in_ok-place.place.now c.requires.1 small found in
    let room : c.from.result ≤ length c.deref.result.now = search (rules, inside) in
    sym (length-take-le c.from.result c.deref.result.now room)
