use Rattle.std.proofs.Common.{◌≡◌, ◌∙◌, ◌≤◌, ◌+◌, List, [], ◌∷◌, ◌++◌, ap, arith, length, map, sym, take}
use Rattle.receipt_merging.specs.Parts.{part_value}
use Rattle.table_parts.proofs.TablesSaid.{said_all, said_next, said_short}
use Rattle.table_parts.specs.Tables.{tables_said}
use Rattle.table_parts.specs.declared.tables.PartTable.{PartTable}
use Rattle.table_parts.proofs.tables.tables_of.Goals as goal

pub returns-in-None : goal.returns-in-None
returns-in-None c =
    let within : c.loop-place.place ≤ length c.args.parts.now = omega (arith, c.loop-place-test.true) in
    c.loop-place.invariant.are ∙ said_short part_value c.args.all.now c.args.parts.now c.loop-place.place c.in-None.ensures.lookup.3 within

pub loop-place-preserved : goal.loop-place-preserved
loop-place-preserved c =
    let found = c.in-Some.ensures.lookup in
    let all = c.args.all.now in
    let parts = c.args.parts.now in
    let so_far = tables_said (take c.loop-place.place all) (map part_value (take c.loop-place.place parts)) in
    record {
      within = omega (arith, found.3.0);
      are = c.in_ok-push-in-Some.ensures.items
          ∙ ap (λ (l : List PartTable). l ++ c.table_of.result ∷ []) c.loop-place.invariant.are
          ∙ ap (λ (t : PartTable). so_far ++ t ∷ []) c.table_of.ensures
          ∙ sym (said_next part_value all parts c.loop-place.place _ c.in-Some.files.now c.index-parts-place.result found.3.0 c.loop-place-test.true (sym found.1) c.index-parts-place.is);
    }

pub returns : goal.returns
returns c =
    let none : length c.args.parts.now ≤ c.loop-place.place = omega (arith, c.loop-place-test.false) in
    c.loop-place.invariant.are ∙ said_all part_value c.args.all.now c.args.parts.now c.loop-place.place none c.loop-place.invariant.within
