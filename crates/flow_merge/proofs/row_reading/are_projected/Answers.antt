use Rattle.std.proofs.Common.{◌≡◌, ◌+◌, ◌∷◌, [], ◌++◌, length, length-append, get_or, None}
use Rattle.std.proofs.lemmas.Slice.Zip.{zip_turn}
use Rattle.std.specs.Slice.Iter.{iter_rest}
use Rattle.std.specs.Iterator.Adapters.{zip_first, zip_second}
use Rattle.ipfix_elements.specs.declared.cell.Cell.{Cell}
use Rattle.ipfix_elements.specs.declared.cell.Cell.TheVariants.{Number}
use Rattle.flow_table.specs.declared.key.Key.{Key}
use Rattle.flow_table.specs.Reading.{projected}
use Rattle.ipfix_elements.specs.Elements.{iana}
use Rattle.flow_merge.proofs.Pairs.{AllZip-at, AllZip-more}
use Rattle.flow_merge.proofs.row_reading.are_projected.Goals as goal

-- where there is no key, and no cell
abbrev no_key : Key
no_key = record { element = iana 0; prefix = None }

abbrev no_cell : Cell
no_cell = Number 0

abbrev Holds : Key → Cell → Type 0
Holds key cell = projected key.prefix cell ≡ cell

pub returns-then-not-is_projected-clause-no : goal.returns-then-not-is_projected-clause-no
returns-then-not-is_projected-clause-no c _ all =
    let keys = c.args.keys.now in
    let cells = c.args.cells.now in
    let i = length c.loop-key.yielded in
    let first : iter_rest (zip_first c.into_iter-key-iterator.result) ≡ keys = search in
    let second : iter_rest (zip_second c.into_iter-key-iterator.result) ≡ cells = search in
    let turn = zip_turn keys cells c.loop-key.yielded _ _ c.next.new.self _ first second c.loop-key.yielded_by (c.in-Some.key, c.in-Some.cell) c.in-Some.is c.next.ensures.steps in
    let here : Holds (get_or keys i no_key) (get_or cells i no_cell) = AllZip-at Holds keys cells i no_key no_cell all turn.0 in
    c.is_projected.ensures.no c.if-not-is_projected.true (rw (turn.2 no_key, turn.3 no_cell) here)

pub loop-key-preserved : goal.loop-key-preserved
loop-key-preserved c =
    let keys = c.args.keys.now in
    let cells = c.args.cells.now in
    let i = length c.loop-key.yielded in
    let first : iter_rest (zip_first c.into_iter-key-iterator.result) ≡ keys = search in
    let second : iter_rest (zip_second c.into_iter-key-iterator.result) ≡ cells = search in
    let turn = zip_turn keys cells c.loop-key.yielded _ _ c.next.new.self _ first second c.loop-key.yielded_by (c.in-Some.key, c.in-Some.cell) c.in-Some.is c.next.ensures.steps in
    let next : length (c.loop-key.yielded ++ (c.in-Some.key, c.in-Some.cell) ∷ []) ≡ i + 1 = length-append c.loop-key.yielded ((c.in-Some.key, c.in-Some.cell) ∷ []) in
    let here : Holds (get_or keys i no_key) (get_or cells i no_cell) = rw (← turn.2 no_key, ← turn.3 no_cell) (c.is_projected.ensures.yes c.if-not-is_projected.false) in
    rw next (AllZip-more Holds keys cells i no_key no_cell turn.0 turn.1 c.loop-key.invariant here)
