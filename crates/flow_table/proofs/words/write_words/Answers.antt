use Rattle.std.proofs.Common.{◌≡◌, ◌<◌, ◌+◌, ◌++◌, ◌∷◌, List, [], add-one, arith, get_or, length, subst, sym, take}
use Rattle.std.proofs.Math.Seq.{take-suc}
use Rattle.ipfix_elements.specs.declared.cell.Cell.{Cell}
use Rattle.ipfix_elements.specs.declared.cell.Cell.TheVariants.{Number}
use Rattle.ipfix_elements.specs.declared.kind.Kind.TheVariants.{Unsigned}
use Rattle.ipfix_elements.specs.declared.kind.Width.TheVariants.{One}
use Rattle.std.proofs.lemmas.List.{take_all}
use Rattle.flow_table.proofs.WordSteps.{FirstWords, as_many, cell_at, words_done, words_more}
use Rattle.flow_table.proofs.words.write_words.Goals as goal

pub bounds-kinds-place : goal.bounds-kinds-place
bounds-kinds-place c = omega (arith, as_many c.args.kinds.now c.args.cells.now c.requires)

pub words_of-requires : goal.words_of-requires
words_of-requires c = cell_at c.args.kinds.now c.args.cells.now c.loop-place.place (Unsigned One) (Number 0) (omega arith) c.requires

pub loop-place-preserved : goal.loop-place-preserved
loop-place-preserved c =
    let kinds = c.args.kinds.now in
    let cells = c.args.cells.now in
    let i = c.loop-place.place in
    let inside : i < length cells = omega arith in
    let beside : i < length kinds = omega (arith, as_many kinds cells c.requires) in
    let more : take (i + 1) cells ≡ take i cells ++ get_or cells i (Number 0) ∷ [] = rw (add-one i) (take-suc cells i (Number 0) inside) in
    subst (λ (cs : List Cell). FirstWords kinds cs (i + 1) c.in_ok-half.half c.push_words.new.words.items) (sym more)
    (words_more kinds (take i cells) i c.loop-place.half c.in_ok-half.half c.loop-place.words.items c.push_words.new.words.items (Unsigned One) (get_or cells i (Number 0)) c.words_of.result beside c.words_of.ensures c.in_ok-half.ensures c.loop-place.invariant)

pub returns : goal.returns
returns c =
    let kinds = c.args.kinds.now in
    let cells = c.args.cells.now in
    let i = c.loop-place.place in
    let past = as_many kinds cells c.requires in
    words_done kinds cells i c.loop-place.half c.loop-place.words.items c.push_half.new.words.items (omega arith) c.in_ok-push_half.ensures
    (subst (λ (cs : List Cell). FirstWords kinds cs i c.loop-place.half c.loop-place.words.items) (take_all i cells (omega arith)) c.loop-place.invariant)
