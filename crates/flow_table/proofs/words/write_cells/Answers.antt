use Rattle.std.proofs.Common.{ℕ, ◌/◌, ◌^◌, ◌<◌, ◌∙◌, ap, arith, drop, get_or, length, sym}
use Rattle.ipfix_elements.specs.declared.kind.Kind.TheVariants.{Unsigned}
use Rattle.ipfix_elements.specs.declared.kind.Width.TheVariants.{One}
use Rattle.flow_table.specs.Words.{cell_from, key_from}
use Rattle.flow_table.proofs.WordSteps.{cell_more, first_left, left_cells, one_alone, second_left}
use Rattle.flow_table.proofs.words.write_cells.Goals.{in-Some+in_ok-push, in_default+then-share_word+in_ok-push-2, in_default+else-share_word+in_ok-push-3}
use Rattle.flow_table.proofs.words.write_cells.Goals as goal

pub loop-place-preserved : goal.loop-place-preserved
loop-place-preserved c =
    let kinds = c.args.kinds.now in
    let i = c.loop-place.place in
    let half = c.loop-place.half in
    let rest = c.loop-place.rest.now in
    let kind = get_or kinds i (Unsigned One) in
    let inside : i < length kinds = omega arith in
    elim c.match-half.branch [
      | in-Some+in_ok-push w ↦
          rw (w.cells-is, w.rest-is, w.half-is)
          (cell_more c.loop-place.cells.items w.push.new.self.items w.cell_from.result _ (left_cells half (drop i kinds) rest) _ (key_from kinds c.args.words.now) w.in_ok-push.ensures.items w.cell_from.ensures
          (second_left kinds i (Unsigned One) half rest inside w.in-Some.second w.in-Some.is) c.loop-place.invariant)
      | in_default+then-share_word+in_ok-push-2 w ↦
          rw (w.cells-is, w.rest-is, w.half-is, c.word_at-word.ensures, w.words_after-rest.ensures)
          (cell_more c.loop-place.cells.items w.push-then-share_word.new.self.items w.cell_from-then-share_word.result _ (left_cells half (drop i kinds) rest) _ (key_from kinds c.args.words.now) w.in_ok-push-2.ensures.items
          (w.cell_from-then-share_word.ensures ∙ ap (λ (word : ℕ). cell_from kind (word / 2 ^ 32) 0) c.word_at-word.ensures)
          (first_left kinds i (Unsigned One) half rest inside w.in_default.is (sym w.if-share_word.true ∙ w.share_word.ensures)) c.loop-place.invariant)
      | in_default+else-share_word+in_ok-push-3 w ↦
          rw (w.cells-is, w.rest-is, w.half-is, w.words_after-rest-else-share_word.ensures, w.words_of_kind.ensures.value)
          (cell_more c.loop-place.cells.items w.push-else-share_word.new.self.items w.cell_from-else-share_word.result _ (left_cells half (drop i kinds) rest) _ (key_from kinds c.args.words.now) w.in_ok-push-3.ensures.items
          (w.cell_from-else-share_word.ensures ∙ ap (λ (word : ℕ). cell_from kind word w.word_at.result) c.word_at-word.ensures ∙ ap (λ (word : ℕ). cell_from kind (get_or rest 0 0) word) w.word_at.ensures)
          (one_alone kinds i (Unsigned One) half rest inside w.in_default.is (sym w.if-share_word.false ∙ w.share_word.ensures)) c.loop-place.invariant)
    ]
