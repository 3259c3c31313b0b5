use Rattle.std.proofs.Common.{◌≡◌, ◌∙◌, ℕ, List, Some, ap, refl, rules, sym}
use Rattle.ipfix_elements.specs.declared.kind.Kind.{Kind}
use Rattle.flow_table.specs.RowTotals.{AreOf, totals_plan}
use Rattle.flow_table.specs.SameTables.{value_of}
use Rattle.flow_table.specs.Words.{key_words}
use Rattle.flow_table.proofs.RowsAdded.{held_err, held_ok}
use Rattle.flow_table.proofs.row_totals.RowTotals.add.Goals.{After-add}
use Rattle.flow_table.proofs.row_totals.RowTotals.add.Goals as goal

pub returns-in_err-write_words-clause-plan : goal.returns-in_err-write_words-clause-plan
unfolding totals_plan
returns-in_err-write_words-clause-plan c = refl

pub returns-clause-plan : goal.returns-clause-plan
unfolding totals_plan
returns-clause-plan c = refl

pub write_words-requires : goal.write_words-requires
unfolding totals_plan
write_words-requires c = rw (c.kinds.ensures.value, c.deref.ensures.value) c.requires.fits.key.fit

-- the words of the row's key
words_are : (c : After-add) → key_words c.args.self.now.plan.kinds c.args.row.now.key.items ≡ Some c.deref-2.result.now
unfolding totals_plan
words_are c =
    ap (λ (kinds : List Kind). key_words kinds c.args.row.now.key.items) (sym c.kinds.ensures.value) ∙ ap (key_words c.kinds.result.now) (sym c.deref.ensures.value)
    ∙ c.in_ok-write_words.ensures ∙ ap (λ (ws : List ℕ). Some ws) (sym c.deref-2.ensures.value)

pub returns-clause-adds : goal.returns-clause-adds
unfolding AreOf totals_plan
returns-clause-adds c = λ rows held.
    held_ok c.args.self.now.plan c.args.self.now.rows c.add.new.self rows (value_of c.args.row.now) c.deref-2.result.now (words_are (goal.at.returns-clause-adds c).After-add) c.requires.some c.requires.fits.sums held c.add.result
    c.add.ensures.alike c.add.ensures.small (search rules)

pub returns-clause-large : goal.returns-clause-large
unfolding AreOf totals_plan
returns-clause-large c = λ rows held.
    held_err c.args.self.now.plan c.args.self.now.rows c.add.new.self rows (value_of c.args.row.now) c.deref-2.result.now (words_are (goal.at.returns-clause-large c).After-add) c.requires.some c.requires.fits.sums held c.add.result (search rules)
