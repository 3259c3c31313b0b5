use Rattle.std.proofs.Common.{ℕ, List, eqb, ap, ◌∙◌}
use Rattle.indexmap.specs.IndexMap.{insert_entry}
use Rattle.ipfix_datagrams.specs.declared.reach.Reach.{Reach}
use Rattle.ipfix_datagrams.specs.Reaches.{AdvancesView}
use Rattle.ipfix_datagrams.proofs.Reaches.{noted}
use Rattle.ipfix_datagrams.proofs.sequence_advances.SequenceAdvances.note.Goals as goal

pub returns : goal.returns
returns c = λ ms m are domain sequence count.
    let inserted = rw c.unwrap.ensures at c.insert.ensures.entries in
    let same = ap (λ (v : AdvancesView). v.reaches) c.self.view_is in
    noted c.args.self.now.reaches c.insert.new.self.entries c.args.domain c.args.sequence c.args.records c.reach.result c.after-after.result ms m
    are domain sequence count c.reach.ensures c.after-after.ensures (inserted ∙ ap (λ (es : List (ℕ × Reach)). insert_entry eqb es c.args.domain c.after-after.result) same)
