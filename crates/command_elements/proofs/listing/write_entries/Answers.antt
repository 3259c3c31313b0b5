use Rattle.std.proofs.Common.{List, subst, arith}
use Rattle.std.specs.Io.KnownBytes.{Appends}
use Rattle.std.proofs.lemmas.List.{take_all}
use Rattle.element_registry.specs.declared.entry.Entry as kept
use Rattle.command_elements.specs.Listed.{of_files}
use Rattle.command_elements.specs.Searches.{Shows}
use Rattle.command_elements.proofs.Joined.{files_next, fits_both, written_both}
use Rattle.command_elements.proofs.listing.write_entries.Goals as goal
use Rattle.command_elements.proofs.listing.write_entries.Goals.{then-branch, else-branch}

pub loop-entry-preserved : goal.loop-entry-preserved
loop-entry-preserved g c =
    let next = files_next c.args.entries.now c.loop-entry.entry-index c.entry-item.result c.loop-entry-test.true c.entry-item.is in
    let any = fits_both c.args.search.now _ _ _ _ _ _ _ _ next c.loop-entry.invariant c.in_ok-is_any.ensures in
    record {
      written = written_both c.args.search.now _ _ _ _ _ _ _ _ next c.loop-entry.invariant c.in_ok-is_any.ensures;
      answered = elim c.if-branch.branch [ then-branch w ↦ grind (arith, any) | else-branch w ↦ grind (arith, any) ];
    }

pub returns : goal.returns
returns g c =
    subst (λ (es : List kept.Entry). Shows c.args.search.now (of_files es) (Appends (g.W.Write.contents c.args.out.now) (g.W.Write.contents c.loop-entry.out)) c.loop-entry.is_any)
    (take_all c.loop-entry.entry-index c.args.entries.now (omega (arith, c.loop-entry-test.false))) c.loop-entry.invariant
