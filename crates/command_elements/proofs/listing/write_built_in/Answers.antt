use Rattle.std.proofs.Common.{List, false, sym, subst, arith}
use Rattle.std.specs.Io.KnownBytes.{Appends}
use Rattle.command_elements.specs.Listed.{Listed}
use Rattle.command_elements.specs.Searches.{Shows}
use Rattle.command_elements.proofs.BuiltIn.{all_below, at_first, is_next}
use Rattle.command_elements.proofs.Joined.{fits_both, shows_none, written_both}
use Rattle.command_elements.proofs.listing.write_built_in.Goals as goal
use Rattle.command_elements.proofs.listing.write_built_in.Goals.{then-branch, else-branch}

pub loop-number-init : goal.loop-number-init
loop-number-init g c =
    let held = g.W.Write.contents c.args.out.now in
    subst (λ (ks : List Listed). Shows c.args.search.now ks (Appends held held) false) (sym at_first) (shows_none c.args.search.now held)

pub loop-number-preserved : goal.loop-number-preserved
loop-number-preserved g c =
    let next = is_next c.loop-number.number in
    let any = fits_both c.args.search.now _ _ _ _ _ _ _ _ next c.loop-number.invariant c.in_ok-is_any.ensures in
    record {
      written = written_both c.args.search.now _ _ _ _ _ _ _ _ next c.loop-number.invariant c.in_ok-is_any.ensures;
      answered = elim c.if-branch.branch [ then-branch w ↦ grind (arith, any) | else-branch w ↦ grind (arith, any) ];
    }

pub returns : goal.returns
returns g c =
    subst (λ (ks : List Listed). Shows c.args.search.now ks (Appends (g.W.Write.contents c.args.out.now) (g.W.Write.contents c.loop-number.out)) c.loop-number.is_any)
    (all_below c.loop-number.number (omega arith)) c.loop-number.invariant
