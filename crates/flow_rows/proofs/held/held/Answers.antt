use Rattle.std.proofs.Common.{rules}
use Rattle.flow_rows.proofs.Totals.{run_at, small_at}
use Rattle.flow_rows.proofs.held.held.Goals as goal

pub add_found-requires : goal.add_found-requires
add_found-requires g c =
    let runs = c.args.runs.now in
    let n = c.loop-i.i in
    let r = c.index-runs-i.result in
    let s = c.deref.result.now in (
      search rules,
      (
        run_at runs n r s c.loop-i-test.true c.index-runs-i.is c.deref.ensures.value c.requires.runs,
        λ i. small_at runs n r s c.args.wanted.now.key i _ c.loop-i-test.true c.index-runs-i.is c.deref.ensures.value (c.loop-i.invariant i) (c.requires.small i),
      ),
    )
