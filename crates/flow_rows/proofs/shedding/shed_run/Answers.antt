use Rattle.std.proofs.Common.{not, List, ap, arith, rules, subst, sym}
use Rattle.flow_rows.specs.Rows.{Row, IsRun, total_at}
use Rattle.flow_rows.specs.Split.{reaches}
use Rattle.flow_rows.specs.declared.shedding.TheConstants.{GREAT}
use Rattle.flow_rows.proofs.Parting.{filtered_run, parted_total}
use Rattle.flow_rows.proofs.shedding.shed_run.Goals as goal

pub push_run-requires : goal.push_run-requires
push_run-requires g c =
    let xs = c.deref.result.now in
    let us = c.in_ok-usual.usual.items in
    let gs = c.in_ok-usual.great.items in
    let e = c.in_ok-usual.ensures.usual in
    let f = c.in_ok-usual.ensures.great in (
      search rules,
      (
        λ q i. omega (arith, parted_total (reaches GREAT) xs us gs q i e f, ap (λ (ys : List Row). total_at ys q i) c.deref.ensures.value, c.requires.small q i),
        (c.requires.runs, filtered_run (reaches GREAT) xs gs f (subst IsRun (sym c.deref.ensures.value) c.requires.run)),
      ),
    )

pub returns-clause-total : goal.returns-clause-total
returns-clause-total g c = λ q i.
    omega (arith, parted_total (reaches GREAT) c.deref.result.now c.in_ok-usual.usual.items c.in_ok-usual.great.items q i c.in_ok-usual.ensures.usual c.in_ok-usual.ensures.great, ap (λ (ys : List Row). total_at ys q i) c.deref.ensures.value, c.in_ok-push_run.ensures.total q i)

pub returns-clause-fewer : goal.returns-clause-fewer
returns-clause-fewer g c = λ q i.
    omega (arith, parted_total (reaches GREAT) c.deref.result.now c.in_ok-usual.usual.items c.in_ok-usual.great.items q i c.in_ok-usual.ensures.usual c.in_ok-usual.ensures.great, ap (λ (ys : List Row). total_at ys q i) c.deref.ensures.value)

pub returns-clause-run : goal.returns-clause-run
returns-clause-run g c =
    filtered_run (λ (x : Row). not (reaches GREAT x)) c.deref.result.now c.in_ok-usual.usual.items c.in_ok-usual.ensures.usual (subst IsRun (sym c.deref.ensures.value) c.requires.run)
