use Rattle.std.proofs.Common.{◌≡◌, length, sym, ap, ◌∙◌}
use Rattle.std.specs.Prelude.{vec_len}
use Rattle.std.proofs.lemmas.List.{length-map}
use Rattle.flow_table.proofs.FlatTables.{fits_same_table}
use Rattle.flow_collect.specs.Contexts.{alone}
use Rattle.flow_collect.proofs.Contexts.{faults_alone}
use Rattle.flow_collect.proofs.InFull.{headline_short}
use Rattle.flow_collect.proofs.without_rest.collect.Goals as goal

pub returns-in-Err-clause-faults : goal.returns-in-Err-clause-faults
returns-in-Err-clause-faults g c =
    let are = c.in_ok-sources.ensures in
    let same : vec_len c.in_ok-sources.sources ≡ vec_len c.args.sources = c.in_ok-sources.sources.ok.0 ∙ ap length are ∙ length-map c.args.sources.items alone ∙ sym c.args.sources.ok.0 in
    faults_alone g.S.Source.seen c.args.plan.now c.args.pool c.args.sources c.in_ok-sources.sources c.in-Err.failure.fault same are c.in-Err.ensures.faults

pub returns-clause-ok : goal.returns-clause-ok
returns-clause-ok g c =
    headline_short g.S.Source.seen c.args.sources.items c.in_ok-sources.sources.items c.args.plan.now c.args.pool c.in-Ok.collected c.in_ok-short.short c.in_ok-sources.ensures c.in-Ok.ensures.ok c.in_ok-short.ensures

pub returns-clause-fits : goal.returns-clause-fits
returns-clause-fits g c = fits_same_table c.args.plan.now c.in-Ok.collected.table c.in_ok-short.short.table c.in_ok-short.ensures.same c.in-Ok.ensures.fits
