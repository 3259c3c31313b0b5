use Rattle.std.proofs.Common.{◌≡◌, ap, sym, subst}
use Rattle.std.specs.Prelude.{unwrap_or}
use Rattle.std.specs.Io.KnownBytes.{Appends}
use Rattle.std.proofs.KnownBytes.{Appends-nil}
use Rattle.std.proofs.lemmas.Option.{slice_get_past}
use Rattle.report_writing.specs.Origins.{origin_text}
use Rattle.report_writing.specs.declared.origin.Origin.{Origin}
use Rattle.report_writing.specs.declared.origin.Origin.TheVariants.{Unknown}
use Rattle.command_collect.specs.Large.{origin_at}
use Rattle.command_collect.proofs.large.write_origin_at.Goals as goal

pub returns-in-None : goal.returns-in-None
returns-in-None g c =
    let held = (g.W.WriteLines.lines c.args.out.now).contents in
    let unknown : origin_at c.args.origins.now c.args.place ≡ Unknown = ap (λ o. unwrap_or o Unknown) (slice_get_past c.args.origins.now c.args.place c.in-None.ensures.lookup.3) in
    record { told = subst (λ (o : Origin). Appends held held (origin_text o)) (sym unknown) (Appends-nil held); failed = tt; kept = λ failed. failed }
