use Rattle.std.proofs.Common.{List, ℕ, subst}
use Rattle.std.specs.Prelude.{IfOk}
use Rattle.std.specs.Option.{option_map}
use Rattle.command_tables.specs.SaidTogether.{IsStanding}
use Rattle.command_tables.specs.TextsByName.{HasText, RefusesText}
use Rattle.command_tables.proofs.Settled.{settled}
use Rattle.command_tables.proofs.days.taking.standing_of.Goals as goal

pub returns-in-Some-clause-ok : goal.returns-in-Some-clause-ok
returns-in-Some-clause-ok g c =
    let sees = g.T.TablePlace.seen in
    let has = HasText sees c.args.texts.now.tables.now in
    let refuses = RefusesText sees c.args.texts.now.tables.now in
    settled sees c.args.job.now c.args.parts c.args.day c.args.texts.now.tables.now c.args.days.now c.in-Some.own.items
    (subst (λ text. g.T.TablePlace.seen.receipt_at c.args.days.now c.args.day.begins (option_map (λ v. v.items) text)) c.in-Some.is c.in_ok-own.ensures.ok)
    c.stands_for.result
    (subst (λ (own : List ℕ). IfOk c.stands_for.result (IsStanding has refuses c.args.job.now.text.at_hand c.args.parts.now own)) c.deref.ensures.value c.stands_for.ensures.ok)
