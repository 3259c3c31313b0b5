use Rattle.std.proofs.Common.{◌≡◌, [], ◌∷◌, ◌++◌, length, string_bytes, subst, arith, rules}
use Rattle.recording_periods.specs.PeriodFolders.{HasNoPeriod, IsPeriodAt}
use Rattle.tables_folder.proofs.Found.{found_all, found_one}
use Rattle.tables_folder.proofs.found_periods.periods_among.Goals as goal

pub loop-name-preserved-in_ok-push : goal.loop-name-preserved-in_ok-push
loop-name-preserved-in_ok-push c =
    let split : c.loop-name.left.now ≡ c.in-Some.name.now ∷ c.in-Some.rest.now = search rules in
    let longer : c.push.new.self.items ≡ c.loop-name.periods.items ++ c.in-Some-read_period_at.period ∷ [] = search rules in
    found_one (λ name. HasNoPeriod c.args.day.now (string_bytes name)) (λ name period. IsPeriodAt period.begins c.args.day.now (string_bytes name))
    c.args.names.now c.loop-name.left.now c.in-Some.rest.now c.loop-name.periods.items c.in-Some.name.now split c.loop-name.invariant
    c.push.new.self.items c.in-Some-read_period_at.period
    (subst (IsPeriodAt c.in-Some-read_period_at.period.begins c.args.day.now) c.as_str.ensures.value c.in-Some-read_period_at.ensures.read) longer

pub returns : goal.returns
returns c =
    let empty : length c.loop-name.left.now ≡ 0 = grind (arith, c.split_first.ensures.variant) in
    found_all (λ name. HasNoPeriod c.args.day.now (string_bytes name)) (λ name period. IsPeriodAt period.begins c.args.day.now (string_bytes name))
    c.args.names.now c.loop-name.left.now c.loop-name.periods.items empty c.loop-name.invariant
