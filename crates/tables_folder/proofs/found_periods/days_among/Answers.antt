use Rattle.std.proofs.Common.{◌≡◌, [], ◌∷◌, ◌++◌, codes, length, ap, refl, string_bytes, subst, rules}
use Rattle.recording_periods.specs.PeriodFolders.{HasNoPeriod}
use Rattle.tables_folder.specs.FoundPeriods.{AreDaysOf, IsDayName}
use Rattle.tables_folder.proofs.Found.{found_all, found_none, found_one}
use Rattle.tables_folder.proofs.found_periods.days_among.Goals as goal

pub loop-name-preserved-in-Continue-1 : goal.loop-name-preserved-in-Continue-1
loop-name-preserved-in-Continue-1 c =
    let split : c.loop-name.waiting.items ≡ c.in-Some.name ∷ c.pop_front.new.self.items = search rules in
    let longer : c.push.new.self.items ≡ c.loop-name.days.items ++ c.in-Some.name ∷ [] = search rules in
    found_one (λ name. HasNoPeriod (string_bytes name) (codes "000000")) (λ name day. IsDayName (string_bytes name) × (day ≡ name))
    c.from_vec-waiting.result.items c.loop-name.waiting.items c.pop_front.new.self.items c.loop-name.days.items c.in-Some.name split c.loop-name.invariant
    c.push.new.self.items c.in-Some.name (subst IsDayName c.as_str.ensures.value c.if-is_day.ensures, refl) longer

pub loop-name-preserved : goal.loop-name-preserved
loop-name-preserved c =
    let split : c.loop-name.waiting.items ≡ c.in-Some.name ∷ c.pop_front.new.self.items = search rules in
    found_none (λ name. HasNoPeriod (string_bytes name) (codes "000000")) (λ name day. IsDayName (string_bytes name) × (day ≡ name))
    c.from_vec-waiting.result.items c.loop-name.waiting.items c.pop_front.new.self.items c.loop-name.days.items c.in-Some.name split c.loop-name.invariant
    (subst (λ name. HasNoPeriod name (codes "000000")) c.as_str.ensures.value c.if-is_day.ensures)

pub returns : goal.returns
returns c =
    let start : c.from_vec-waiting.result.items ≡ c.args.names.items = search rules in
    let none : c.loop-name.waiting.items ≡ [] = search rules in
    subst (λ names. AreDaysOf names c.loop-name.days.items) start
    (found_all (λ name. HasNoPeriod (string_bytes name) (codes "000000")) (λ name day. IsDayName (string_bytes name) × (day ≡ name))
    c.from_vec-waiting.result.items c.loop-name.waiting.items c.loop-name.days.items (ap length none) c.loop-name.invariant)
