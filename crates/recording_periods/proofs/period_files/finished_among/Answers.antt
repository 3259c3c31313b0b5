use Rattle.std.proofs.Common.{◌≡◌, [], ◌∷◌, subst, rules}
use Rattle.recording_periods.specs.PeriodFiles.{AreFinishedOf}
use Rattle.recording_periods.proofs.FoundFiles.{SoFar, found_all, found_one}
use Rattle.recording_periods.proofs.period_files.finished_among.Goals as goal

pub loop-name-preserved-in-Continue-1 : goal.loop-name-preserved-in-Continue-1
loop-name-preserved-in-Continue-1 c =
    let split : c.loop-name.waiting.items ≡ c.in-Some.name ∷ c.pop_front.new.self.items = search rules in
    found_one c.from_vec-waiting.result.items c.loop-name.waiting.items c.pop_front.new.self.items c.loop-name.files.items c.push.new.self.items c.in-Some.name split c.loop-name.invariant (search rules) (search rules)

pub returns : goal.returns
returns c =
    let start : c.from_vec-waiting.result.items ≡ c.args.names.items = search rules in
    let none : c.loop-name.waiting.items ≡ [] = search rules in
    subst (λ all. AreFinishedOf all c.loop-name.files.items) start
    (found_all c.from_vec-waiting.result.items c.loop-name.files.items (subst (λ left. SoFar c.from_vec-waiting.result.items left c.loop-name.files.items) none c.loop-name.invariant))
