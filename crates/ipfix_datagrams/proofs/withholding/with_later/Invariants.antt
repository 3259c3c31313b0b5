use Rattle.std.proofs.Common.{◌≡◌, ◌&&◌, ℕ, take, eqb}
use Rattle.std.specs.Prelude.{◌||◌, option_copied}
use Rattle.std.specs.List.{list_any}
use Rattle.ipfix_datagrams.specs.Late.{is_later, time_in}
use Rattle.ipfix_datagrams.proofs.withholding.with_later.Given as goal

abbrev pub invariant-loop-id : goal.invariant-loop-id
invariant-loop-id l = (q : ℕ) → list_any (λ b. eqb b q) l.all.items ≡ (list_any (λ b. eqb b q) l.barred || (list_any (λ b. eqb q b) (take l.id-index l.ids) && is_later l.reorder l.at (time_in (option_copied l.times) q)))
