use Rattle.std.proofs.Common.{◌≡◌, ℕ, Bool, List, take, ap, ◌∙◌, arith, rules}
use Rattle.std.proofs.lemmas.List.{take_all}
use Rattle.std.specs.Prelude.{◌||◌, option_copied}
use Rattle.std.specs.List.{list_any}
use Rattle.ipfix_datagrams.specs.Late.{is_later, time_in}
use Rattle.ipfix_datagrams.proofs.LateIds.{any_more}
use Rattle.ipfix_datagrams.proofs.withholding.has_later.Goals as goal

pub loop-id-preserved : goal.loop-id-preserved
loop-id-preserved c =
    let p : ℕ → Bool = λ id. is_later c.args.reorder c.args.at.now (time_in (option_copied c.args.times) id) in
    any_more p c.args.ids.now c.loop-id.id-index c.loop-id.found c.either-found.result (search rules) c.loop-id.invariant
    (c.either-found.ensures ∙ ap (λ (b : Bool). c.loop-id.found || b) c.is_later.ensures)

pub returns : goal.returns
returns c =
    let p : ℕ → Bool = λ id. is_later c.args.reorder c.args.at.now (time_in (option_copied c.args.times) id) in
    let whole : take c.loop-id.id-index c.args.ids.now ≡ c.args.ids.now = take_all c.loop-id.id-index c.args.ids.now (omega (arith, c.loop-id-test.false)) in
    c.loop-id.invariant ∙ ap (λ (xs : List ℕ). list_any p xs) whole
