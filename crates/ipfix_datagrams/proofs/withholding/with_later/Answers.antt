use Rattle.std.proofs.Common.{◌≡◌, ◌&&◌, ℕ, Bool, List, take, eqb, ap, ◌∙◌, arith, rules}
use Rattle.std.proofs.lemmas.List.{take_all}
use Rattle.std.specs.Prelude.{◌||◌, option_copied}
use Rattle.std.specs.List.{list_any}
use Rattle.ipfix_datagrams.specs.Late.{is_later, time_in}
use Rattle.ipfix_datagrams.proofs.LateIds.{later_more}
use Rattle.ipfix_datagrams.proofs.withholding.with_later.Goals as goal

pub loop-id-preserved : goal.loop-id-preserved
loop-id-preserved c = λ q.
    let p : ℕ → Bool = λ id. is_later c.args.reorder c.args.at.now (time_in (option_copied c.args.times) id) in
    later_more p c.args.barred.now c.args.ids.now c.loop-id.id-index q (list_any (λ b. eqb b q) c.loop-id.all.items) (list_any (λ b. eqb b q) c.put_later.new.all.items) (search rules) (c.loop-id.invariant q) (c.in_ok-put_later.ensures q)

pub returns : goal.returns
returns c = λ q.
    let p : ℕ → Bool = λ id. is_later c.args.reorder c.args.at.now (time_in (option_copied c.args.times) id) in
    let whole : take c.loop-id.id-index c.args.ids.now ≡ c.args.ids.now = take_all c.loop-id.id-index c.args.ids.now (omega (arith, c.loop-id-test.false)) in
    c.loop-id.invariant q ∙ ap (λ (xs : List ℕ). list_any (λ b. eqb b q) c.args.barred.now || (list_any (λ id. eqb q id) xs && p q)) whole
