use Rattle.std.proofs.Common.{◌≡◌, ℕ, List, take, eqb, ap, ◌∙◌, arith, rules}
use Rattle.std.proofs.lemmas.List.{take_all}
use Rattle.std.specs.Prelude.{◌||◌}
use Rattle.std.specs.List.{list_any}
use Rattle.ipfix_datagrams.proofs.LateIds.{listed_more}
use Rattle.ipfix_datagrams.proofs.known_templates.both.Goals as goal

pub loop-id-preserved : goal.loop-id-preserved
loop-id-preserved c = record {
  once = λ distinct. c.in_ok-put_id.ensures.once (c.loop-id.invariant.once distinct);
  all = λ q. listed_more c.args.ids.now c.args.more.now c.loop-id.id-index q (list_any (λ b. eqb b q) c.loop-id.all.items) (list_any (λ b. eqb b q) c.put_id.new.all.items) (search rules) (c.loop-id.invariant.all q) (c.in_ok-put_id.ensures.puts q);
}

pub returns-clause-both : goal.returns-clause-both
returns-clause-both c = λ q.
    let whole : take c.loop-id.id-index c.args.more.now ≡ c.args.more.now = take_all c.loop-id.id-index c.args.more.now (omega (arith, c.loop-id-test.false)) in
    c.loop-id.invariant.all q ∙ ap (λ (xs : List ℕ). list_any (λ b. eqb b q) c.args.ids.now || list_any (λ b. eqb b q) xs) whole
