use Rattle.std.proofs.Common.{ℕ, List, ap, rules, arith, ◌∙◌, string_bytes}
use Rattle.json.specs.Json.{string}
use Rattle.json.specs.Value.{value_view}
use Rattle.table_receipts.proofs.ListReads.{reads_all, reads_none, reads_on, every}
use Rattle.table_receipts.proofs.part_reading.texts_of.Goals as goal

pub loop-item-init : goal.loop-item-init
loop-item-init c = reads_none value_view string_bytes string (λ (text : List ℕ). Unit {0}) c.args.items.now _ (search rules)

pub loop-item-preserved : goal.loop-item-preserved
loop-item-preserved c =
    reads_on value_view string_bytes string (λ (text : List ℕ). Unit {0}) c.args.items.now c.loop-item.item-index c.item-item.result _ _ c.in_ok-from_str.field-0 c.loop-item.invariant c.loop-item-test.true
    (λ v fits is. c.in_ok-from_str.ensures.ok ∙ c.text_in.ensures v (ap value_view c.item-item.is ∙ is)) c.in_ok-push.ensures.items

pub returns : goal.returns
returns c texts is =
    reads_all value_view string_bytes string (λ (text : List ℕ). Unit {0}) c.args.items.now c.loop-item.item-index c.loop-item.texts.items texts c.loop-item.invariant (omega (arith, c.loop-item-test.false)) (every texts) is
