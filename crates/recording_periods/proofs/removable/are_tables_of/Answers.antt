use Rattle.std.proofs.Common.{◌≡◌, ◌∷◌, length, arith, rules}
use Rattle.recording_periods.specs.Removable.{HasTableOf}
use Rattle.recording_periods.proofs.Loops.{all_at_end, more_all, not_later, not_this}
use Rattle.recording_periods.proofs.removable.are_tables_of.Goals as goal

pub returns-then-not-is_table_of : goal.returns-then-not-is_table_of
returns-then-not-is_table_of c =
    let split : c.loop-receipt.left.now ≡ c.in-Some.receipt.now ∷ c.in-Some.rest.now = search rules in
    not_this (HasTableOf c.args.files.now) c.args.receipts.now c.loop-receipt.left.now c.in-Some.rest.now c.in-Some.receipt.now split c.loop-receipt.invariant.none (search rules)

pub loop-receipt-preserved : goal.loop-receipt-preserved
loop-receipt-preserved c =
    let split : c.loop-receipt.left.now ≡ c.in-Some.receipt.now ∷ c.in-Some.rest.now = search rules in
    record {
      all = more_all (HasTableOf c.args.files.now) c.args.receipts.now c.loop-receipt.left.now c.in-Some.rest.now c.in-Some.receipt.now split c.loop-receipt.invariant.all (search rules);
      none = not_later (HasTableOf c.args.files.now) c.args.receipts.now c.loop-receipt.left.now c.in-Some.rest.now c.in-Some.receipt.now split c.loop-receipt.invariant.none;
    }

pub returns : goal.returns
returns c =
    let empty : length c.loop-receipt.left.now ≡ 0 = grind (arith, c.split_first.ensures.variant) in
    all_at_end (HasTableOf c.args.files.now) c.args.receipts.now c.loop-receipt.left.now c.loop-receipt.invariant.all empty
