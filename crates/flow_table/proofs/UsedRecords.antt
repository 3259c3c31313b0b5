-- A record that is left out by no class is used, and one that is too long alone is so.
use Rattle.std.proofs.Common.{◌≡◌, ℕ, ◌^◌, ◌<◌, ◌≤◌, false, true, List, Some, refl}
use Rattle.std.proofs.lemmas.Bool.{le-ltb}
use Rattle.ipfix_elements.specs.declared.cell.Cell.{Cell}
use Rattle.ipfix_message.specs.declared.record.DataRecord.{DataRecord}
use Rattle.flow_table.specs.declared.class.Class.TheVariants.{TooLong}
use Rattle.flow_table.specs.Plans.{PlanValue}
use Rattle.flow_table.specs.Reading.{class_of, start_of, end_of, key_of, is_too_long, IsUsed}

pub is_used : (plan : PlanValue) (r : DataRecord) (s e : ℕ) (key : List Cell) → r.scope ≤ 0 → start_of plan.choices.times r ≡ Some s → end_of plan.choices.times r ≡ Some e → s ≤ e → e < 2 ^ 50 → key_of plan r ≡ Some key → is_too_long plan s e ≡ false → IsUsed plan r s e key
is_used plan r s e key plain start end forward in_time cells in_spread =
    record {
      used = rw (le-ltb 0 r.scope plain, start, end, le-ltb e s forward, cells, in_spread);
      start = start;
      end = end;
      cells = cells;
      forward = forward;
      in_time = in_time;
      in_spread = in_spread;
    }

pub is_left_too_long : (plan : PlanValue) (r : DataRecord) (s e : ℕ) (key : List Cell) → r.scope ≤ 0 → start_of plan.choices.times r ≡ Some s → end_of plan.choices.times r ≡ Some e → s ≤ e → key_of plan r ≡ Some key → is_too_long plan s e ≡ true → class_of plan r ≡ TooLong
is_left_too_long plan r s e key plain start end forward cells long = rw (le-ltb 0 r.scope plain, start, end, le-ltb e s forward, cells, long) refl
