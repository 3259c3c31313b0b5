-- Which row is named where a sum is too large.
use Rattle.std.proofs.Common.{◌≡◌, ℕ, ◌^◌, ◌≤◌, List, [], ◌++◌, Option, Some, None, Result, Err, sym, ap, ◌∙◌, subst, inl, inr, arith, append-nil}
use Rattle.std.specs.Result.{result_err}
use Rattle.ipfix_elements.specs.declared.cell.Cell.{Cell}
use Rattle.ipfix_message.specs.declared.record.DataRecord.{DataRecord}
use Rattle.flow_table.specs.Partials.{totals_at, HoldsTable, IsNamed, LargeWith, NamesRow}
use Rattle.flow_table.specs.Plans.{PlanValue}
use Rattle.flow_table.specs.Tables.{count_of, sum_at, AreTooMany, IsTooLarge, IsTooLargeAt}
use Rattle.flow_table.specs.Totals.{Total, joined, IsLargeAt}
use Rattle.flow_table.specs.Words.{key_from, key_words}
use Rattle.flow_table.specs.declared.adding.Room.{Room}
use Rattle.flow_table.specs.declared.rows.Rows.{Rows}
use Rattle.flow_table.specs.declared.table_fault.TableFault.{TableFault}
use Rattle.flow_table.specs.declared.table_fault.TableFault.TheVariants.{SumTooLarge}
use Rattle.flow_table.specs.declared.tally.Tally.{Tally}
use Rattle.flow_table.proofs.CellWords.{key_back}
use Rattle.flow_table.proofs.Holding.{too_large_sum}
use Rattle.flow_table.proofs.Sums.{count_of-append, flows_at-append, large_place, sum_at-append, totals_at-append}

-- ---- what is too large stays so

many_more : (plan : PlanValue) (rs qs : List DataRecord) → AreTooMany plan rs → AreTooMany plan (rs ++ qs)
many_more plan rs qs many =
    let big : 2 ^ 64 ≤ count_of plan rs many.0 = many.1 in
    (many.0, omega (arith, count_of-append plan rs qs many.0))

many_behind : (plan : PlanValue) (rs qs : List DataRecord) → AreTooMany plan qs → AreTooMany plan (rs ++ qs)
many_behind plan rs qs many =
    let big : 2 ^ 64 ≤ count_of plan qs many.0 = many.1 in
    (many.0, omega (arith, count_of-append plan rs qs many.0))

large_more : (plan : PlanValue) (rs qs : List DataRecord) (k : ℕ) (key : List Cell) → IsTooLargeAt plan rs k key → IsTooLargeAt plan (rs ++ qs) k key
large_more plan rs qs k key (inl large) =
    let big : 2 ^ 64 ≤ sum_at plan rs k key large.0 = large.2 in
    inl (large.0, large.1, omega (arith, sum_at-append plan rs qs k key large.0))
large_more plan rs qs k key (inr large) = inr (omega (arith, flows_at-append plan rs qs k key))

large_behind : (plan : PlanValue) (rs qs : List DataRecord) (k : ℕ) (key : List Cell) → IsTooLargeAt plan qs k key → IsTooLargeAt plan (rs ++ qs) k key
large_behind plan rs qs k key (inl large) =
    let big : 2 ^ 64 ≤ sum_at plan qs k key large.0 = large.2 in
    inl (large.0, large.1, omega (arith, sum_at-append plan rs qs k key large.0))
large_behind plan rs qs k key (inr large) = inr (omega (arith, flows_at-append plan rs qs k key))

named_more : (plan : PlanValue) (o : Option ℕ) (words : List ℕ) (rs qs : List DataRecord) → IsNamed plan o words rs → IsNamed plan o words (rs ++ qs)
named_more plan None words rs qs named = many_more plan rs qs named
named_more plan (Some k) words rs qs named = large_more plan rs qs k (key_from plan.kinds words) named

named_behind : (plan : PlanValue) (o : Option ℕ) (words : List ℕ) (rs qs : List DataRecord) → IsNamed plan o words qs → IsNamed plan o words (rs ++ qs)
named_behind plan None words rs qs named = many_behind plan rs qs named
named_behind plan (Some k) words rs qs named = large_behind plan rs qs k (key_from plan.kinds words) named

pub names_on : (fault : Option TableFault) (plan : PlanValue) (room : Room) (rs qs : List DataRecord) → NamesRow fault plan room rs → NamesRow fault plan room (rs ++ qs)
names_on fault plan room rs qs names = λ large. named_more plan room.last room.words.items rs qs (names large)

-- the row of what is merged in
pub names_taken : (plan other : PlanValue) (room : Room) (rs qs : List DataRecord) (o : Option TableFault) (e : TableFault) → other ≡ plan → o ≡ Some e → NamesRow o other room qs → NamesRow (Some e) plan room (rs ++ qs)
names_taken plan other room rs qs o e same is names = λ large.
    subst (λ (p : PlanValue). IsNamed p room.last room.words.items (rs ++ qs)) same
    (named_behind other room.last room.words.items rs qs (names (is ∙ large)))

-- ---- a fault

-- a fault after which room is as it was left
pub names_err : {X : Type 0} (plan : PlanValue) (room : Room) (rs : List DataRecord) (r : Result X TableFault) (e : TableFault) → r ≡ Err e → (e ≡ SumTooLarge → IsNamed plan room.last room.words.items rs) → NamesRow (result_err r) plan room rs
names_err {X} plan room rs r e is h = subst (λ (a : Result X TableFault). NamesRow (result_err a) plan room rs) (sym is) (λ large. h (unwrapped e large))
  where
    unwrapped : (f : TableFault) → Some f ≡ Some SumTooLarge → f ≡ SumTooLarge
    unwrapped f same = cc

-- records that are too many, where no row was added to
pub many_named : (plan : PlanValue) (o : Option ℕ) (words : List ℕ) (rs : List DataRecord) → o ≡ None → AreTooMany plan rs → IsNamed plan o words rs
many_named plan o words rs none many = subst (λ (p : Option ℕ). IsNamed plan p words rs) (sym none) many

-- the totals of a row, with those of more records
pub large_named : (plan : PlanValue) (old : Rows) (before : Tally) (room : Room) (rs qs : List DataRecord) → HoldsTable plan old before rs → LargeWith plan old (totals_at plan qs) room → IsNamed plan room.last room.words.items (rs ++ qs)
large_named plan old before room rs qs holds large =
    let k = large.0 in
    let key = key_from plan.kinds room.words.items in
    let there = subst IsLargeAt (ap (λ (o : Option Total). joined o (totals_at plan qs k key)) (holds.totals_are k key) ∙ sym (totals_at-append plan rs qs k key)) large.2 in
    subst (λ (o : Option ℕ). IsNamed plan o room.words.items (rs ++ qs)) (sym large.1) (large_place plan (rs ++ qs) k key there)

pub large_there : (plan : PlanValue) (old : Rows) (before : Tally) (room : Room) (rs qs : List DataRecord) → HoldsTable plan old before rs → LargeWith plan old (totals_at plan qs) room → IsTooLarge plan (rs ++ qs)
large_there plan old before room rs qs holds large = too_large_sum plan old before rs qs holds (large.0, key_from plan.kinds room.words.items, large.2)

-- the key whose words room has
pub key_in_room : (plan : PlanValue) (key : List Cell) (words : List ℕ) → key_words plan.kinds key ≡ Some words → key_from plan.kinds words ≡ key
key_in_room plan key words are = ap (λ (ws : List ℕ). key_from plan.kinds ws) (sym (append-nil words)) ∙ key_back plan.kinds key words [] are
