-- Files whose rows were counted one after another.
use Rattle.std.proofs.Common.{◌≡◌, ◌<◌, ◌≤◌, ℕ, suc, ◌+◌, Option, None, Some, List, [], ◌∷◌, ◌++◌, length, Bool, true, false, refl, sym, ap, subst, ◌∙◌, append-nil, arith}
use Rattle.std.specs.Prelude.{nat_lt, if◌then◌else◌}
use Rattle.std.proofs.lemmas.Bool.{lt-ltb, le-ltb}
use Rattle.std.proofs.lemmas.Slice.Zip.{AllZip-long}
use Rattle.flow_table.specs.Plans.{PlanValue}
use Rattle.flow_table.specs.declared.table.Table.{Table}
use Rattle.period_collect.specs.LeftOutFiles.{Alone}
use Rattle.period_collect.specs.ManyRows.{AreLarge, HasRows, places_above, row_count}
use Rattle.period_collect.specs.Parting.{IsOwnTable}
use Rattle.period_collect.proofs.OwnTablesKept.{zip_more}

-- the rows of the table of one
pub has_rows : (plan : PlanValue) (alone : Alone) (table : Option Table) (n : ℕ) → IsOwnTable plan alone table → n ≡ row_count table → HasRows plan alone n
has_rows plan None None n own is = is
has_rows plan None (Some table) n own is = absurd own
has_rows plan (Some rs) None n own is = absurd own
has_rows plan (Some rs) (Some table) n own is = (table, own.0, sym is)

-- ---- one more

abbrev picked : Bool → ℕ → List ℕ → List ℕ
picked goes place places = if goes then place ∷ places else places

picked_append : (goes : Bool) (place : ℕ) (xs ys : List ℕ) → picked goes place (xs ++ ys) ≡ picked goes place xs ++ ys
picked_append true place xs ys = refl
picked_append false place xs ys = refl

above_more : (limit place : ℕ) (rows : List ℕ) (n at : ℕ) → at ≡ place + length rows
    → places_above limit place (rows ++ n ∷ []) ≡ places_above limit place rows ++ picked (nat_lt limit n) at []
above_more limit place [] n at is = let same : place ≡ at = omega (arith, is) in ap (λ (m : ℕ). picked (nat_lt limit n) m []) same
above_more limit place (r ∷ rows) n at is =
    let same : at ≡ suc place + length rows = omega (arith, is) in
    ap (picked (nat_lt limit r) place) (above_more limit (suc place) rows n at same)
    ∙ picked_append (nat_lt limit r) place (places_above limit (suc place) rows) (picked (nat_lt limit n) at [])

from_zero : (n m k : ℕ) → n ≡ m → k ≡ m → n ≡ 0 + k
from_zero n m k is same = omega (arith, is, same)

pub none_large : (plan : PlanValue) (limit : ℕ) (large : List ℕ) → large ≡ [] → AreLarge plan limit [] large
none_large plan limit large is = record { rows = []; have = tt; are = is }

one_more : (plan : PlanValue) (limit : ℕ) (alone : List Alone) (a : Alone) (large : List ℕ) (n place : ℕ) → place ≡ length alone → AreLarge plan limit alone large → HasRows plan a n
    → AreLarge plan limit (alone ++ a ∷ []) (large ++ picked (nat_lt limit n) place [])
one_more plan limit alone a large n place is before has = record {
  rows = before.rows ++ n ∷ [];
  have = zip_more (HasRows plan) alone before.rows a n before.have has;
  are = ap (λ (l : List ℕ). l ++ picked (nat_lt limit n) place []) before.are
      ∙ sym (above_more limit 0 before.rows n place (from_zero place (length alone) (length before.rows) is (AllZip-long (HasRows plan) alone before.rows before.have)));
}

-- one that has more rows, and one that hasn't
pub large_on : (plan : PlanValue) (limit : ℕ) (alone : List Alone) (a : Alone) (large longer : List ℕ) (n place : ℕ) → place ≡ length alone → AreLarge plan limit alone large → HasRows plan a n
    → limit < n → longer ≡ large ++ place ∷ [] → AreLarge plan limit (alone ++ a ∷ []) longer
large_on plan limit alone a large longer n place is before has more longer_is =
    subst (AreLarge plan limit (alone ++ a ∷ [])) (ap (λ (goes : Bool). large ++ picked goes place []) (lt-ltb limit n more) ∙ sym longer_is) (one_more plan limit alone a large n place is before has)

pub small_on : (plan : PlanValue) (limit : ℕ) (alone : List Alone) (a : Alone) (large : List ℕ) (n place : ℕ) → place ≡ length alone → AreLarge plan limit alone large → HasRows plan a n
    → n ≤ limit → AreLarge plan limit (alone ++ a ∷ []) large
small_on plan limit alone a large n place is before has few =
    subst (AreLarge plan limit (alone ++ a ∷ [])) (ap (λ (goes : Bool). large ++ picked goes place []) (le-ltb limit n few) ∙ append-nil large) (one_more plan limit alone a large n place is before has)
