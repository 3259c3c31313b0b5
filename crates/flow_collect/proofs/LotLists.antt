-- Lots, and one behind another.
use Rattle.std.proofs.Common.{◌≡◌, ℕ, ◌+◌, ◌*◌, ◌/◌, ◌%◌, ◌≤◌, List, ◌++◌, take, drop, refl, sym, ◌∙◌, subst, arith}
use Rattle.std.proofs.lemmas.Grind.{flat_map-append}
use Rattle.std.proofs.lemmas.List.{take-append-drop}
use Rattle.std.proofs.lemmas.Nat.{div-add-mod'}
use Rattle.std.proofs.Math.Nat.{mul-le-mul_left}
use Rattle.ipfix_message.specs.declared.record.DataRecord.{DataRecord}
use Rattle.ipfix_session.specs.Sources.{SourceView}
use Rattle.flow_table.specs.Partials.{StandsFor, plan_of}
use Rattle.flow_table.specs.Plans.{PlanValue}
use Rattle.flow_table.specs.Tables.{IsTable, IsTooLarge}
use Rattle.flow_table.specs.declared.table.Table.{Table}
use Rattle.flow_collect.specs.Headline.{IsAddedUp, all_of}
use Rattle.flow_collect.specs.InFull.{IsGivenInContext}
use Rattle.flow_collect.specs.Places.{Each4}
use Rattle.flow_collect.specs.Refusals.{AreTooLargeInContext}
use Rattle.flow_collect.specs.Serials.{LotRan, MergesLots}
use Rattle.flow_collect.specs.declared.lots.Lot.{Lot}
use Rattle.flow_collect.specs.declared.session_context.InContext.{InContext}
use Rattle.flow_collect.proofs.Contexts.{too_large_due}
use Rattle.flow_collect.proofs.PlaceLists.{each4_append}

-- half of the lots get no more sources than there are
pub half_fits : (n k h m : ℕ) → h ≤ k → m ≤ n % k → n / k * h + m ≤ n
half_fits n k h m half rest =
    let most : n / k * h ≤ n / k * k = mul-le-mul_left (n / k) half in
    let all : n / k * k + n % k ≡ n = div-add-mod' n k in
    omega arith

-- the lot of all sources is that of the first, and behind it that of the others
pub lots_merged : {S : Type 0} (seen : S → SourceView) (plan : PlanValue) (n : ℕ) (befores first second : List (InContext S)) (a b c : Lot S)
    → first ≡ take n befores → second ≡ drop n befores → LotRan seen first plan a → LotRan seen second plan b → MergesLots a b c → LotRan seen befores plan c
lots_merged {S = S} seen plan n befores first second a b c cut rest one two m =
    let whole : first ++ second ≡ befores = rw (cut, rest) (take-append-drop n befores) in
    let given = each4_append (IsGivenInContext seen) first second a.sources.items b.sources.items a.sessions.items b.sessions.items one.records two.records one.given two.given in
    record {
      records = one.records ++ two.records;
      given = rw (m.sources_are, m.sessions_are) (subst (λ (l : List (InContext S)). Each4 (IsGivenInContext seen) l (a.sources.items ++ b.sources.items) (a.sessions.items ++ b.sessions.items) (one.records ++ two.records)) whole given);
      plan_is = m.plan_is ∙ one.plan_is;
      stands = subst (StandsFor c.partial) (sym (flat_map-append (λ (q : List DataRecord). q) one.records two.records)) (m.merges (all_of one.records) (all_of two.records) one.stands two.stands);
    }

-- ---- what is made of a lot

module _ {S : Type 0} (seen : S → SourceView) (plan : PlanValue) (befores : List (InContext S)) (lot : Lot S) (r : LotRan seen befores plan lot) where
  -- its table
  pub lot_added_up : (table : Table) → IsTable (plan_of lot.partial) (all_of r.records) table → (IsTooLarge (plan_of lot.partial) (all_of r.records) → ⊥) → IsAddedUp plan (all_of r.records) table
  lot_added_up table is small = record {
    table_is = subst (λ (p : PlanValue). IsTable p (all_of r.records) table) r.plan_is is;
    not_too_large = subst (λ (p : PlanValue). IsTooLarge p (all_of r.records) → ⊥) r.plan_is small;
  }

  -- what is too large of it is too large of the whole texts
  pub lot_too_large : IsTooLarge (plan_of lot.partial) (all_of r.records) → AreTooLargeInContext seen plan befores
  lot_too_large large =
      too_large_due seen plan befores lot.sources.items lot.sessions.items r.records (all_of r.records) r.given (λ w. refl) (subst (λ (p : PlanValue). IsTooLarge p (all_of r.records)) r.plan_is large)
