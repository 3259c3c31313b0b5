-- A flow's shares added at an interval.
use Rattle.std.proofs.Common.{◌≡◌, ℕ, ◌+◌, ◌<◌, ◌≤◌, Bool, cond, eqb, inl, inr, List, [], ◌∷◌, length, Option, Some, Result, Ok, Err, OnOk, OnErr, IfErr, refl, sym, ap, ◌∙◌, option_map, arith}
use Rattle.std.proofs.lemmas.Bool.Decides.{eqb_tells}
use Rattle.std.proofs.lemmas.List.{length-map}
use Rattle.ipfix_elements.specs.declared.cell.Cell.{Cell}
use Rattle.flow_table.specs.declared.flow.Flow.{Flow}
use Rattle.flow_table.specs.Flows.{AreShares, HasIntervals, flow_total, shares_of}
use Rattle.flow_table.specs.Intervals.{share}
use Rattle.flow_table.specs.Plans.{PlanValue}
use Rattle.flow_table.specs.Rows.{AddsRow, AreAlike, AreRowsOf, TooLargeWith, kept_at, number_at, place_part}
use Rattle.flow_table.specs.Totals.{total, joined, IsLargeAt}
use Rattle.flow_table.specs.Words.{key_words, padded, place_words}
use Rattle.flow_table.specs.declared.rows.Rows.{Rows}
use Rattle.flow_table.specs.declared.table_fault.TableFault.{TableFault}
use Rattle.flow_table.specs.declared.table_fault.TableFault.TheVariants.{SumTooLarge}
use Rattle.flow_table.proofs.Kept.{add_joins, add_keeps, add_large}

pub words_of_place : (plan : PlanValue) (k : ℕ) (key : List Cell) (words : List ℕ) → key_words plan.kinds key ≡ Some words → place_words plan k key ≡ Some (k ∷ words)
words_of_place plan k key words h = ap (λ (o : Option (List ℕ)). option_map (λ (ws : List ℕ). k ∷ ws) o) h

-- what changes no number changes nothing else
pub unchanged : (plan : PlanValue) (old new : Rows) → AreAlike new old → ((q : List ℕ) (i : ℕ) → number_at new q i ≡ number_at old q i) → AreRowsOf plan old → AreRowsOf plan new
unchanged plan old new alike same of =
    record {
      wide = let w = of.wide in omega (arith, alike.0);
      deep = let d = of.deep in omega (arith, alike.1);
      places = λ q h. let p = of.places q (omega (arith, same q 0)) in record { interval = p.interval; key = p.key; words = p.words; are = p.are; padded_are = p.padded_are ∙ ap (λ (w : ℕ). padded w p.words) (sym alike.0) };
      counted = λ q i e. omega (arith, same q i, of.counted q i (omega (arith, same q 0)));
      none_behind = λ q i l. omega (arith, same q i, of.none_behind q i l);
    }

module _ (plan : PlanValue) (old new : Rows) (k : ℕ) (key : List Cell) (words : List ℕ) (flows : ℕ) (sums : List ℕ) (r : Result (Unit {0}) TableFault) (are : key_words plan.kinds key ≡ Some words) (some : 0 < flows) (long : length sums ≡ length plan.counters) (alike : AreAlike new old) where
  pub add_of_plan : OnOk r (AddsRow old (k ∷ words) (flows ∷ sums) new) → OnErr r ((q : List ℕ) (i : ℕ) → number_at new q i ≡ number_at old q i) → AreRowsOf plan old → AreRowsOf plan new
  add_of_plan = by r
    where
      by : (a : Result (Unit {0}) TableFault) → OnOk a (AddsRow old (k ∷ words) (flows ∷ sums) new) → OnErr a ((q : List ℕ) (i : ℕ) → number_at new q i ≡ number_at old q i) → AreRowsOf plan old → AreRowsOf plan new
      by (Ok x) adds same of = add_keeps plan old new k key (k ∷ words) flows sums of (words_of_place plan k key words are) some long alike adds
      by (Err e) adds same of = unchanged plan old new alike same of

  pub add_totals : AreRowsOf plan old → OnOk r (AddsRow old (k ∷ words) (flows ∷ sums) new) → OnOk r ((j : ℕ) (q : List Cell) → kept_at plan new j q ≡ joined (kept_at plan old j q) (place_part k key (total sums flows) j q))
  add_totals of = by r
    where
      by : (a : Result (Unit {0}) TableFault) → OnOk a (AddsRow old (k ∷ words) (flows ∷ sums) new) → OnOk a ((j : ℕ) (q : List Cell) → kept_at plan new j q ≡ joined (kept_at plan old j q) (place_part k key (total sums flows) j q))
      by (Ok x) adds = add_joins plan old new k key (k ∷ words) flows sums of (words_of_place plan k key words are) some long alike adds
      by (Err e) adds = tt

  pub add_too_large : AreRowsOf plan old → TooLargeWith r old (k ∷ words) (flows ∷ sums)
      → IfErr r (λ e. e ≡ SumTooLarge → IsLargeAt (joined (kept_at plan old k key) (Some (total sums flows))))
  add_too_large of = by r
    where
      by : (a : Result (Unit {0}) TableFault) → TooLargeWith a old (k ∷ words) (flows ∷ sums)
          → IfErr a (λ e. e ≡ SumTooLarge → IsLargeAt (joined (kept_at plan old k key) (Some (total sums flows))))
      by (Ok x) large = tt
      by (Err e) large = λ same. add_large plan old new k key (k ∷ words) flows sums of (words_of_place plan k key words are) some long (large same)

pub shares_long : (plan : PlanValue) (s e k : ℕ) (counters shares : List ℕ) → shares ≡ shares_of plan s e counters k → length counters ≡ length plan.counters → length shares ≡ length plan.counters
shares_long plan s e k counters shares is long = ap length is ∙ length-map counters (λ value. share plan s e value k) ∙ long

pub flow_total_is : (plan : PlanValue) (s e k : ℕ) (counters shares : List ℕ) → shares ≡ shares_of plan s e counters k → total shares 1 ≡ flow_total plan s e counters k
unfolding flow_total
flow_total_is plan s e k counters shares is = ap (λ (ns : List ℕ). total ns 1) is

-- an interval that gets all of each counter
whole_shares : (plan : PlanValue) (s e k : ℕ) (counters : List ℕ) → ((n : ℕ) → share plan s e n k ≡ n) → counters ≡ shares_of plan s e counters k
whole_shares plan s e k [] all = refl
whole_shares plan s e k (n ∷ ns) all =
    let here = all n in
    let later = whole_shares plan s e k ns all in
    cc

-- the counters where a flow has one interval, and else its shares
pub picked_shares : (plan : PlanValue) (flow : Flow) (k : ℕ) (counters shares sums : List ℕ) → HasIntervals plan flow → (flow.first ≤ k) × (k < flow.first + flow.count)
    → sums ≡ cond (eqb flow.count 1) counters shares → AreShares plan flow counters k shares → sums ≡ shares_of plan flow.span.start flow.span.end counters k
picked_shares plan flow k counters shares sums has within picked others =
    elim (eqb_tells flow.count 1) as (λ _. sums ≡ shares_of plan flow.span.start flow.span.end counters k) [
      | inl one ↦
          let only : flow.first ≡ k = omega (arith, one.1, within.0, within.1) in
          let alone : (n : ℕ) → share plan flow.span.start flow.span.end n k ≡ n = λ n. ap (λ (j : ℕ). share plan flow.span.start flow.span.end n j) (sym only) ∙ has.alone one.1 n in
          picked ∙ ap (λ (b : Bool). cond b counters shares) one.0 ∙ whole_shares plan flow.span.start flow.span.end k counters alone
      | inr more ↦ picked ∙ ap (λ (b : Bool). cond b counters shares) more.0 ∙ others more.1
    ]
