-- What a partial table holds after more records.
use Rattle.std.proofs.Common.{◌≡◌, ◌≢◌, ◌+◌, ◌^◌, ◌<◌, ◌≤◌, ℕ, true, false, List, [], ◌∷◌, ◌++◌, Option, Some, None, Result, Ok, Err, OnOk, IfOk, IfErr, refl, sym, ap, ◌∙◌, subst, arith}
use Rattle.std.specs.Result.{result_err}
use Rattle.std.specs.Option.{IsSome, IfSome}
use Rattle.ipfix_elements.specs.declared.cell.Cell.{Cell}
use Rattle.ipfix_message.specs.declared.record.DataRecord.{DataRecord}
use Rattle.flow_table.specs.declared.class.Class.{Class}
use Rattle.flow_table.specs.declared.class.Class.TheVariants.{Options, Untimed, Backward, Unkeyed, TooLong, Used}
use Rattle.flow_table.specs.declared.left_out.LeftOut.{LeftOut}
use Rattle.flow_table.specs.declared.missing.Missing.{Missing}
use Rattle.flow_table.specs.declared.tally.Tally.{Tally}
use Rattle.flow_table.specs.declared.table_fault.TableFault.{TableFault}
use Rattle.flow_table.specs.declared.table_fault.TableFault.TheVariants.{OutOfMemory, SumTooLarge}
use Rattle.flow_table.specs.declared.reading.Reading.TheVariants.{Left}
use Rattle.flow_table.specs.Fitting.{KeysFit}
use Rattle.flow_table.specs.Flows.{AtLast, flow_part}
use Rattle.flow_table.specs.LeftOut.{class_in, IsLeftOut}
use Rattle.flow_table.specs.Missing.{missing_of, missing_sum, IsSmall}
use Rattle.flow_table.specs.Plans.{PlanValue}
use Rattle.flow_table.specs.Reading.{class_of, counters_of, IsUsed}
use Rattle.flow_rows.specs.Rows.{Small, SomeTooLarge}
use Rattle.flow_table.specs.Rows.{AreAlike, AreRowsOf, kept_at, number_at, width_of}
use Rattle.flow_table.specs.Words.{key_from}
use Rattle.flow_table.specs.declared.adding.Room.{Room}
use Rattle.flow_table.specs.declared.rows.Rows.{Rows}
use Rattle.ipfix_message.specs.Outcome.{unless}
use Rattle.flow_table.specs.Partials.{AreTooManyTogether, totals_at, HoldsTable, LargeWith, NotesMore, StandsBy, tally_sum, one_of, count_in, tally}
use Rattle.flow_table.specs.Tables.{count_of, flows_at, tally_of, AreTooMany, IsTooLarge}
use Rattle.flow_table.specs.Totals.{Total, joined, IsLargeAt}
use Rattle.flow_table.proofs.Fits.{no_keys_fit, read_keys_fit, both_keys_fit}
use Rattle.flow_table.proofs.Bags.{turned, too_large_bag, too_large_more as too_large_stay}
use Rattle.flow_table.proofs.Lacking.{missing_of-append, missing_small, not_used}
use Rattle.flow_table.proofs.Kept.{kept_small, merge_joins, merge_keeps, merge_large}
use Rattle.flow_table.proofs.Sums.{same_tally, totals_at-append, totals_at-left, totals_at-used, tally_of-append, tally_of-one, count_of-append, too_large_at, small_from}

-- ---- tallies

count_in-tally : (plan : PlanValue) (rs : List DataRecord) (class : Class) → count_in (tally_of plan rs) class ≡ count_of plan rs class
count_in-tally plan rs Options = refl
count_in-tally plan rs Untimed = refl
count_in-tally plan rs Backward = refl
count_in-tally plan rs Unkeyed = refl
count_in-tally plan rs TooLong = refl
count_in-tally plan rs Used = refl

-- six counts of 64 bits
pub counts_fit : (a b c d e f : ℕ) → a < 2 ^ 64 → b < 2 ^ 64 → c < 2 ^ 64 → d < 2 ^ 64 → e < 2 ^ 64 → f < 2 ^ 64 → (class : Class) → count_in (tally a b c d e f) class < 2 ^ 64
counts_fit a b c d e f p q r s t u Options = p
counts_fit a b c d e f p q r s t u Untimed = q
counts_fit a b c d e f p q r s t u Backward = r
counts_fit a b c d e f p q r s t u Unkeyed = s
counts_fit a b c d e f p q r s t u TooLong = t
counts_fit a b c d e f p q r s t u Used = u

-- ---- more records

pub holds_more : (plan : PlanValue) (old new : Rows) (before after : Tally) (rs qs : List DataRecord) → HoldsTable plan old before rs → KeysFit plan qs → AreRowsOf plan new
    → ((k : ℕ) (q : List Cell) → kept_at plan new k q ≡ joined (kept_at plan old k q) (totals_at plan qs k q))
    → ((k : ℕ) (q : List Cell) → (IsLargeAt (kept_at plan old k q) → ⊥) → IsLargeAt (kept_at plan new k q) → ⊥)
    → after ≡ tally_sum before (tally_of plan qs) → ((class : Class) → count_in after class < 2 ^ 64) → HoldsTable plan new after (rs ++ qs)
holds_more plan old new before after rs qs holds keys of_plan step fits sum counts =
    record {
      of_plan = of_plan;
      totals_are = totals;
      tally_is = tallies;
      small = small_from plan (rs ++ qs) (λ k q big. fits k q (λ b. holds.small (too_large_at plan rs k q (subst IsLargeAt (holds.totals_are k q) b))) (subst IsLargeAt (sym (totals k q)) big))
          (λ class. omega (arith, counts class, ap (λ (t : Tally). count_in t class) tallies, count_in-tally plan (rs ++ qs) class));
      keys_fit = both_keys_fit plan rs qs holds.keys_fit keys;
    }
  where
    totals : (k : ℕ) (q : List Cell) → kept_at plan new k q ≡ totals_at plan (rs ++ qs) k q
    totals k q = step k q ∙ ap (λ (o : Option Total). joined o (totals_at plan qs k q)) (holds.totals_are k q) ∙ sym (totals_at-append plan rs qs k q)

    tallies : after ≡ tally_of plan (rs ++ qs)
    tallies = sum ∙ ap (λ (t : Tally). tally_sum t (tally_of plan qs)) holds.tally_is ∙ sym (tally_of-append plan rs qs)

pub too_large_sum : (plan : PlanValue) (old : Rows) (before : Tally) (rs qs : List DataRecord) → HoldsTable plan old before rs
    → (k : ℕ) × (q : List Cell) × IsLargeAt (joined (kept_at plan old k q) (totals_at plan qs k q)) → IsTooLarge plan (rs ++ qs)
too_large_sum plan old before rs qs holds large =
    let k = large.0 in
    let q = large.1 in
    too_large_at plan (rs ++ qs) k q
    (subst IsLargeAt (ap (λ (o : Option Total). joined o (totals_at plan qs k q)) (holds.totals_are k q) ∙ sym (totals_at-append plan rs qs k q)) large.2)

pub count_too_large : (plan : PlanValue) (old : Rows) (before more : Tally) (rs qs : List DataRecord) → HoldsTable plan old before rs → more ≡ tally_of plan qs
    → AreTooManyTogether before more → AreTooMany plan (rs ++ qs)
count_too_large plan old before more rs qs holds is large =
    let class = large.0 in
    let big : 2 ^ 64 ≤ count_in before class + count_in more class = large.1 in
    (class, omega (arith, big, ap (λ (t : Tally). count_in t class) holds.tally_is, ap (λ (t : Tally). count_in t class) is, count_in-tally plan rs class, count_in-tally plan qs class, count_of-append plan rs qs class))

-- ---- one record

one_more : (plan : PlanValue) (r : DataRecord) (class : Class) (before after : Tally) → class_of plan r ≡ class → after ≡ tally_sum before (one_of class) → after ≡ tally_sum before (tally_of plan (r ∷ []))
one_more plan r class before after is sum = sum ∙ ap (λ (c : Class). tally_sum before (one_of c)) (sym is) ∙ ap (λ (t : Tally). tally_sum before t) (sym (tally_of-one plan r))

one_is_tally : (plan : PlanValue) (r : DataRecord) (class : Class) → class_of plan r ≡ class → one_of class ≡ tally_of plan (r ∷ [])
one_is_tally plan r class is = ap one_of (sym is) ∙ sym (tally_of-one plan r)

-- a record that is left out adds nothing
left_out : (plan : PlanValue) (rows : Rows) (r : DataRecord) → class_of plan r ≢ Used → (k : ℕ) (q : List Cell) → kept_at plan rows k q ≡ joined (kept_at plan rows k q) (totals_at plan (r ∷ []) k q)
left_out plan rows r other k q = ap (λ (o : Option Total). joined (kept_at plan rows k q) o) (sym (totals_at-left plan r k q other))

-- ---- nothing yet

pub no_totals : (plan : PlanValue) (k : ℕ) (q : List Cell) → None ≡ totals_at plan [] k q
unfolding totals_at flows_at
no_totals plan k q = refl

no_count : (plan : PlanValue) (class : Class) → 0 ≡ count_of plan [] class
unfolding count_of
no_count plan class = refl

pub holds_none : (plan : PlanValue) (rows : Rows) → AreRowsOf plan rows → ((k : ℕ) (q : List Cell) → kept_at plan rows k q ≡ None) → HoldsTable plan rows (tally 0 0 0 0 0 0) []
holds_none plan rows of_plan empty =
    record {
      of_plan = of_plan;
      totals_are = λ k q. empty k q ∙ no_totals plan k q;
      tally_is = same_tally _ _ _ _ _ _ _ _ _ _ _ _ (no_count plan Options) (no_count plan Untimed) (no_count plan Backward) (no_count plan Unkeyed) (no_count plan TooLong) (no_count plan Used);
      small = small_from plan [] (λ k q big. subst IsLargeAt (sym (no_totals plan k q)) big) (λ class. omega (arith, no_count plan class));
      keys_fit = no_keys_fit plan;
    }

-- ---- faults

pub stands_fault : (plan : PlanValue) (rows : Rows) (t : Tally) (rs : List DataRecord) (e : TableFault) → (e ≡ SumTooLarge → IsTooLarge plan rs) → StandsBy (Some e) plan rows t rs
stands_fault plan rows t rs OutOfMemory h = tt
stands_fault plan rows t rs SumTooLarge h = h refl

pub stands_err : {X : Type 0} (plan : PlanValue) (rows : Rows) (t : Tally) (rs : List DataRecord) (r : Result X TableFault) (e : TableFault) → r ≡ Err e → (e ≡ SumTooLarge → IsTooLarge plan rs) → StandsBy (result_err r) plan rows t rs
stands_err {X} plan rows t rs r e is h = subst (λ (a : Result X TableFault). StandsBy (result_err a) plan rows t rs) (sym is) (stands_fault plan rows t rs e h)

-- what failed stays so with more records
pub stands_on : (plan : PlanValue) (rows : Rows) (t : Tally) (rs qs : List DataRecord) (o : Option TableFault) (e : TableFault) → o ≡ Some e → StandsBy o plan rows t rs → StandsBy o plan rows t (rs ++ qs)
stands_on plan rows t rs qs o e is stands =
    subst (λ (p : Option TableFault). StandsBy p plan rows t (rs ++ qs)) (sym is)
    (stands_fault plan rows t (rs ++ qs) e (λ large. too_large_stay plan rs qs (subst (λ (f : TableFault). StandsBy (Some f) plan rows t rs) large (subst (λ (p : Option TableFault). StandsBy p plan rows t rs) is stands))))

-- an answer, by the fault that is kept
pub answers : {X : Type 0} (r : Result X TableFault) (o : Option TableFault) (x : X) → o ≡ result_err r → IfOk r (λ y. y ≡ x) → r ≡ unless o x
answers (Ok y) o x is h = rw is (ap (λ z. Ok z) h)
answers (Err e) o x is h = rw is refl

-- ---- flows

pub flow_words : (plan : PlanValue) (r : DataRecord) (s e : ℕ) (key : List Cell) (counters : List ℕ) → IsUsed plan r s e key → counters ≡ counters_of plan.counters r
    → (k : ℕ) (q : List Cell) → flow_part plan s e key counters k q ≡ totals_at plan (r ∷ []) k q
flow_words plan r s e key counters used c_is k q =
    ap (λ (ns : List ℕ). flow_part plan s e key ns k q) c_is ∙ sym (totals_at-used plan r s e key k q used)

pub flow_ok : (plan : PlanValue) (r : DataRecord) (s e : ℕ) (key : List Cell) (counters : List ℕ) (old new : ℕ → List Cell → Option Total) (a : Result (Unit {0}) TableFault)
    → IsUsed plan r s e key → counters ≡ counters_of plan.counters r
    → OnOk a ((k : ℕ) (q : List Cell) → new k q ≡ joined (old k q) (flow_part plan s e key counters k q)) → OnOk a ((k : ℕ) (q : List Cell) → new k q ≡ joined (old k q) (totals_at plan (r ∷ []) k q))
flow_ok plan r s e key counters old new (Ok x) used c_is step = λ k q. step k q ∙ ap (λ (o : Option Total). joined (old k q) o) (flow_words plan r s e key counters used c_is k q)
flow_ok plan r s e key counters old new (Err x) used c_is step = tt

pub flow_large : (plan : PlanValue) (r : DataRecord) (s e : ℕ) (key : List Cell) (counters : List ℕ) (old : Rows) (room : Room) (a : Result (Unit {0}) TableFault)
    → IsUsed plan r s e key → counters ≡ counters_of plan.counters r → key_from plan.kinds room.words.items ≡ key
    → IfErr a (λ f. f ≡ SumTooLarge → AtLast room (λ k. IsLargeAt (joined (kept_at plan old k key) (flow_part plan s e key counters k key))))
    → IfErr a (λ f. f ≡ SumTooLarge → LargeWith plan old (totals_at plan (r ∷ [])) room)
flow_large plan r s e key counters old room (Ok x) used c_is key_is large = tt
flow_large plan r s e key counters old room (Err x) used c_is key_is large = λ same.
    let at = large same in
    let here = subst (λ (o : Option Total). IsLargeAt (joined (kept_at plan old at.0 key) o)) (flow_words plan r s e key counters used c_is at.0 key) at.2 in
    (at.0, at.1, subst (λ (q : List Cell). IsLargeAt (joined (kept_at plan old at.0 q) (totals_at plan (r ∷ []) at.0 q))) (sym key_is) here)

-- ---- one record taken

pub left_taken : (plan : PlanValue) (rows : Rows) (before after : Tally) (rs : List DataRecord) (r : DataRecord) (why : LeftOut) → IsLeftOut plan r why → after ≡ tally_sum before (one_of (class_in why))
    → ((d : Class) → count_in after d < 2 ^ 64) → HoldsTable plan rows before rs → HoldsTable plan rows after (rs ++ r ∷ [])
left_taken plan rows before after rs r why is sum counts holds =
    holds_more plan rows rows before after rs (r ∷ []) holds (read_keys_fit plan r [] (Left why) is) holds.of_plan (left_out plan rows r (λ u. not_used why (sym is.class ∙ u))) (λ k q small. small)
    (one_more plan r (class_in why) before after is.class sum) counts

pub used_taken : (plan : PlanValue) (old new : Rows) (before after : Tally) (rs : List DataRecord) (r : DataRecord) → KeysFit plan (r ∷ []) → class_of plan r ≡ Used → after ≡ tally_sum before (one_of Used)
    → ((d : Class) → count_in after d < 2 ^ 64) → (AreRowsOf plan old → AreRowsOf plan new)
    → (AreRowsOf plan old → (k : ℕ) (q : List Cell) → kept_at plan new k q ≡ joined (kept_at plan old k q) (totals_at plan (r ∷ []) k q))
    → ((k : ℕ) (q : List Cell) → (IsLargeAt (kept_at plan old k q) → ⊥) → IsLargeAt (kept_at plan new k q) → ⊥)
    → HoldsTable plan old before rs → HoldsTable plan new after (rs ++ r ∷ [])
used_taken plan old new before after rs r keys is sum counts keeps step fits holds =
    holds_more plan old new before after rs (r ∷ []) holds keys (keeps holds.of_plan) (step holds.of_plan) fits (one_more plan r Used before after is sum) counts

counts_itself : (class : Class) → 1 ≡ count_in (one_of class) class
counts_itself Options = refl
counts_itself Untimed = refl
counts_itself Backward = refl
counts_itself Unkeyed = refl
counts_itself TooLong = refl
counts_itself Used = refl

pub one_too_many : (plan : PlanValue) (rows : Rows) (before : Tally) (rs : List DataRecord) (r : DataRecord) (class : Class) → class_of plan r ≡ class → HoldsTable plan rows before rs
    → 2 ^ 64 ≤ count_in before class + 1 → AreTooMany plan (rs ++ r ∷ [])
one_too_many plan rows before rs r class is holds big =
    count_too_large plan rows before (one_of class) rs (r ∷ []) holds (one_is_tally plan r class is) (class, subst (λ n. 2 ^ 64 ≤ count_in before class + n) (counts_itself class) big)

-- ---- two lists

pub merged_holds : (plan : PlanValue) (old others new : Rows) (before more after : Tally) (rs qs : List DataRecord) → HoldsTable plan old before rs → HoldsTable plan others more qs → width_of old ≡ width_of others
    → after ≡ tally_sum before more → ((class : Class) → count_in after class < 2 ^ 64) → AreAlike new old
    → ((q : List ℕ) (i : ℕ) → number_at new q i ≡ number_at old q i + number_at others q i) → Small (number_at new) → HoldsTable plan new after (rs ++ qs)
merged_holds plan old others new before more after rs qs a b same sum counts alike numbers small =
    holds_more plan old new before after rs qs a b.keys_fit (merge_keeps plan old others a.of_plan b.of_plan same new alike numbers)
    (λ k q. merge_joins plan old others a.of_plan b.of_plan same new alike numbers k q ∙ ap (λ (o : Option Total). joined (kept_at plan old k q) o) (b.totals_are k q))
    (λ k q fits. kept_small plan new k q small)
    (sum ∙ ap (λ (t : Tally). tally_sum before t) b.tally_is) counts

pub merged_large : (plan : PlanValue) (old others : Rows) (before more : Tally) (rs qs : List DataRecord) (room : Room) → HoldsTable plan old before rs → HoldsTable plan others more qs → width_of old ≡ width_of others
    → (words : List ℕ) → ((k : ℕ) (later : List ℕ) → words ≡ k ∷ later → (room.last ≡ Some k) × (room.words.items ≡ later))
    → SomeTooLarge (λ i. number_at old words i + number_at others words i) → LargeWith plan old (totals_at plan qs) room
merged_large plan old others before more rs qs room a b same words split large =
    let at = merge_large plan old others a.of_plan b.of_plan same words large in
    let halves = split at.interval at.others at.are in
    let key = key_from plan.kinds at.others in
    let both = subst (λ (o : Option Total). IsLargeAt (joined (kept_at plan old at.interval key) o)) (b.totals_are at.interval key) at.large in (
      at.interval,
      halves.0,
      subst (λ (ws : List ℕ). IsLargeAt (joined (kept_at plan old at.interval (key_from plan.kinds ws)) (totals_at plan qs at.interval (key_from plan.kinds ws)))) (sym halves.1) both,
    )

-- more records before those that are too many
too_large_behind : (plan : PlanValue) (rs qs : List DataRecord) → IsTooLarge plan qs → IsTooLarge plan (rs ++ qs)
too_large_behind plan rs qs large = too_large_bag plan (qs ++ rs) (rs ++ qs) (turned qs rs) (too_large_stay plan qs rs large)

-- the fault of what is merged in
pub stands_taken : (plan other : PlanValue) (rows others : Rows) (t u : Tally) (rs qs : List DataRecord) (o : Option TableFault) (e : TableFault) → other ≡ plan → o ≡ Some e → StandsBy o other others u qs → StandsBy (Some e) plan rows t (rs ++ qs)
stands_taken plan other rows others t u rs qs o e same is stands =
    stands_fault plan rows t (rs ++ qs) e (λ large. too_large_behind plan rs qs
    (subst (λ (p : PlanValue). IsTooLarge p qs) same (subst (λ (f : TableFault). StandsBy (Some f) other others u qs) large (subst (λ (p : Option TableFault). StandsBy p other others u qs) is stands))))

pub holds_of : (plan other : PlanValue) (others : Rows) (u : Tally) (qs : List DataRecord) (o : Option TableFault) → other ≡ plan → o ≡ None → StandsBy o other others u qs → HoldsTable plan others u qs
holds_of plan other others u qs o same is stands =
    subst (λ (p : PlanValue). HoldsTable p others u qs) same (subst (λ (p : Option TableFault). StandsBy p other others u qs) is stands)

pub no_fault : (o : Option TableFault) → o ≡ None → IsSome o → ⊥
no_fault None is some = let h : false ≡ true = some in cc h
no_fault (Some e) is some = cc is

pub went_well : {X : Type 0} (o : Option TableFault) (x : X) → IfSome o (λ f. Ok x ≡ Err f) → o ≡ None
went_well None x answer = refl
went_well (Some e) x answer = absurd cc

pub one_fault : (o : Option TableFault) (e : TableFault) → o ≡ Some e → o ≡ None → ⊥
one_fault o e is none = cc (is, none)

pub answers_unit : (r : Result (Unit {0}) TableFault) (o : Option TableFault) → o ≡ result_err r → r ≡ unless o tt
answers_unit (Ok x) o is = rw is refl
answers_unit (Err e) o is = rw is refl

pub large_of : (plan : PlanValue) (rows : Rows) (t : Tally) (rs : List DataRecord) (o : Option TableFault) (e : TableFault) → o ≡ Some e → e ≡ SumTooLarge → StandsBy o plan rows t rs → IsTooLarge plan rs
large_of plan rows t rs o e is large stands =
    subst (λ (f : TableFault). StandsBy (Some f) plan rows t rs) large (subst (λ (p : Option TableFault). StandsBy p plan rows t rs) is stands)

pub if_fault : {X : Type 0} (o : Option TableFault) (e : TableFault) (r : Result X TableFault) → o ≡ Some e → r ≡ Err e → IfSome o (λ f. r ≡ Err f)
if_fault {X} o e r is answer = subst (λ (p : Option TableFault). IfSome p (λ f. r ≡ Err f)) (sym is) answer

pub if_none : {X : Type 0} (o : Option TableFault) (r : Result X TableFault) → o ≡ None → IfSome o (λ f. r ≡ Err f)
if_none {X} o r is = subst (λ (p : Option TableFault). IfSome p (λ f. r ≡ Err f)) (sym is) tt

pub on_ok : {X A : Type 0} (r : Result X TableFault) → A → OnOk r A
on_ok (Ok x) a = a
on_ok (Err e) a = tt

-- an answer with the fault that is kept, and the list that is then stood for
pub small_on_ok : {X : Type 0} (r : Result X TableFault) (plan : PlanValue) (rows : Rows) (t : Tally) (rs : List DataRecord) → StandsBy (result_err r) plan rows t rs → OnOk r (IsTooLarge plan rs → ⊥)
small_on_ok (Ok x) plan rows t rs stands = stands.small
small_on_ok (Err e) plan rows t rs stands = tt

pub large_if_err : {X : Type 0} (r : Result X TableFault) (plan : PlanValue) (rows : Rows) (t : Tally) (rs : List DataRecord) → StandsBy (result_err r) plan rows t rs → IfErr r (λ e. e ≡ SumTooLarge → IsTooLarge plan rs)
large_if_err (Ok x) plan rows t rs stands = tt
large_if_err (Err e) plan rows t rs stands = λ large. subst (λ (f : TableFault). StandsBy (Some f) plan rows t rs) large stands

-- ---- what records lack

-- what more records lack is added, where there is no fault
pub missing_after : {X : Type 0} (plan : PlanValue) (rows : Rows) (t : Tally) (rs qs : List DataRecord) (before after : Missing) (r : Result X TableFault) → before ≡ missing_of plan rs
    → OnOk r (NotesMore plan before qs after) → result_err r ≡ None → StandsBy (result_err r) plan rows t (rs ++ qs) → after ≡ missing_of plan (rs ++ qs)
missing_after plan rows t rs qs before after (Ok x) is notes none stands =
    let sum : missing_sum before (missing_of plan qs) ≡ missing_of plan (rs ++ qs) = ap (λ (m : Missing). missing_sum m (missing_of plan qs)) is ∙ sym (missing_of-append plan rs qs) in
    notes (subst IsSmall (sym sum) (missing_small plan (rs ++ qs) stands.small)) ∙ sum
missing_after plan rows t rs qs before after (Err e) is notes none stands = cc

-- what those lack that are merged in
pub merged_missing : (plan : PlanValue) (qs : List DataRecord) (before more after : Missing) → more ≡ missing_of plan qs → (IsSmall (missing_sum before more) → after ≡ missing_sum before more) → NotesMore plan before qs after
merged_missing plan qs before more after is together small =
    together (subst (λ (m : Missing). IsSmall (missing_sum before m)) (sym is) small) ∙ ap (missing_sum before) is
