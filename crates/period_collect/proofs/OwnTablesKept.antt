-- Files that are collected one after another, each by itself.
use Rattle.std.proofs.Common.{◌≡◌, ℕ, suc, ◌+◌, List, [], ◌∷◌, ◌++◌, length, Option, None, Some, refl, sym, ap, subst, ◌∙◌, append-nil, arith}
use Rattle.std.specs.Prelude.{All}
use Rattle.std.specs.List.{AllZip}
use Rattle.std.proofs.lemmas.List.Elements.{All-append, All-cons, All-nil}
use Rattle.ipfix_message.specs.declared.record.DataRecord.{DataRecord}
use Rattle.ipfix_session.specs.declared.source.Source as source
use Rattle.input_sources.specs.declared.opening.OpenSource as opening
use Rattle.report_writing.specs.declared.write_lines.WriteLines as writing
use Rattle.report_writing.specs.declared.origin.Origin.{Origin}
use Rattle.report_writing.specs.declared.verbosity.TheConstants.{NOTHING_MORE}
use Rattle.input_sources.specs.InputsTold.{opened_lines}
use Rattle.command_collect.proofs.LinesTold.{none_opened}
use Rattle.flow_table.specs.Fitting.{FitsPlan}
use Rattle.flow_table.specs.Plans.{PlanValue}
use Rattle.flow_table.specs.Tables.{IsTable}
use Rattle.flow_table.specs.declared.table.Table.{Table}
use Rattle.period_collect.specs.LeftOutFiles.{Alone, AreFilesLeftOut, lists_of, places_at, places_with, places_without}
use Rattle.period_collect.specs.Parting.{AreAlone, AreOut, AreOwn, IsAlone, IsKept, IsOwnTable}
use Rattle.period_collect.specs.declared.maker.TableMaker.{TableMaker}
use Rattle.period_collect.specs.declared.parting.OwnTables.{OwnTables}

-- ---- one more file

abbrev list_in : Alone → List (List DataRecord)
list_in None = []
list_in (Some rs) = rs ∷ []

abbrev place_with : ℕ → Alone → List ℕ
place_with n None = []
place_with n (Some rs) = n ∷ []

abbrev place_without : ℕ → Alone → List ℕ
place_without n None = n ∷ []
place_without n (Some rs) = []

lists_more : (alone : List Alone) (a : Alone) → lists_of (alone ++ a ∷ []) ≡ lists_of alone ++ list_in a
lists_more [] None = refl
lists_more [] (Some rs) = refl
lists_more (None ∷ alone) a = lists_more alone a
lists_more (Some rs ∷ alone) a = ap (λ (lists : List (List DataRecord)). rs ∷ lists) (lists_more alone a)

with_more : (place : ℕ) (alone : List Alone) (a : Alone) (n : ℕ) → n ≡ place + length alone → places_with place (alone ++ a ∷ []) ≡ places_with place alone ++ place_with n a
with_more place [] None n is = refl
with_more place [] (Some rs) n is = let same : place ≡ n = omega (arith, is) in ap (λ (m : ℕ). m ∷ []) same
with_more place (None ∷ alone) a n is = let same : n ≡ suc place + length alone = omega (arith, is) in with_more (suc place) alone a n same
with_more place (Some rs ∷ alone) a n is =
    let same : n ≡ suc place + length alone = omega (arith, is) in ap (λ (places : List ℕ). place ∷ places) (with_more (suc place) alone a n same)

without_more : (place : ℕ) (alone : List Alone) (a : Alone) (n : ℕ) → n ≡ place + length alone → places_without place (alone ++ a ∷ []) ≡ places_without place alone ++ place_without n a
without_more place [] None n is = let same : place ≡ n = omega (arith, is) in ap (λ (m : ℕ). m ∷ []) same
without_more place [] (Some rs) n is = refl
without_more place (None ∷ alone) a n is =
    let same : n ≡ suc place + length alone = omega (arith, is) in ap (λ (places : List ℕ). place ∷ places) (without_more (suc place) alone a n same)
without_more place (Some rs ∷ alone) a n is = let same : n ≡ suc place + length alone = omega (arith, is) in without_more (suc place) alone a n same

pub zip_more : {X Y : Type 0} (R : X → Y → Type 0) (xs : List X) (ys : List Y) (x : X) (y : Y) → AllZip R xs ys → R x y → AllZip R (xs ++ x ∷ []) (ys ++ y ∷ [])
zip_more R [] [] x y all one = (one, tt)
zip_more R [] (z ∷ ys) x y all one = absurd all
zip_more R (z ∷ xs) [] x y all one = absurd all
zip_more R (z ∷ xs) (w ∷ ys) x y all one = (all.0, zip_more R xs ys x y all.1 one)

pub own_none : (plan : PlanValue) (own : OwnTables) → own.tables.items ≡ [] → own.places.items ≡ [] → own.others.items ≡ [] → AreOwn plan [] own
own_none plan own tables places others = record {
  tables = subst (AllZip (IsTable plan) []) (sym tables) tt;
  fits = subst (All (FitsPlan plan)) (sym tables) (All-nil (FitsPlan plan));
  places = places;
  others = others;
}

from_zero : (n m : ℕ) → n ≡ m → n ≡ 0 + m
from_zero n m is = omega (arith, is)

pub own_more : (plan : PlanValue) (alone : List Alone) (a : Alone) (table : Option Table) (place : ℕ) (old new : OwnTables)
    → place ≡ length alone → AreOwn plan alone old → IsOwnTable plan a table → IsKept place table old new → AreOwn plan (alone ++ a ∷ []) new
own_more plan alone None None place old new is own table kept = record {
  tables = subst (λ (lists : List (List DataRecord)). AllZip (IsTable plan) lists new.tables.items) (sym (lists_more alone None ∙ append-nil (lists_of alone)))
      (subst (λ t. AllZip (IsTable plan) (lists_of alone) t.items) (sym kept.0) own.tables);
  fits = subst (λ t. All (FitsPlan plan) t.items) (sym kept.0) own.fits;
  places = ap (λ p. p.items) kept.1 ∙ own.places ∙ sym (with_more 0 alone None place (from_zero place (length alone) is) ∙ append-nil (places_with 0 alone));
  others = kept.2 ∙ ap (λ (o : List ℕ). o ++ place ∷ []) own.others ∙ sym (without_more 0 alone None place (from_zero place (length alone) is));
}
own_more plan alone None (Some table) place old new is own table_is kept = absurd table_is
own_more plan alone (Some rs) None place old new is own table_is kept = absurd table_is
own_more plan alone (Some rs) (Some table) place old new is own table_is kept = record {
  tables = subst (λ (lists : List (List DataRecord)). AllZip (IsTable plan) lists new.tables.items) (sym (lists_more alone (Some rs)))
      (subst (AllZip (IsTable plan) (lists_of alone ++ rs ∷ [])) (sym kept.0) (zip_more (IsTable plan) (lists_of alone) old.tables.items rs table own.tables table_is.0));
  fits = subst (All (FitsPlan plan)) (sym kept.0) (All-append (FitsPlan plan) old.tables.items (table ∷ []) own.fits (All-cons (FitsPlan plan) table [] table_is.1 (All-nil (FitsPlan plan))));
  places = kept.1 ∙ ap (λ (p : List ℕ). p ++ place ∷ []) own.places ∙ sym (with_more 0 alone (Some rs) place (from_zero place (length alone) is));
  others = ap (λ o. o.items) kept.2 ∙ own.others ∙ sym (without_more 0 alone (Some rs) place (from_zero place (length alone) is) ∙ append-nil (places_without 0 alone));
}

-- ---- what is told

pub nothing_opened : (origins : List Origin) → opened_lines NOTHING_MORE origins ≡ []
nothing_opened origins = none_opened NOTHING_MORE refl 1 origins

-- ---- what is left out

pub files_out : (plan : PlanValue) (alone : List Alone) (own : OwnTables) (out : List ℕ) → AreOwn plan alone own → AreOut plan own (lists_of alone) out → AreFilesLeftOut plan alone out
files_out plan alone own out are goes = record {
  others = goes.left;
  are_others = goes.are_left;
  are = goes.are ∙ ap (λ (o : List ℕ). o ++ places_at own.places.items goes.left) are.others
      ∙ ap (λ (p : List ℕ). places_without 0 alone ++ places_at p goes.left) are.places;
}

-- ---- the states of the maker

module _ {S O E : Type 0} {as_source : source.Ghosts S} {as_opener : opening.Ghosts O S} {as_writer : writing.Ghosts E} where
  pub alone_more : (before between after : TableMaker S O E as_source as_opener as_writer) (paths : List (List ℕ)) (alone : List Alone) (path : List ℕ) (a : Alone)
      → AreAlone before between paths alone → IsAlone between after path a
      → AreAlone before after (paths ++ path ∷ []) (alone ++ a ∷ [])
  alone_more before between after [] [] path a same is =
      (after, subst (λ (m : TableMaker S O E as_source as_opener as_writer). IsAlone m after path a) same is, refl)
  alone_more before between after [] (b ∷ alone) path a all is = absurd all
  alone_more before between after (x ∷ paths) [] path a all is = absurd all
  alone_more before between after (x ∷ paths) (b ∷ alone) path a all is = (all.0, all.1, alone_more all.0 between after paths alone path a all.2 is)
