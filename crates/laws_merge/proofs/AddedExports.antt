-- Sources that gave the exports of tables: the rows of all of them, added up, are those of the table of all records.
use Rattle.std.proofs.Common.{◌≡◌, ℕ, true, List, [], ◌∷◌, ◌++◌, refl, ap, ◌∙◌, subst}
use Rattle.std.specs.Prelude.{flat_map}
use Rattle.std.specs.List.{AllZip}
use Rattle.std.specs.Option.{ForSome}
use Rattle.ipfix_message.specs.declared.record.DataRecord.{DataRecord}
use Rattle.ipfix_session.specs.Sources.{SourceView}
use Rattle.flow_table.specs.AddedUp.{rows_in, AreAddedUp}
use Rattle.flow_table.specs.Missing.{missing_of}
use Rattle.flow_table.specs.Plans.{PlanValue}
use Rattle.flow_table.specs.SameTables.{RowValue}
use Rattle.flow_table.specs.Tables.{tally_of, IsTable}
use Rattle.flow_table.specs.declared.table.Table.{Table}
use Rattle.flow_table.proofs.TablesAdded.{tables_are_added}
use Rattle.flow_merge.specs.Merging.{all_of, AddsAllUp, GiveExports, HasRowsOf}
use Rattle.laws_merge.specs.Exports.{AreExportsOf}
use Rattle.laws_merge.proofs.HeldExports.{given_own}

module _ {S : Type 0} (seen : S → SourceView) (limit : ℕ) (plan : PlanValue) (at_end : (s : S) → (seen s).ended ≡ true → ForSome (seen s).text (λ xs. xs ≡ [])) where
  -- the tables whose exports the sources hold, and whose rows they gave
  given_tables : (sources : List S) (lists : List (List DataRecord)) (exports : List (List RowValue)) → AreExportsOf seen plan sources lists → GiveExports seen limit plan sources exports
      → (tables : List Table) × AllZip (IsTable plan) lists tables × (flat_map (λ rows. rows) exports ≡ flat_map rows_in tables)
  given_tables [] [] [] hold given = ([], tt, refl)
  given_tables [] [] (rows ∷ exports) hold given = absurd given
  given_tables [] (rs ∷ lists) exports hold given = absurd hold
  given_tables (s ∷ sources) [] exports hold given = absurd hold
  given_tables (s ∷ sources) (rs ∷ lists) [] hold given = absurd given
  given_tables (s ∷ sources) (rs ∷ lists) (rows ∷ exports) hold given =
      let others = given_tables sources lists exports hold.1 given.1 in
      let own = given_own seen limit s given.0.0 (at_end given.0.0) plan rs hold.0 rows given.0.1 in (
        hold.0.table ∷ others.0,
        (hold.0.export.is_table, others.1),
        ap (λ (l : List RowValue). l ++ flat_map (λ r. r) exports) own ∙ ap (λ (l : List RowValue). rows_in hold.0.table ++ l) others.2,
      )

  pub all_records : (sources : List S) (lists : List (List DataRecord)) (table : Table) → AreExportsOf seen plan sources lists → AddsAllUp seen limit plan sources table → HasRowsOf plan (all_of lists) table
  all_records sources lists table hold adds =
      let tables = given_tables sources lists adds.exports hold adds.given in
      tables_are_added plan lists tables.0 (record table { tally = tally_of plan (all_of lists); missing = missing_of plan (all_of lists) }) tables.1 (subst (λ (l : List RowValue). AreAddedUp l (rows_in table)) tables.2 adds.added_up) refl refl
