-- All records of some sessions, by their texts and by their files.
use Rattle.std.proofs.Common.{◌≡◌, ℕ, ◌+◌, cond, List, [], ◌∷◌, ◌++◌, sum_by, Option, refl, sym, ap, ap₂, subst, ◌∙◌}
use Rattle.std.specs.Prelude.{filter, flat_map}
use Rattle.std.specs.List.{AllZip}
use Rattle.std.proofs.lemmas.List.Sums.{sum_by-append, sum_by-cons}
use Rattle.std.proofs.lemmas.List.Elements.{filter-append}
use Rattle.std.proofs.lemmas.Grind.{flat_map-append}
use Rattle.ipfix_message.specs.declared.record.DataRecord.{DataRecord}
use Rattle.ipfix_session.specs.Given.{Given, records_in, records_of, records_within}
use Rattle.ipfix_session.proofs.Reaching.{gives_first}
use Rattle.recording_files.specs.Sessions.{IsTold}
use Rattle.recording_files.specs.Faithful.{is_flow}
use Rattle.recording_files.specs.Files.{all_of as contents_of}
use Rattle.recording_files.proofs.FilesGive.{files_give}
use Rattle.recording_files.proofs.FlowsGive.{all_flows}
use Rattle.flow_table.specs.Missing.{missing_of}
use Rattle.flow_table.specs.Plans.{PlanValue}
use Rattle.flow_table.specs.Tables.{IsTable, count_of, tally_of}
use Rattle.flow_table.specs.declared.class.Class.TheVariants.{Options}
use Rattle.flow_table.specs.declared.missing.Missing.{Missing}
use Rattle.flow_table.specs.declared.table.Table.{Table}
use Rattle.flow_table.specs.declared.tally.Tally.{Tally}
use Rattle.flow_merge.specs.Merging.{all_of, HasRowsOf}
use Rattle.laws_recordings.specs.RecordedFiles.{AreRecordedIn, IsRecordedIn, SessionText, all_files, records_in_session, records_of_each, with_options, SameFlows}
use Rattle.laws_recordings.proofs.FlowBags.{table_flows, weighed as flow_weighed}

-- the files of a session give the flow records of its text
gives_records : (limit : Option ℕ) (text : List ℕ) (files : List (List ℕ)) → IsRecordedIn limit text files → filter is_flow (flat_map records_of files) ≡ filter is_flow (records_within limit text)
gives_records limit text files r =
    let given = files_give (IsTold r.session) r.progress r.after r.seen.start r.now r.holds r.seen.seen r.seen.none in
    ap (λ (fs : List (List ℕ)). filter is_flow (flat_map records_of fs)) r.are ∙ all_flows r.progress.limit (contents_of r.now) r.progress.text given
    ∙ ap (λ (w : List ℕ). filter is_flow (records_within r.progress.limit w)) (sym r.text_is) ∙ ap (λ (l : Option ℕ). filter is_flow (records_within l text)) r.limit_is

-- and those of all sessions those of all texts
give_all : (sessions : List SessionText) (recordings : List (List (List ℕ))) → AllZip (λ (s : SessionText). IsRecordedIn s.limit s.text) sessions recordings
    → filter is_flow (flat_map records_of (all_files recordings)) ≡ filter is_flow (flat_map records_in_session sessions)
give_all [] [] all = refl
give_all [] (files ∷ recordings) all = absurd all
give_all (s ∷ sessions) [] all = absurd all
give_all (s ∷ sessions) (files ∷ recordings) all =
    ap (filter is_flow) (flat_map-append records_of files (all_files recordings))
    ∙ filter-append is_flow (flat_map records_of files) (flat_map records_of (all_files recordings))
    ∙ ap₂ (λ (a b : List DataRecord). a ++ b) (gives_records s.limit s.text files all.0) (give_all sessions recordings all.1)
    ∙ sym (filter-append is_flow (records_in_session s) (flat_map records_in_session sessions))

-- a weight of records, over the files that they stand in
abbrev weight_of : (DataRecord → ℕ) → List ℕ → ℕ
weight_of weight file = sum_by weight (records_of file)

-- that of an empty file
no_weight : (weight : DataRecord → ℕ) → weight_of weight [] ≡ 0
no_weight weight = ap (λ (g : Given). sum_by weight (records_in g.messages)) gives_first

weighed : (weight : DataRecord → ℕ) (files : List (List ℕ)) → sum_by weight (flat_map records_of files) ≡ sum_by (weight_of weight) files
weighed weight [] = refl
weighed weight (file ∷ files) =
    sum_by-append weight (records_of file) (flat_map records_of files)
    ∙ ap (λ (n : ℕ). sum_by weight (records_of file) + n) (weighed weight files)
    ∙ sym (sum_by-cons (weight_of weight) file files)

-- a weight of flow records
abbrev flow_weight : (DataRecord → ℕ) → DataRecord → ℕ
flow_weight weight r = cond (is_flow r) (weight r) 0

pub same_records : (came : List DataRecord) (files : List (List ℕ)) → AreRecordedIn came files → SameFlows (flat_map records_of files) came
same_records came files r weight =
    let of_flows = flow_weight weight in
    flow_weighed is_flow weight (flat_map records_of files)
    ∙ weighed of_flows files ∙ sym (r.same (weight_of of_flows) (no_weight of_flows)) ∙ sym (weighed of_flows (all_files r.recordings))
    ∙ sym (flow_weighed is_flow weight (flat_map records_of (all_files r.recordings)))
    ∙ ap (λ (rs : List DataRecord). sum_by weight rs) (give_all r.sessions r.recordings r.each)
    ∙ ap (λ (rs : List DataRecord). sum_by weight (filter is_flow rs)) (sym r.came_are)

pub same_table : (plan : PlanValue) (table : Table) (came : List DataRecord) (files : List (List ℕ)) → AreRecordedIn came files → IsTable plan (flat_map records_of files) table
    → IsTable plan came (with_options plan came table)
same_table plan table came files r is = table_flows plan (flat_map records_of files) came (same_records came files r) table is

-- the records of all files are those of each group of them, one group after another
all_of_each : (groups : List (List (List ℕ))) → all_of (records_of_each groups) ≡ flat_map records_of (all_files groups)
all_of_each [] = refl
all_of_each (files ∷ groups) =
    ap (λ (rs : List DataRecord). flat_map records_of files ++ rs) (all_of_each groups)
    ∙ sym (flat_map-append records_of files (all_files groups))

-- a table that has the rows of records has those of others with the same flow records
has_rows : (plan : PlanValue) (rs qs : List DataRecord) (table : Table) → SameFlows rs qs → HasRowsOf plan rs table → HasRowsOf plan qs table
has_rows plan rs qs table same has =
    let moved = table_flows plan rs qs same (record table { tally = tally_of plan rs; missing = missing_of plan rs }) has in
    subst (λ (t : Tally). IsTable plan qs (record table { tally = t; missing = missing_of plan qs })) moved.tally
    (subst (λ (m : Missing). IsTable plan qs (record table { tally = record (tally_of plan rs) { options = count_of plan qs Options }; missing = m })) moved.missing moved)

pub merged_table : (plan : PlanValue) (table : Table) (came : List DataRecord) (periods : List (List (List ℕ))) → AreRecordedIn came (all_files periods)
    → HasRowsOf plan (all_of (records_of_each periods)) table → HasRowsOf plan came table
merged_table plan table came periods r has =
    has_rows plan (flat_map records_of (all_files periods)) came table (same_records came (all_files periods) r)
    (subst (λ (rs : List DataRecord). HasRowsOf plan rs table) (all_of_each periods) has)
