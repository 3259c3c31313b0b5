-- Two runs over sources that gave the same octets.
use Rattle.std.proofs.Common.{ℕ, List, sym, ◌∙◌, subst}
use Rattle.ipfix_message.specs.declared.record.DataRecord.{DataRecord}
use Rattle.ipfix_session.specs.Sources.{SourceView}
use Rattle.flow_table.specs.Plans.{PlanValue}
use Rattle.flow_table.specs.SameTables.{IsSameTable}
use Rattle.flow_table.specs.Tables.{IsTable}
use Rattle.flow_table.specs.declared.table.Table.{Table}
use Rattle.flow_table.proofs.OneTable.{same_table}
use Rattle.flow_collect.specs.EachRun.{MakesTable, MakesTableInThreads}
use Rattle.flow_collect.specs.Headline.{SerialAnswer, all_of, without_links}
use Rattle.flow_collect.specs.Texts.{ReadsOctets}
use Rattle.flow_collect.proofs.GivenLists.{records_by_octets}

-- one in threads, without its links
pub links_aside : {S : Type 0} (seen : S → SourceView) (plan : PlanValue) (gave : List (List ℕ)) (table : Table) → MakesTableInThreads seen plan gave table → MakesTable seen plan gave table
links_aside seen plan gave table made =
    let r = made.reads in
    let h = r.headline in
    record {
      sources = made.sources;
      answer = without_links made.answer;
      reads = record { headline = record { records = h.records; given = h.given; added_up = h.added_up }; gave_these = r.gave_these; had_memory = r.had_memory };
      table_is = made.table_is;
    }

same_runs : {S T : Type 0} (seen : S → SourceView) (other : T → SourceView) (sources : List S) (others : List T) (plan : PlanValue) (gave : List (List ℕ)) (s : SerialAnswer S) (t : SerialAnswer T)
    → ReadsOctets seen sources plan gave s → ReadsOctets other others plan gave t → IsSameTable s.table t.table
same_runs seen other sources others plan gave s t rs rt =
    let hs = rs.headline in
    let ht = rt.headline in
    let one = records_by_octets seen sources s.sources.items s.sessions.items hs.records gave hs.given rs.gave_these rs.had_memory in
    let two = records_by_octets other others t.sources.items t.sessions.items ht.records gave ht.given rt.gave_these rt.had_memory in
    same_table plan (all_of hs.records) s.table t.table hs.added_up.table_is
    (subst (λ (qs : List (List DataRecord)). IsTable plan (all_of qs) t.table) (two ∙ sym one) ht.added_up.table_is)

pub made_same : {S T : Type 0} (seen : S → SourceView) (other : T → SourceView) (plan : PlanValue) (gave : List (List ℕ)) (a b : Table) → MakesTable seen plan gave a → MakesTable other plan gave b → IsSameTable a b
made_same seen other plan gave a b one two =
    rw (one.table_is, two.table_is) (same_runs seen other one.sources two.sources plan gave one.answer two.answer one.reads two.reads)
