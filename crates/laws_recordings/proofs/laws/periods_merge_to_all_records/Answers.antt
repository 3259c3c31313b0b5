use Rattle.laws_merge.proofs.AddedExports.{all_records}
use Rattle.laws_recordings.specs.RecordedFiles.{records_of_each}
use Rattle.laws_recordings.proofs.GivenAll.{merged_table}
use Rattle.laws_recordings.proofs.laws.periods_merge_to_all_records.Goals as goal

pub returns : goal.returns
returns g c = λ plan table came periods recorded m.
    merged_table plan table came periods recorded
    (all_records g.S.Source.seen m.limit plan g.met.S.Source.ended_is_end m.sources (records_of_each periods) table m.exports m.adds_up)
