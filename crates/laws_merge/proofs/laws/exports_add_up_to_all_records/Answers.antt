use Rattle.laws_merge.proofs.AddedExports.{all_records}
use Rattle.laws_merge.proofs.laws.exports_add_up_to_all_records.Goals as goal

pub returns : goal.returns
returns g c = λ limit plan sources table adds lists hold.
    all_records g.S.Source.seen limit plan g.met.S.Source.ended_is_end sources lists table hold adds
