use Rattle.std.proofs.Common.{ap, ◌∙◌}
use Rattle.std.proofs.lemmas.List.{take_all}
use Rattle.sha2.specs.Sha256.{sha256}
use Rattle.input_digests.proofs.Whole.{whole_counts}
use Rattle.input_digests.proofs.laws.no_fault_hashes_all.Goals as goal

pub returns : goal.returns
returns g c = λ limits before after first last full d none text digest start small counted.
    let whole = whole_counts g.S.Source.seen g.K.Sink.seen limits before after first last full text (g.met.S.Source.ended_is_end after) d none start small in
    counted text start small ∙ ap sha256 (take_all full.stopped_at.octet text whole)
