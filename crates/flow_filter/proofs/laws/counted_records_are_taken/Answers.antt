use Rattle.std.proofs.Common.{refl}
use Rattle.flow_filter.proofs.Chains.{counted_chain, left_out_new}
use Rattle.flow_filter.proofs.laws.counted_records_are_taken.Goals as goal

pub returns-clause-taken : goal.returns-clause-taken
returns-clause-taken g c = λ before after rs h.
    record { chain = counted_chain g.K.Sink.seen before.filter rs before after refl h.chain; none_refused = h.none_refused }

pub returns-clause-filtered : goal.returns-clause-filtered
returns-clause-filtered g c = λ before after rs h none. left_out_new g.K.Sink.seen before after rs none h.chain
