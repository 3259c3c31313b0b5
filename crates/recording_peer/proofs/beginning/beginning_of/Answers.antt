use Rattle.std.proofs.Common.{[], sym, ◌∙◌}
use Rattle.std.specs.BTreeMap.{values}
use Rattle.recording_peer.specs.Beginnings.{first_basis}
use Rattle.recording_peer.proofs.FirstDatagrams.{begins_by_own, begins_by_resumed, passes_by}
use Rattle.recording_peer.proofs.beginning.beginning_of.Goals as goal

pub returns-else-is_empty : goal.returns-else-is_empty
returns-else-is_empty c = λ budget ws m x good is fits.
    begins_by_resumed budget ws c.args.resumed.now m c.args.reading.now x is fits (λ none. let full = c.is_empty.ensures.1 none in let empty = c.if-is_empty.false in cc)

pub returns-then-defines : goal.returns-then-defines
returns-then-defines c = λ budget ws m x good is fits.
    begins_by_own budget ws c.args.resumed.now m c.args.reading.now x is fits (sym (c.defines.ensures (first_basis (values c.args.resumed.now)) [] m x is) ∙ c.if-defines.true)

pub returns-else-defines : goal.returns-else-defines
returns-else-defines c = λ budget ws m x good is fits.
    passes_by budget ws c.args.resumed.now m c.args.reading.now x c.args.header.now good is fits (c.is_empty.ensures.0 c.if-is_empty.true)
    (sym (c.defines.ensures (first_basis (values c.args.resumed.now)) [] m x is) ∙ c.if-defines.false)
