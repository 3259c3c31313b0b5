use Rattle.std.proofs.Common.{ap, ◌∙◌, rules}
use Rattle.std.specs.Prelude.{nat_lt, option_copied}
use Rattle.recording_peer.specs.Recording.{PeerView}
use Rattle.recording_peer.proofs.FieldsLeft.{files_as, left_as}
use Rattle.recording_peer.proofs.peer_recorder.PeerRecorder.has_fields_left.Goals as goal

pub returns : goal.returns
returns c =
    let s = c.args.self.now in
    let files = files_as c.domains.result.now s (option_copied c.templates-files.result) c.args.domain (c.domains.ensures ∙ ap (λ (v : PeerView). v.recorder.domains) c.self.view_is)
    (λ spent. ap option_copied (c.templates-files.ensures.spent (search rules))) c.templates-files.ensures.entries in
    ap (nat_lt 0) (left_as s c.self.inside.known (option_copied c.templates-files.result) (option_copied c.get-ended.result) c.args.domain c.args.weight c.saturating_sub-own.result c.without_those.result c.barred_in.result.now
    (ap (λ (v : PeerView). v.known) c.self.view_is) files c.get-ended.ensures.value c.barred_in.ensures c.saturating_sub-own.ensures c.without_those.ensures)
