use Rattle.std.proofs.Common.{ap, ◌∙◌}
use Rattle.recording_peers.proofs.Evicting.{no_entry, put_first}
use Rattle.recording_peers.proofs.peers.Peers.put_first.Goals as goal

pub returns-in-Ok-clause-first : goal.returns-in-Ok-clause-first
returns-in-Ok-clause-first g c =
    let kept = c.args.self.now.kept in
    ap (λ l. l.entries) c.in-Ok.ensures.entries ∙ put_first kept.entries kept.cap c.args.peer c.args.session (no_entry c.args.peer kept.entries c.requires.new) c.requires.room
