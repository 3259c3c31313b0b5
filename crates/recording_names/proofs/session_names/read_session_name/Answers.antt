use Rattle.recording_names.proofs.Hyphens.{none_read, session_read}
use Rattle.recording_names.proofs.session_names.read_session_name.Goals as goal

pub returns-clause-some : goal.returns-clause-some
returns-clause-some c = session_read c.args.name.now c.in_ok-peer.peer.now c.in_ok-peer.rest.now (c.in_ok-peer.ensures.parts, c.in_ok-peer.ensures.last) c.read_parts.result c.read_parts.ensures.some

pub returns-clause-none : goal.returns-clause-none
returns-clause-none c = none_read c.args.name.now c.in_ok-peer.peer.now c.in_ok-peer.rest.now (c.in_ok-peer.ensures.parts, c.in_ok-peer.ensures.last) c.read_parts.result c.read_parts.ensures.none
