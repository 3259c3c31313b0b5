use Rattle.recording_peer.proofs.Adding.{adds_to_session, stops_adds, turned_adds}
use Rattle.recording_peer.proofs.laws.file_reports_add_up.Goals as goal

pub returns : goal.returns
returns c = record {
  told = λ cut_off h r told. adds_to_session h.first h.after h.since h.filed cut_off r h.holds told h.came;
  stopped = λ e r tells. stops_adds e.first e.after e.since e.told e.filed e.datagram r e.by tells e.came;
  turned = λ e r tells. turned_adds e.first e.after e.since e.told e.filed r e.by tells e.came;
}
