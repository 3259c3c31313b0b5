-- A datagram that is refused for what it defines.
use Rattle.std.proofs.Common.{◌≡◌, ℕ, List, Some, Result, Ok, Err, refl, sym, ap, subst, ◌∙◌}
use Rattle.std.specs.Prelude.{IfErr, IfOk}
use Rattle.ipfix_wire.specs.declared.header.Header.{Header}
use Rattle.ipfix_message.specs.Domains.{message_header}
use Rattle.ipfix_message.specs.declared.fault.MessageFault.TheVariants.{OutOfMemory}
use Rattle.ipfix_datagrams.specs.Datagrams.{Bars, IsTooMuch}
use Rattle.ipfix_datagrams.specs.declared.known_templates.KnownTemplates.{KnownTemplates}
use Rattle.recording_files.specs.Files.{FilesView}
use Rattle.recording_files.specs.declared.record_fault.RecordFault.{RecordFault}
use Rattle.recording_files.specs.declared.record_fault.RecordFault.TheVariants.{Message as OfMessage}
use Rattle.recording_peer.specs.declared.peer_answer.PeerAnswer.{PeerAnswer}
use Rattle.recording_peer.specs.declared.peer_answer.PeerAnswer.TheVariants.{TooMuch}
use Rattle.recording_peer.specs.Late.{IsReadWhere}
use Rattle.recording_peer.specs.Peers.{basis_with, known_after_all}
use Rattle.recording_peer.specs.Recording.{Answers, BarsShown, FiledDatagrams, HasStopped, IsPeer, KnownShown, PeerView, barred_listed, barred_shown, known_shown, resumed_for, taken_in}
use Rattle.recording_peer.proofs.Listed.{once_barred, shown_barred}
use Rattle.recording_peer.proofs.Stopping.{stops_out}

-- what is answered
pub refuses : (first v : FilesView) (s t : PeerView) (filed : FiledDatagrams) (second : ℕ) (m : List ℕ) (h : Header) (barred ids : List ℕ) (r : Result PeerAnswer RecordFault) → message_header m ≡ Ok h → IsPeer first v s filed → IsReadWhere s.known.reorder (taken_in filed) (barred_shown s.known) second m h barred
    → IsTooMuch (basis_with (resumed_for filed m) barred) s.known.budget (known_after_all (taken_in filed)) m ids → IfOk r (λ a. a ≡ TooMuch) → IfOk r (λ a. BarsShown s t h.domain ids)
    → IfErr r (λ f. f ≡ OfMessage OutOfMemory) → IfErr r (λ f. t.ended ≡ Some f) → IfErr r (λ f. t.told ≡ s.told) → Answers r second m first v v s t filed
refuses first v s t filed second m h barred ids (Ok a) good p read much refused bars out ended told = subst (λ (b : PeerAnswer). Answers (Ok b) second m first v v s t filed) (sym refused) (record { header = h; is_header = good; barred = barred; read = read; ids = ids; too_much = much; bars = bars }, refl)
refuses first v s t filed second m h barred ids (Err f) good p read much refused bars out ended told = (ended, subst (λ (g : RecordFault). HasStopped g first v t.told filed m) (sym out) (stops_out OutOfMemory first v s filed t.told m refl p told))

-- with other ids that have no template
abbrev with_known : PeerView → KnownShown → PeerView
with_known s k = record s { known = k }

abbrev with_barred : PeerView → List (ℕ × List ℕ) → PeerView
with_barred s ids = record s { known = record s.known { barred = ids } }

pub bars_shown : (inside s : PeerView) (old new : KnownTemplates) (d : ℕ) (ids : List ℕ) → inside ≡ s → inside.known ≡ known_shown old → Bars old new d ids → BarsShown s (with_known inside (known_shown new)) d ids
bars_shown inside s old new d ids same known bars = record {
  others =
      ap (λ (k : KnownTemplates). with_known inside (known_shown k)) bars.others
      ∙ ap (λ (k : KnownShown). with_known inside (record k { barred = barred_listed new.barred.entries })) (sym known)
      ∙ ap (λ (v : PeerView). with_barred v (barred_listed new.barred.entries)) same;
  once = once_barred old new s.known (sym known ∙ ap (λ (v : PeerView). v.known) same) bars.once;
  barred = shown_barred old new s.known d ids (sym known ∙ ap (λ (v : PeerView). v.known) same) bars.barred;
}
