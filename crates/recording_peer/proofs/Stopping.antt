-- Why a peer ends.
use Rattle.std.proofs.Common.{◌≡◌, ℕ, List, [], ◌++◌, map, Option, refl, sym, ap, subst, ◌∙◌, append_assoc, inl, inr}
use Rattle.std.specs.Prelude.{◌⊎◌}
use Rattle.ipfix_message.specs.Domains.{Message}
use Rattle.ipfix_message.specs.declared.fault.MessageFault.{MessageFault}
use Rattle.ipfix_message.specs.declared.fault.MessageFault.TheVariants.{OutOfMemory}
use Rattle.ipfix_session.specs.Given.{octets_of, IsPrefix}
use Rattle.ipfix_session.specs.Sources.{one_more}
use Rattle.recording_files.specs.declared.record_fault.RecordFault.{RecordFault}
use Rattle.recording_files.specs.declared.record_fault.RecordFault.TheVariants.{Message as OfMessage, NotWritten}
use Rattle.recording_files.specs.declared.file_report.FileReport.{FileReport}
use Rattle.recording_files.specs.declared.message_count.MessageCount.{MessageCount}
use Rattle.recording_files.specs.Files.{Contents, FilesView, with_more, with_next, failing}
use Rattle.recording_files.specs.Recorders.{State}
use Rattle.recording_files.specs.Sessions.{StandsWith}
use Rattle.recording_files.proofs.Going.{stands_cut}
use Rattle.ipfix_datagrams.specs.Datagrams.{preparation_of, IsTaken}
use Rattle.ipfix_datagrams.specs.declared.reading.DatagramReading.{DatagramReading}
use Rattle.recording_peer.specs.Peers.{basis_with, Resumed, known_after_all, all_given, sent_of, peer_reports}
use Rattle.recording_peer.specs.Recording.{PeerTold, PeerView, FiledDatagrams, counted_report, last_file, taken_before, taken_in, HasDatagram, FilesHold, Counts, IsPeer, HasStopped}
use Rattle.recording_peer.specs.Fronts.{TookDatagram, taken_as}
use Rattle.recording_peer.proofs.Taking.{holds_turned, file_with, octets_with, taken_with, fronts_with}

-- other files with the same datagrams
abbrev holds_with : (first v after : FilesView) (filed : FiledDatagrams) (cut_off : List ℕ) (h : FilesHold first v filed []) → StandsWith (peer_reports [] h.files) first.contents after.contents (map sent_of h.files) (sent_of (last_file filed h.file)) cut_off
    → FilesHold first after filed cut_off
holds_with first v after filed cut_off h stands = record {
  taken = h.taken;
  resumed = h.resumed;
  fronts = h.fronts;
  some = h.some;
  files = h.files;
  are = h.are;
  ignored = h.ignored;
  earlier = h.earlier;
  file = h.file;
  last = h.last;
  stands = stands;
}

holds_same : (first v after : FilesView) (filed : FiledDatagrams) → FilesHold first v filed [] → after.contents ≡ v.contents → FilesHold first after filed []
holds_same first v after filed h is =
    holds_with first v after filed [] h (subst (λ (o : Option Contents). StandsWith (peer_reports [] h.files) first.contents o (map sent_of h.files) (sent_of (last_file filed h.file)) []) (sym is) h.stands)

-- a call to finish the file failed
pub stops_turning : (first v after : FilesView) (s : PeerView) (filed : FiledDatagrams) (report : FileReport) (c : PeerTold) → IsPeer first v s filed → HasDatagram filed.here → report ≡ counted_report s.told → c ≡ s.told
    → (after ≡ failing v) ⊎ (after ≡ failing (with_next v report)) → (m : List ℕ) → HasStopped NotWritten first after c filed m
stops_turning first v after s filed report c p some reported told (inl is) m =
    record {
      fails = ap (λ (u : FilesView). u.failed) is ∙ ap one_more p.not_failed;
      stops = inl (record { there = inl (holds_same first v after filed p.holds (ap (λ (u : FilesView). u.contents) is)); counted = subst (λ (k : PeerTold). Counts k filed) (sym told) p.counted });
    }
stops_turning first v after s filed report c p some reported told (inr is) m =
    record {
      fails = ap (λ (u : FilesView). u.failed) is ∙ ap one_more p.not_failed;
      stops = inr (record {
        some = some;
        holds = holds_turned first v after filed s.told p.holds p.counted some (ap (λ (u : FilesView). u.contents) is ∙ ap (λ (r : FileReport). (with_next v r).contents) reported);
        counted = subst (λ (k : PeerTold). Counts k filed) (sym told) p.counted;
      });
    }

-- memory ran out, and nothing was written
pub stops_out : (fault : MessageFault) (first v : FilesView) (s : PeerView) (filed : FiledDatagrams) (c : PeerTold) (m : List ℕ) → fault ≡ OutOfMemory → IsPeer first v s filed → c ≡ s.told
    → HasStopped (OfMessage fault) first v c filed m
stops_out fault first v s filed c m memory p told = record {
  fails = (ap (λ (f : MessageFault). of_message f) memory, p.not_failed);
  stops = inl (record { there = inl p.holds; counted = subst (λ (k : PeerTold). Counts k filed) (sym told) p.counted });
}
  where
    of_message : MessageFault → RecordFault
    of_message f = OfMessage f

-- a call to write failed
pub stops_cut : (first v after : FilesView) (s : PeerView) (t : State) (filed : FiledDatagrams) (m : List ℕ) (second : ℕ) (resumed : Resumed) (barred : List ℕ) (q : DatagramReading) (x : Message) (octets front : List ℕ) (count : MessageCount) (c : PeerTold) (p : IsPeer first v s filed)
    → IsTaken (basis_with resumed barred) (known_after_all (taken_in filed)) m (preparation_of q) x → (k : TookDatagram (all_given (taken_before filed)) (all_given filed.here) t m second resumed barred q x octets count)
    → IsPrefix front octets → after ≡ failing (with_more v front) → c ≡ s.told → HasStopped NotWritten first after c filed m
stops_cut first v after s t filed m second resumed barred q x octets front count c p taken k begins is told =
    let h = p.holds in
    let u = taken_as m second resumed barred (preparation_of q) k.front x in
    record {
      fails = ap (λ (w : FilesView). w.failed) is ∙ ap one_more p.not_failed;
      stops = inl (record {
        there = inr (record {
          cut_off = front;
          holds = holds_with first v after filed front h (stands_cut first.contents v.contents after.contents (peer_reports [] h.files) (map sent_of h.files) (sent_of (last_file filed h.file)) front (ap (λ (w : FilesView). w.contents) is) h.stands);
          next = u;
          datagram = refl;
          taken = taken_with filed u h.taken taken;
          fronts = fronts_with filed u h.fronts k.has_front;
          file = h.file ++ k.file;
          whole = file_with filed m second resumed barred q x t octets count h.file h.last k;
          front = (begins.0, octets_with h.file k.file octets k.octets_are ∙ ap (λ (w : List ℕ). octets_of h.file ++ w) begins.1 ∙ sym (append_assoc (octets_of h.file) front begins.0));
        });
        counted = subst (λ (w : PeerTold). Counts w filed) (sym told) p.counted;
      });
    }
