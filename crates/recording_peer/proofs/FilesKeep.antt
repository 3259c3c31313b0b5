-- What the files of a peer give that ended with a fault.
use Rattle.std.proofs.Common.{◌≡◌, ℕ, List, [], ◌∷◌, ◌++◌, map, refl, sym, ap, subst, ◌∙◌, append_assoc, inl, inr}
use Rattle.std.specs.Prelude.{All}
use Rattle.std.specs.List.{flat_map}
use Rattle.std.proofs.lemmas.List.{append-nil, map-append}
use Rattle.std.proofs.lemmas.Grind.{flat_map-append}
use Rattle.std.proofs.lemmas.List.Elements.{All-nil, All-cons, All-head, All-tail}
use Rattle.ipfix_message.specs.declared.record.DataRecord.{DataRecord}
use Rattle.ipfix_session.specs.declared.stop.Stop.TheVariants.{Clean}
use Rattle.ipfix_session.specs.Given.{records_in, records_of, stop_of, octets_of, IsOpen, IsPrefix}
use Rattle.ipfix_session.proofs.Giving.{records_of-prefix}
use Rattle.recording_files.specs.declared.record_fault.RecordFault.{RecordFault}
use Rattle.recording_files.specs.Recordings.{Part}
use Rattle.recording_files.specs.Faithful.{AreReadAlone, all_given, all_in, file_records}
use Rattle.recording_files.specs.Files.{Contents, FilesView, all_of}
use Rattle.recording_files.specs.Sessions.{file_octets}
use Rattle.recording_files.proofs.FilesGive.{all_again, all_are, all_came, kept}
use Rattle.recording_peer.specs.Peers.{Taken, AreTaken, PeerFile, part_of, records_over_udp}
use Rattle.recording_peer.specs.Recording.{PeerTold, FiledDatagrams, FilesHold, IsCutOff, StopsAt, HasStopped, CameAfter, KeepsWhole, last_file, taken_in, filed_with, file_finished}
use Rattle.recording_peer.proofs.PeerFiles.{recorded_with, taken_in-push, in-finished}
use Rattle.recording_peer.proofs.FilesGive.{faithful_files, records_with as records_over, since_are, files_give}
use Rattle.recording_files.proofs.Together.{is_faithful}

open_each : (ws : List (List ℕ)) → All (λ file. stop_of file ≡ Clean) ws → All (λ file. IsOpen (stop_of file)) ws
open_each [] all = All-nil (λ file. IsOpen (stop_of file))
open_each (w ∷ ws) all =
    All-cons (λ file. IsOpen (stop_of file)) w ws (subst IsOpen (sym (All-head (λ file. stop_of file ≡ Clean) w ws all)) tt) (open_each ws (All-tail (λ file. stop_of file ≡ Clean) w ws all))

-- no octet follows the datagrams
keeps_all : (first after : FilesView) (since : Contents) (filed : FiledDatagrams) (m : List ℕ) → FilesHold first after filed [] → CameAfter first after since → KeepsWhole (taken_in filed) m (all_of since)
keeps_all first after since filed m h came =
    let g = files_give first after since filed h came in
    record {
      read = open_each (all_of since) g.stops;
      next = [];
      one = inl refl;
      taken = subst (AreTaken []) (sym (append-nil (taken_in filed))) h.taken;
      least = g.parts;
      least_came = g.records;
      at_least = ([], g.are ∙ sym (append-nil (flat_map all_in g.parts)));
      most = g.parts;
      most_came = g.records ∙ ap records_over_udp (sym (append-nil (taken_in filed)));
      at_most = ([], sym g.are ∙ sym (append-nil (flat_map records_of (all_of since))));
      again = g.again;
    }

one_file : (w : List ℕ) → flat_map records_of (w ∷ []) ≡ records_of w
one_file w = append-nil (records_of w)

-- those of the whole files, and at least those of the last without what follows it
longer : (ws : List (List ℕ)) (w more : List ℕ) → IsPrefix (flat_map records_of (ws ++ w ∷ [])) (flat_map records_of (ws ++ (w ++ more) ∷ []))
longer ws w more =
    let p = records_of-prefix w more in
    let whole : flat_map records_of (ws ++ w ∷ []) ≡ flat_map records_of ws ++ records_of w = flat_map-append records_of ws (w ∷ []) ∙ ap (λ (rs : List DataRecord). flat_map records_of ws ++ rs) (one_file w) in
    let cut : flat_map records_of (ws ++ (w ++ more) ∷ []) ≡ flat_map records_of ws ++ records_of (w ++ more) = flat_map-append records_of ws ((w ++ more) ∷ []) ∙ ap (λ (rs : List DataRecord). flat_map records_of ws ++ rs) (one_file (w ++ more)) in (
      p.0,
      cut ∙ ap (λ (rs : List DataRecord). flat_map records_of ws ++ rs) p.1 ∙ sym (append_assoc (flat_map records_of ws) (records_of w) p.0) ∙ ap (λ (rs : List DataRecord). rs ++ p.0) (sym whole),
    )

-- the records of the files with one more
records_with : (fs : List PeerFile) (f : PeerFile) → AreReadAlone [] (map part_of (fs ++ f ∷ []))
    → flat_map records_of (map file_octets (map part_of fs) ++ file_octets (part_of f) ∷ []) ≡ flat_map all_in (file_records [] (map part_of (fs ++ f ∷ [])))
records_with fs f read =
    ap (λ (ws : List (List ℕ)). flat_map records_of ws) (sym (ap (λ (ps : List Part). map file_octets ps) (map-append part_of fs (f ∷ [])) ∙ map-append file_octets (map part_of fs) (part_of f ∷ [])))
    ∙ all_are [] (map part_of (fs ++ f ∷ [])) read

-- a call of the files failed
keeps_cut : (first after : FilesView) (since : Contents) (filed : FiledDatagrams) (m : List ℕ) → IsCutOff first after filed m → CameAfter first after since → KeepsWhole (taken_in filed) m (all_of since)
keeps_cut first after since filed m k came =
    let h = k.holds in
    let last = last_file filed h.file in
    let more = filed_with filed k.next in
    let next = last_file more k.file in
    let ps = map part_of h.files in
    let w = octets_of h.file ++ k.cut_off in
    let t = since_are first after since filed k.cut_off h came in
    let are : all_of since ≡ map file_octets ps ++ w ∷ [] = ap (λ (x : List ℕ). since.finished ++ x ∷ []) t.2 ∙ ap (λ (ws : List (List ℕ)). ws ++ w ∷ []) t.0 in
    let read_next = (is_faithful (map part_of (h.files ++ next ∷ [])) (recorded_with h.files more k.file h.are h.earlier k.whole)).files in
    let read_last = (faithful_files first after filed k.cut_off h).files in
    let split : map part_of (h.files ++ next ∷ []) ≡ ps ++ part_of next ∷ [] = map-append part_of h.files (next ∷ []) in
    let whole = kept [] ps (part_of next) w k.front.0 (subst (AreReadAlone []) split read_next) k.front.1 in
    let least = map part_of (h.files ++ last ∷ []) in
    let most = ps ++ part_of next ∷ [] in
    let given : records_in (all_given (ps ++ part_of next ∷ [])) ≡ records_over_udp (taken_in more) = ap (λ (qs : List Part). records_in (all_given qs)) (sym split) ∙ records_over h.files more k.file h.are k.fronts in
    let given_last : records_in (all_given (map part_of (h.files ++ last ∷ []))) ≡ records_over_udp (taken_in filed) = records_over h.files filed h.file h.are h.fronts in
    let longest = longer (map file_octets ps) (octets_of h.file) k.cut_off in
    let pushed : taken_in more ≡ taken_in filed ++ k.next ∷ [] = taken_in-push filed k.next in
    record {
      read = subst (λ (ws : List (List ℕ)). All (λ file. IsOpen (stop_of file)) ws) (sym are) whole.0;
      next = k.next ∷ [];
      one = inr (ap (λ (w : List ℕ). w ∷ []) k.datagram);
      taken = subst (AreTaken []) pushed k.taken;
      least = file_records [] least;
      least_came = all_came [] least ∙ given_last;
      at_least = (longest.0, ap (λ (ws : List (List ℕ)). flat_map records_of ws) are ∙ longest.1 ∙ ap (λ (rs : List DataRecord). rs ++ longest.0) (records_with h.files last read_last));
      most = file_records [] most;
      most_came = all_came [] most ∙ given ∙ ap records_over_udp pushed;
      at_most = (whole.1.0, whole.1.1 ∙ ap (λ (ws : List (List ℕ)). flat_map records_of ws ++ whole.1.0) (sym are));
      again = all_again [] most;
    }

keeps_at : (first after : FilesView) (since : Contents) (c : PeerTold) (filed : FiledDatagrams) (m : List ℕ) → StopsAt first after c filed m → CameAfter first after since → KeepsWhole (taken_in filed) m (all_of since)
keeps_at first after since c filed m s came = elim s.there [
  | inl h ↦ keeps_all first after since filed m h came
  | inr k ↦ keeps_cut first after since filed m k came
]

pub keeps_whole : (fault : RecordFault) (first after : FilesView) (since : Contents) (c : PeerTold) (filed : FiledDatagrams) (m : List ℕ) → HasStopped fault first after c filed m → CameAfter first after since
    → KeepsWhole (taken_in filed) m (all_of since)
keeps_whole fault first after since c filed m h came = elim h.stops [
  | inl s ↦ keeps_at first after since c filed m s came
  | inr t ↦ subst (λ (ts : List Taken). KeepsWhole ts m (all_of since)) (in-finished filed) (keeps_all first after since (file_finished filed) m t.holds came)
]
