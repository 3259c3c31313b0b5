-- What the files of a peer give.
use Rattle.std.proofs.Common.{◌≡◌, ℕ, List, [], ◌∷◌, ◌++◌, map, refl, sym, ap, subst, ◌∙◌}
use Rattle.std.specs.Prelude.{All}
use Rattle.std.specs.List.{flat_map}
use Rattle.std.proofs.lemmas.List.{append-nil, append_cancel_left, map-append}
use Rattle.std.proofs.lemmas.List.Elements.{All-nil, All-cons}
use Rattle.ipfix_session.specs.declared.stop.Stop.TheVariants.{Clean}
use Rattle.ipfix_session.specs.Given.{records_in, records_of, stop_of, octets_of}
use Rattle.ipfix_session.proofs.MessagesTaken.{octets-append}
use Rattle.recording_files.specs.Recordings.{Part}
use Rattle.recording_files.specs.Faithful as faithful
use Rattle.recording_files.specs.Faithful.{IsFaithful, all_files, file_records}
use Rattle.recording_files.specs.Files.{Contents, FilesView, all_of}
use Rattle.recording_files.specs.Sessions.{file_octets}
use Rattle.recording_files.proofs.Together.{is_faithful}
use Rattle.recording_files.proofs.FilesGive.{all_again, all_are, all_came, all_clean, contents_are}
use Rattle.recording_peer.specs.Peers.{HaveFronts, PeerFile, part_of, sent_of, records_over_udp, peer_reports}
use Rattle.recording_peer.specs.Recording.{FiledDatagrams, FilesHold, CameAfter, GiveRecordsOverUdp, last_file, taken_by_file, taken_in}
use Rattle.recording_peer.proofs.PeerFiles.{all_with, records_same, recorded_with, octets_same}

-- the files, with the one that isn't finished
abbrev pub parts_of : (first after : FilesView) (filed : FiledDatagrams) (cut_off : List ℕ) → FilesHold first after filed cut_off → List Part
parts_of first after filed cut_off h = map part_of (h.files ++ last_file filed h.file ∷ [])

pub faithful_files : (first after : FilesView) (filed : FiledDatagrams) (cut_off : List ℕ) (h : FilesHold first after filed cut_off) → IsFaithful (parts_of first after filed cut_off h)
faithful_files first after filed cut_off h = is_faithful (parts_of first after filed cut_off h) (recorded_with h.files filed h.file h.are h.earlier h.last)

-- the records of the messages that stand in them are those of the datagrams
pub records_with : (fs : List PeerFile) (filed : FiledDatagrams) (file : List (List ℕ)) → taken_by_file fs ≡ filed.finished → HaveFronts [] (taken_in filed)
    → records_in (faithful.all_given (map part_of (fs ++ last_file filed file ∷ []))) ≡ records_over_udp (taken_in filed)
records_with fs filed file are fronts = ap records_in (all_with fs filed file are) ∙ records_same [] (taken_in filed) fronts

-- what has come since
pub since_are : (first after : FilesView) (since : Contents) (filed : FiledDatagrams) (cut_off : List ℕ) (h : FilesHold first after filed cut_off) → CameAfter first after since
    → (since.finished ≡ map file_octets (map part_of h.files)) × (since.reports ≡ peer_reports [] h.files) × (since.unfinished ≡ octets_of h.file ++ cut_off)
since_are first after since filed cut_off h came =
    let t = contents_are first.contents after.contents came.start _ (peer_reports [] h.files) (map sent_of h.files) (sent_of (last_file filed h.file)) cut_off came.at_first came.at_last h.stands in (
      append_cancel_left came.start.finished since.finished (map file_octets (map sent_of h.files)) t.0 ∙ octets_same h.files,
      append_cancel_left came.start.reports since.reports (peer_reports [] h.files) t.1,
      t.2,
    )

-- the octets of all files
pub octets_are : (first after : FilesView) (since : Contents) (filed : FiledDatagrams) (h : FilesHold first after filed []) → CameAfter first after since
    → all_of since ≡ map file_octets (parts_of first after filed [] h)
octets_are first after since filed h came =
    let last = last_file filed h.file in
    let t = since_are first after since filed [] h came in
    let whole : map file_octets (map part_of (h.files ++ last ∷ [])) ≡ map file_octets (map part_of h.files) ++ octets_of h.file ∷ [] =
    ap (λ (qs : List Part). map file_octets qs) (map-append part_of h.files (last ∷ [])) ∙ map-append file_octets (map part_of h.files) (part_of last ∷ []) in
    ap (λ (w : List ℕ). since.finished ++ w ∷ []) (t.2 ∙ append-nil (octets_of h.file)) ∙ ap (λ (ws : List (List ℕ)). ws ++ octets_of h.file ∷ []) t.0 ∙ sym whole

pub files_give : (first after : FilesView) (since : Contents) (filed : FiledDatagrams) → FilesHold first after filed [] → CameAfter first after since → GiveRecordsOverUdp (all_of since) (taken_in filed)
files_give first after since filed h came =
    let ps = parts_of first after filed [] h in
    let read = (faithful_files first after filed [] h).files in
    let are = octets_are first after since filed h came in
    record {
      taken = h.taken;
      stops = subst (λ (ws : List (List ℕ)). All (λ file. stop_of file ≡ Clean) ws) (sym are) (all_clean [] ps read);
      parts = file_records [] ps;
      are = ap (λ (ws : List (List ℕ)). flat_map records_of ws) are ∙ all_are [] ps read;
      records = all_came [] ps ∙ records_with h.files filed h.file h.are h.fronts;
      again = all_again [] ps;
    }

-- ---- one after another

one_text : (ps : List Part) → octets_of (map file_octets ps) ≡ octets_of (all_files ps)
one_text [] = refl
one_text (p ∷ ps) = ap (λ (w : List ℕ). octets_of p.file ++ w) (one_text ps) ∙ sym (octets-append p.file (all_files ps))

pub one_session : (first after : FilesView) (since : Contents) (filed : FiledDatagrams) → FilesHold first after filed [] → CameAfter first after since → GiveRecordsOverUdp (octets_of (all_of since) ∷ []) (taken_in filed)
one_session first after since filed h came =
    let ps = parts_of first after filed [] h in
    let f = faithful_files first after filed [] h in
    let text = octets_of (all_of since) in
    let are : text ≡ octets_of (all_files ps) = ap octets_of (octets_are first after since filed h came) ∙ one_text ps in
    record {
      taken = h.taken;
      stops = All-cons (λ file. stop_of file ≡ Clean) text [] (ap stop_of are ∙ f.together_stop) (All-nil (λ file. stop_of file ≡ Clean));
      parts = file_records [] ps;
      are = append-nil (records_of text) ∙ ap records_of are ∙ f.together;
      records = all_came [] ps ∙ records_with h.files filed h.file h.are h.fronts;
      again = all_again [] ps;
    }
