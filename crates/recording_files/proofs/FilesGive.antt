-- What the files of a recorded session give.
use Rattle.std.proofs.Common.{◌≡◌, ℕ, Bool, false, cond, eqb, ap₂, List, [], ◌∷◌, ◌++◌, refl, sym, ap, subst, ◌∙◌, append_assoc, map}
use Rattle.std.specs.Prelude.{All, Option, Some, None, Result, true}
use Rattle.std.specs.Option.{ForSome}
use Rattle.std.specs.Io.KnownBytes.{Consumes}
use Rattle.ipfix_session.specs.Sources.{SourceView}
use Rattle.std.specs.List.{flat_map}
use Rattle.std.proofs.lemmas.List.{append-nil, map-append}
use Rattle.std.proofs.lemmas.List.Elements.{All-filter, All-nil, All-cons, All-head, All-tail}
use Rattle.ipfix_message.specs.Domains.{Message}
use Rattle.ipfix_message.specs.declared.record.DataRecord.{DataRecord}
use Rattle.ipfix_message.specs.declared.fault.MessageFault.{MessageFault}
use Rattle.ipfix_session.specs.declared.stop.Stop.{Stop}
use Rattle.ipfix_session.specs.declared.stop.Stop.TheVariants.{Clean, Short, Fault}
use Rattle.exporter_options.specs.Telling.{told_by}
use Rattle.exporter_options.specs.declared.telling.Told.{Told}
use Rattle.ipfix_session.specs.Given.{Given, given_within, known_after, records_in, records_of, records_within, stop_of, IsOpen, IsPrefix}
use Rattle.ipfix_session.proofs.Giving.{records_in-append, records_of-prefix, gives_after-fault_stays}
use Rattle.ipfix_session.specs.Drives.{IsDueWithin}
use Rattle.recording_files.specs.declared.record_fault.RecordFault.{RecordFault}
use Rattle.recording_files.specs.declared.file_report.FileReport.{FileReport}
use Rattle.recording_files.specs.FileReports.{file_reports}
use Rattle.recording_files.specs.Recordings.{Part, Recorded}
use Rattle.recording_files.specs.Heads.{is_written, number_in, told_first, written}
use Rattle.recording_files.specs.KeptOptions.{Kept, kept_after, read_again}
use Rattle.recording_files.specs.Faithful.{AreReadAlone, GiveFirstRecordsOf, GiveRecordsOf, IsToldAgain, TellAgain, all_given, all_in, file_records, is_flow, reads_as}
use Rattle.recording_files.specs.Files.{AreAllSeen, AreSeen, Contents, FilesView, all_of}
use Rattle.recording_files.specs.Periods.{ClockView, octets_read}
use Rattle.recording_files.specs.Sessions.{Progress, progress_after, file_octets, parts, StandsWith, IsCutOff, HoldsAll, HoldsCut, HoldsBy, IsTold, fault_of, RecordsAll}
use Rattle.recording_files.proofs.Growing.{writes-append}
use Rattle.ipfix_session.proofs.MessagesTaken.{octets-append}
use Rattle.recording_files.proofs.Going.{WritesPart, with_messages, recorded-push, all_given-parts}
use Rattle.recording_files.proofs.KeptCopied.{IsCopied, copied, read_as_given}
use Rattle.recording_files.proofs.Together.{is_faithful}
use Rattle.recording_files.proofs.Limited.{unlimited_open}

-- ---- what is told again came before

is_options : (r : DataRecord) (t : Told) → told_by r ≡ Some t → is_flow r ≡ false
is_options r t h = by_test _ (eqb r.scope 0) refl h
  where
    by_test : (u : Told) (b : Bool) → eqb r.scope 0 ≡ b → cond b None (Some u) ≡ Some t → eqb r.scope 0 ≡ false
    by_test u true e h = absurd cc
    by_test u false e h = e

again_one : (rs : List DataRecord) (time : ℕ) (k : Kept) → IsCopied rs k → IsToldAgain rs (read_again time k)
again_one rs time k is = record {
  given = is.given;
  among = is.among;
  is = read_as_given rs k time is;
  options = ap (λ (n : ℕ). eqb n 0) (sym is.scope) ∙ is_options is.given k.told is.tells;
}

again_all : (rs : List DataRecord) (time : ℕ) (ks : List Kept) → All (IsCopied rs) ks → All (IsToldAgain rs) (map (read_again time) ks)
again_all rs time [] all = All-nil (IsToldAgain rs)
again_all rs time (k ∷ ks) all =
    All-cons (IsToldAgain rs) (read_again time k) (map (read_again time) ks) (again_one rs time k (All-head (IsCopied rs) k ks all)) (again_all rs time ks (All-tail (IsCopied rs) k ks all))

pub told_again : (before here : List Message) → All (IsToldAgain (records_in before)) (told_first before here)
told_again before [] = All-nil (IsToldAgain (records_in before))
told_again before (x ∷ xs) =
    let ds = known_after [] before in
    let number = number_in before x.header in
    let rs = records_in before in
    again_all rs x.header.export_time (written before x.header) (All-filter (is_written ds number) (IsCopied rs) (kept_after before) (copied before))

-- ---- files

pub all_clean : (before : List Message) (ps : List Part) → AreReadAlone before ps → All (λ file. stop_of file ≡ Clean) (map file_octets ps)
all_clean before [] all = All-nil (λ file. stop_of file ≡ Clean)
all_clean before (p ∷ ps) all = All-cons (λ file. stop_of file ≡ Clean) (file_octets p) (map file_octets ps) all.0.stop (all_clean (before ++ p.given) ps all.1)

pub all_are : (before : List Message) (ps : List Part) → AreReadAlone before ps → flat_map records_of (map file_octets ps) ≡ flat_map all_in (file_records before ps)
all_are before [] all = refl
all_are before (p ∷ ps) all = ap₂ (λ (a b : List DataRecord). a ++ b) all.0.records (all_are (before ++ p.given) ps all.1)

pub all_came : (before : List Message) (ps : List Part) → flat_map (λ r. r.came) (file_records before ps) ≡ records_in (all_given ps)
all_came before [] = refl
all_came before (p ∷ ps) = ap (λ (rs : List DataRecord). records_in p.given ++ rs) (all_came (before ++ p.given) ps) ∙ sym (records_in-append p.given (all_given ps))

pub all_again : (before : List Message) (ps : List Part) → TellAgain (records_in before) (file_records before ps)
all_again before [] = tt
all_again before (p ∷ ps) = (told_again before p.given, subst (λ (rs : List DataRecord). TellAgain rs (file_records (before ++ p.given) ps)) (records_in-append before p.given) (all_again (before ++ p.given) ps))

-- what is told of files that tell their octets
pub contents_are : (first after : Option Contents) (none c : Contents) (reports : List FileReport) (finished : List Part) (last : Part) (cut_off : List ℕ) → first ≡ Some none → after ≡ Some c
    → StandsWith reports first after finished last cut_off
    → (c.finished ≡ none.finished ++ map file_octets finished) × (c.reports ≡ none.reports ++ reports) × (c.unfinished ≡ file_octets last ++ cut_off)
contents_are first after none c reports finished last cut_off is now stands =
    subst (λ (o : Option Contents). StandsWith reports (Some none) o finished last cut_off) now (subst (λ (o : Option Contents). StandsWith reports o after finished last cut_off) is stands)

pub files_give : (told : List Message → List Message → Type 0) (p : Progress) (after : FilesView) (start c : Contents) → HoldsAll told p after → AreSeen p.first after start c → start.finished ≡ [] → GiveRecordsOf p.limit (all_of c) p.text
files_give told p after start c h seen none =
    let ps = parts h.some.holds.finished h.some.holds.last in
    let read = (is_faithful ps h.some.holds.recorded).files in
    let t = contents_are p.first.contents after.contents start c (file_reports [] h.some.holds.finished) h.some.holds.finished h.some.holds.last [] seen.at_first seen.at_last h.some.holds.stands in
    let are : all_of c ≡ map file_octets ps =
    ap (λ (w : List ℕ). c.finished ++ w ∷ []) (t.2 ∙ append-nil (file_octets h.some.holds.last))
    ∙ ap (λ (fs : List (List ℕ)). fs ++ file_octets h.some.holds.last ∷ []) (t.0 ∙ ap (λ (fs : List (List ℕ)). fs ++ map file_octets h.some.holds.finished) none)
    ∙ sym (map-append file_octets h.some.holds.finished (h.some.holds.last ∷ [])) in
    record {
      stops = subst (λ (fs : List (List ℕ)). All (λ file. stop_of file ≡ Clean) fs) (sym are) (all_clean [] ps read);
      parts = file_records [] ps;
      are = ap (λ (fs : List (List ℕ)). flat_map records_of fs) are ∙ all_are [] ps read;
      records = all_came [] ps ∙ ap records_in h.all;
      again = all_again [] ps;
    }

-- ---- a file that was cut

not_clean : (e : MessageFault) → Fault e ≡ Clean → ⊥
not_clean e h = cc

-- the front of a text without a fault has none
open_front : (w more : List ℕ) → stop_of (w ++ more) ≡ Clean → IsOpen (stop_of w)
open_front w more clean = by_stop (stop_of w) refl
  where
    by_stop : (s : Stop) → stop_of w ≡ s → IsOpen s
    by_stop Clean is = tt
    by_stop Short is = tt
    by_stop (Fault e) is = absurd (not_clean e (sym is ∙ sym (ap (λ (g : Given). g.stop) (gives_after-fault_stays [] w more e is)) ∙ clean))

records-prefix : (ms ns : List Message) → IsPrefix ms ns → IsPrefix (records_in ms) (records_in ns)
records-prefix ms ns p = (records_in p.0, ap records_in p.1 ∙ records_in-append ms p.0)

-- files that are read by themselves, the last of them cut
pub kept : (before : List Message) (ps : List Part) (q : Part) (w more : List ℕ) → AreReadAlone before (ps ++ q ∷ []) → file_octets q ≡ w ++ more
    → All (λ file. IsOpen (stop_of file)) (map file_octets ps ++ w ∷ []) × IsPrefix (flat_map records_of (map file_octets ps ++ w ∷ [])) (flat_map all_in (file_records before (ps ++ q ∷ [])))
kept before [] q w more all is =
    let one = all.0 in
    let clean : stop_of (w ++ more) ≡ Clean = ap stop_of (sym is) ∙ one.stop in
    let front = records_of-prefix w more in
    let whole : records_of (w ++ more) ≡ reads_as before q.given = ap records_of (sym is) ∙ one.records in (
      All-cons (λ file. IsOpen (stop_of file)) w [] (open_front w more clean) (All-nil (λ file. IsOpen (stop_of file))),
      (front.0, append-nil (reads_as before q.given) ∙ sym whole ∙ front.1 ∙ ap (λ (rs : List DataRecord). rs ++ front.0) (sym (append-nil (records_of w)))),
    )
kept before (p ∷ ps) q w more all is =
    let one = all.0 in
    let others = kept (before ++ p.given) ps q w more all.1 is in (
      All-cons (λ file. IsOpen (stop_of file)) (file_octets p) (map file_octets ps ++ w ∷ []) (subst IsOpen (sym one.stop) tt) others.0,
      (
        others.1.0,
        ap (λ (rs : List DataRecord). reads_as before p.given ++ rs) others.1.1
            ∙ ap (λ (rs : List DataRecord). rs ++ (flat_map records_of (map file_octets ps ++ w ∷ []) ++ others.1.0)) (sym one.records)
            ∙ sym (append_assoc (records_of (file_octets p)) (flat_map records_of (map file_octets ps ++ w ∷ [])) others.1.0),
      ),
    )

recorded-last : (before : List Message) (ps : List Part) (p : Part) → Recorded before (ps ++ p ∷ []) → Recorded before ps × WritesPart (before ++ all_given ps) p
recorded-last before [] p r = (tt, subst (λ (b : List Message). WritesPart b p) (sym (append-nil before)) r.0)
recorded-last before (q ∷ ps) p r =
    let more = recorded-last (before ++ q.given) ps p r.1 in
    ((r.0, more.0), subst (λ (b : List Message). WritesPart b p) (append_assoc before q.given (all_given ps)) more.1)

kept_cut : (limit : Option ℕ) (text : List ℕ) (finished : List Part) (last : Part) (cut_off : List ℕ) → Recorded [] (parts finished last) → IsCutOff limit text (all_given finished) last.given cut_off
    → GiveFirstRecordsOf limit (map file_octets finished ++ (file_octets last ++ cut_off) ∷ []) text
kept_cut limit text finished last cut_off recorded c =
    let was = recorded-last [] finished last recorded in
    let q = with_messages last c.messages c.given c.file in
    let now : Recorded [] (parts finished q) = recorded-push [] finished q was.0 (writes-append (all_given finished) [] last.messages c.messages last.given c.given last.file c.file was.1 c.writes) in
    let octets : file_octets q ≡ (file_octets last ++ cut_off) ++ c.first.0 =
    octets-append last.file c.file ∙ ap (λ (w : List ℕ). file_octets last ++ w) c.first.1 ∙ sym (append_assoc (file_octets last) cut_off c.first.0) in
    let k = kept [] finished q (file_octets last ++ cut_off) c.first.0 (is_faithful (parts finished q) now).files octets in
    let given : IsPrefix (all_given (parts finished q)) (given_within limit text).messages = subst (λ (ms : List Message). IsPrefix ms (given_within limit text).messages) (sym (all_given-parts finished q)) c.next in
    record {
      stops = k.0;
      parts = file_records [] (parts finished q);
      are = k.1;
      records = subst (λ (rs : List DataRecord). IsPrefix rs (records_within limit text)) (sym (all_came [] (parts finished q))) (records-prefix (all_given (parts finished q)) (given_within limit text).messages given);
      again = all_again [] (parts finished q);
    }

pub files_keep : (told : List Message → List Message → Type 0) (p : Progress) (after : FilesView) (start c : Contents) → HoldsCut told p after → AreSeen p.first after start c → start.finished ≡ [] → GiveFirstRecordsOf p.limit (all_of c) p.text
files_keep told p after start c h seen none =
    let finished = h.holds.finished in
    let last = h.holds.last in
    let t = contents_are p.first.contents after.contents start c (file_reports [] finished) finished last h.cut_off seen.at_first seen.at_last h.holds.stands in
    let are : all_of c ≡ map file_octets finished ++ (file_octets last ++ h.cut_off) ∷ [] =
    ap (λ (w : List ℕ). c.finished ++ w ∷ []) t.2
    ∙ ap (λ (fs : List (List ℕ)). fs ++ (file_octets last ++ h.cut_off) ∷ []) (t.0 ∙ ap (λ (fs : List (List ℕ)). fs ++ map file_octets finished) none) in
    subst (λ (fs : List (List ℕ)). GiveFirstRecordsOf p.limit fs p.text) (sym are) (kept_cut p.limit p.text finished last h.cut_off h.holds.recorded h.next)

-- ---- to the end of the source

consumed_all : (before after : Option (List ℕ)) (whole gave : List ℕ) → before ≡ Some whole → Consumes before after gave → ForSome after (λ xs. xs ≡ []) → gave ≡ whole
consumed_all before None whole gave is some end = absurd (subst (λ b. Consumes b None gave) is some)
consumed_all before (Some left) whole gave is some end =
    let all : whole ≡ gave ++ left = subst (λ b. Consumes b (Some left) gave) is some in
    sym (all ∙ ap (λ (w : List ℕ). gave ++ w) (end left refl) ∙ append-nil gave)

pub recorded_all : {S F C : Type 0} (seen : S → SourceView) (view : F → FilesView) (asked : C → ClockView) (ended_is_end : (s : S) → (seen s).ended ≡ true → ForSome (seen s).text (λ xs. xs ≡ []))
    (text : List ℕ) (first last : F) (c : Contents) → RecordsAll seen view asked text first last → AreAllSeen (view first) (view last) c → (stop_of text ≡ Clean) × GiveRecordsOf None (all_of c) text
recorded_all seen view asked ended_is_end text first last c r is =
    let gave = octets_read r.records.reads in
    let limit = r.limits.templates in
    let p = progress_after limit (view first) r.records.reads in
    let due : IsDueWithin None r.limits gave (seen r.before) (seen r.after) = subst (λ (a : Result (Unit {0}) RecordFault). IsDueWithin (fault_of a) r.limits gave (seen r.before) (seen r.after)) r.no_fault r.records.given.fault_is_due in
    let holds : HoldsAll (IsTold r.session) p (view last) = subst (λ (a : Result (Unit {0}) RecordFault). HoldsBy (IsTold r.session) a p (view last)) r.no_fault r.records.holds in
    let all : gave ≡ text = consumed_all (seen r.before).text (seen r.after).text text gave r.text_is r.records.given.octets (ended_is_end r.after due.1) in
    let whole = unlimited_open limit gave (subst IsOpen (sym due.0) tt) in
    let given = files_give (IsTold r.session) p (view last) is.start c holds is.seen is.none in (
      ap stop_of (sym all) ∙ ap (λ (g : Given). g.stop) (sym whole) ∙ due.0,
      subst (GiveRecordsOf None (all_of c)) all (record {
        stops = given.stops;
        parts = given.parts;
        are = given.are;
        records = given.records ∙ ap (λ (g : Given). records_in g.messages) whole;
        again = given.again;
      }),
    )
