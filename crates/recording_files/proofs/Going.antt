-- The files of a session while it is recorded, read by read.
use Rattle.std.proofs.Common.{◌≡◌, ℕ, List, [], ◌∷◌, ◌++◌, length, drop, Option, Some, None, refl, sym, ap, subst, ◌∙◌, append_assoc, arith, inl, inr, map}
use Rattle.std.specs.Prelude.{◌⊎◌, ◌≢◌, true, Err, IfSome}
use Rattle.std.specs.List.{flat_map}
use Rattle.std.specs.Option.{option_map}
use Rattle.std.proofs.lemmas.List.{append-nil, map-append, drop_at}
use Rattle.std.proofs.lemmas.List.Elements.{All-nil, All-push}
use Rattle.std.proofs.lemmas.Grind.{flat_map-append}
use Rattle.std.proofs.lemmas.List.Folds.{flat_map-map}
use Rattle.ipfix_wire.specs.InTurn.{Parts}
use Rattle.ipfix_wire.proofs.Parts.{parts_of-none}
use Rattle.ipfix_wire.proofs.Streams.{parts_of-append}
use Rattle.ipfix_message.specs.Domains.{Message}
use Rattle.ipfix_message.specs.declared.fault.MessageFault.{MessageFault}
use Rattle.ipfix_message.specs.declared.fault.MessageFault.TheVariants.{OutOfMemory}
use Rattle.ipfix_session.specs.declared.stop.Stop.TheVariants.{Clean, Fault}
use Rattle.ipfix_session.specs.MessageStream.{next_message, cut}
use Rattle.ipfix_session.specs.Given.{Given, given_within, gives_within, behind, known_after, stop_within, IsOpen, IsPrefix, octets_of}
use Rattle.ipfix_session.specs.Sources.{one_more}
use Rattle.ipfix_session.specs.MessageSinks.{IsAtRest, TookFirst, TookUpTo, Stops}
use Rattle.ipfix_session.proofs.Cut.{messages_shrink, messages_stable}
use Rattle.ipfix_session.proofs.Giving.{gives_within-stop, gives_within-open}
use Rattle.ipfix_session.proofs.Texts.{nothing_follows}
use Rattle.ipfix_session.proofs.MessagesTaken.{octets-append, took_first}
use Rattle.recording_files.specs.declared.record_fault.RecordFault.{RecordFault}
use Rattle.recording_files.specs.declared.record_fault.RecordFault.TheVariants.{Message as OfMessage, Truncated, ReadFailed, TooManyReads, NotWritten}
use Rattle.recording_files.specs.declared.file_report.FileReport.{FileReport}
use Rattle.recording_files.specs.declared.gathering.Gathering.{Gathering}
use Rattle.recording_files.specs.FileReports.{file_report, file_reports}
use Rattle.recording_files.specs.Gathering.{BeforeRead, IsFresh, gathering_view}
use Rattle.recording_files.specs.Recordings.{Part, Recorded, Writes}
use Rattle.recording_files.specs.Recorders.{State, KeepsWithin, Told, Counted}
use Rattle.recording_files.specs.Counting.{CountsUpTo}
use Rattle.recording_files.specs.Faithful.{all_messages, all_given}
use Rattle.recording_files.specs.Files.{Contents, grown, turned, FilesView, with_more, with_next, failing, IsEmpty}
use Rattle.recording_files.specs.Periods.{unfinished_in, with_file, finished_at}
use Rattle.recording_files.specs.Sessions.{Progress, HasMessage, file_octets, parts, files_of, Stands, StandsWith, IsCutOff, Holds, HoldsSome, HoldsEarlier, HoldsAll, HoldsCut, fault_of}
use Rattle.recording_files.specs.Between.{HasRecorded, StopsRecording, turned_if, with_read}
use Rattle.recording_files.proofs.Growing.{writes-append}

-- ---- parts, one after another

abbrev pub whole : List Part → Part → List Message
whole finished last = all_given finished ++ last.given

pub all_given-parts : (finished : List Part) (last : Part) → all_given (parts finished last) ≡ whole finished last
all_given-parts finished last = flat_map-append (λ (p : Part). p.given) finished (last ∷ []) ∙ ap (λ (ms : List Message). all_given finished ++ ms) (append-nil last.given)

pub all_messages-parts : (finished : List Part) (last : Part) → all_messages (parts finished last) ≡ all_messages finished ++ last.messages
all_messages-parts finished last = flat_map-append (λ (p : Part). p.messages) finished (last ∷ []) ∙ ap (λ (ms : List (List ℕ)). all_messages finished ++ ms) (append-nil last.messages)

abbrev pub WritesPart : List Message → Part → Type 0
WritesPart before p = Writes before [] p.messages p.given p.file

pub recorded-push : (before : List Message) (ps : List Part) (p : Part) → Recorded before ps → WritesPart (before ++ all_given ps) p → Recorded before (ps ++ p ∷ [])
recorded-push before [] p r w = (subst (λ (b : List Message). WritesPart b p) (append-nil before) w, tt)
recorded-push before (q ∷ ps) p r w = (r.0, recorded-push (before ++ q.given) ps p r.1 (subst (λ (b : List Message). WritesPart b p) (sym (append_assoc before q.given (all_given ps))) w))

-- the reports of files, one file more
pub reports-push : (before : List Message) (ps : List Part) (p : Part) → file_reports before (ps ++ p ∷ []) ≡ file_reports before ps ++ file_report (before ++ all_given ps) p.given ∷ []
reports-push before [] p = ap (λ (b : List Message). file_report b p.given ∷ []) (sym (append-nil before))
reports-push before (q ∷ ps) p =
    ap (λ (rs : List FileReport). file_report before q.given ∷ rs) (reports-push (before ++ q.given) ps p)
    ∙ ap (λ (b : List Message). file_report before q.given ∷ (file_reports (before ++ q.given) ps ++ file_report b p.given ∷ [])) (append_assoc before q.given (all_given ps))

-- ---- what stands in the files

abbrev pub empty_part : Part
empty_part = record { messages = []; given = []; file = [] }

pub stands_first : (o : Option Contents) → IsEmpty o → Stands o o [] empty_part []
stands_first None none = tt
stands_first (Some c) none = (sym (append-nil c.finished), sym (append-nil c.reports), none)

-- what stands there after a change of it
stands_changed : (change : Contents → Contents) (first v after : Option Contents) (reports rs : List FileReport) (finished fs : List Part) (last next : Part) (octets : List ℕ)
    → ((f c : Contents) → StandsWith reports (Some f) (Some c) finished last [] → StandsWith rs (Some f) (Some (change c)) fs next octets) → after ≡ option_map change v → StandsWith reports first v finished last []
    → StandsWith rs first after fs next octets
stands_changed change first v after reports rs finished fs last next octets goes is stands = subst (λ (o : Option Contents). StandsWith rs first o fs next octets) (sym is) (by_cases first v stands)
  where
    by_cases : (f o : Option Contents) → StandsWith reports f o finished last [] → StandsWith rs f (option_map change o) fs next octets
    by_cases None None h = tt
    by_cases None (Some c) h = absurd h
    by_cases (Some f) None h = absurd h
    by_cases (Some f) (Some c) h = goes f c h

pub stands_more : (first v after : Option Contents) (reports : List FileReport) (finished : List Part) (last next : Part) (octets : List ℕ) → after ≡ option_map (grown octets) v → file_octets next ≡ file_octets last ++ octets
    → StandsWith reports first v finished last [] → StandsWith reports first after finished next []
stands_more first v after reports finished last next octets is longer stands =
    stands_changed (grown octets) first v after reports reports finished finished last next []
    (λ f c h. (h.0, h.1, ap (λ (w : List ℕ). w ++ octets) (h.2 ∙ append-nil (file_octets last)) ∙ sym longer ∙ sym (append-nil (file_octets next)))) is stands

pub stands_cut : (first v after : Option Contents) (reports : List FileReport) (finished : List Part) (last : Part) (octets : List ℕ) → after ≡ option_map (grown octets) v → StandsWith reports first v finished last []
    → StandsWith reports first after finished last octets
stands_cut first v after reports finished last octets is stands =
    stands_changed (grown octets) first v after reports reports finished finished last last octets (λ f c h. (h.0, h.1, ap (λ (w : List ℕ). w ++ octets) (h.2 ∙ append-nil (file_octets last)))) is stands

pub stands_next : (first v after : Option Contents) (reports : List FileReport) (finished : List Part) (last : Part) (report : FileReport) → after ≡ option_map (turned report) v → StandsWith reports first v finished last []
    → StandsWith (reports ++ report ∷ []) first after (parts finished last) empty_part []
stands_next first v after reports finished last report is stands =
    stands_changed (turned report) first v after reports (reports ++ report ∷ []) finished (parts finished last) last empty_part []
    (λ f c h. (
      ap (λ (fs : List (List ℕ)). fs ++ c.unfinished ∷ []) h.0 ∙ ap (λ (w : List ℕ). (f.finished ++ map file_octets finished) ++ w ∷ []) (h.2 ∙ append-nil (file_octets last))
          ∙ append_assoc f.finished (map file_octets finished) (file_octets last ∷ []) ∙ ap (λ (fs : List (List ℕ)). f.finished ++ fs) (sym (map-append file_octets finished (last ∷ []))),
      ap (λ (rs : List FileReport). rs ++ report ∷ []) h.1 ∙ append_assoc f.reports reports (report ∷ []),
      refl,
    )) is stands

-- with the report of its messages
pub stands_turned : (first v after : Option Contents) (finished : List Part) (last : Part) (report : FileReport) → after ≡ option_map (turned report) v → report ≡ file_report (all_given finished) last.given → Stands first v finished last []
    → Stands first after (parts finished last) empty_part []
stands_turned first v after finished last report is reported stands =
    subst (λ (rs : List FileReport). StandsWith rs first after (parts finished last) empty_part [])
    (ap (λ (r : FileReport). file_reports [] finished ++ r ∷ []) reported ∙ sym (reports-push [] finished last))
    (stands_next first v after (file_reports [] finished) finished last report is stands)

-- ---- between two reads

-- a file with more messages
abbrev pub with_messages : Part → List (List ℕ) → List Message → List (List ℕ) → Part
with_messages p messages given file = record { messages = p.messages ++ messages; given = p.given ++ given; file = p.file ++ file }

with_some : (files : List (List Message)) (ms : List Message) → ms ≢ [] → with_file files ms ≡ files ++ ms ∷ []
with_some files [] some = absurd (some refl)
with_some files (m ∷ ms) some = refl

-- nothing was to stand next
none_next : (limit : Option ℕ) (text : List ℕ) (before here : List Message) → IsPrefix (before ++ here) (given_within limit text).messages → IsCutOff limit text before here []
none_next limit text before here given = record {
  messages = [];
  given = [];
  file = [];
  writes = refl;
  next = subst (λ (ms : List Message). IsPrefix (before ++ ms) (given_within limit text).messages) (sym (append-nil here)) given;
  first = ([], refl);
}

-- nothing is appended
pub with_more-none : (v : FilesView) (octets : List ℕ) → octets ≡ [] → v ≡ with_more v octets
with_more-none v octets none = ap (λ (o : Option Contents). seen_as v o) (sym (by_cases v.contents)) ∙ ap (with_more v) (sym none)
  where
    seen_as : FilesView → Option Contents → FilesView
    seen_as u o = record u { contents = o }

    by_cases : (o : Option Contents) → option_map (grown []) o ≡ o
    by_cases None = refl
    by_cases (Some c) = ap (λ (w : List ℕ). some (record c { unfinished = w })) (append-nil c.unfinished)
      where
        some : Contents → Option Contents
        some x = Some x

pub nothing_recorded : (limit : Option ℕ) (v : FilesView) (g : Gathering) → IsFresh limit g → IsEmpty v.contents → HasRecorded (record { limit = limit; text = []; earlier = []; finished = []; first = v }) v g []
nothing_recorded limit v g fresh none = record {
  finished = [];
  last = empty_part;
  are = refl;
  earlier = tt;
  writes = refl;
  some = All-nil HasMessage;
  keeps = fresh.keeps;
  counted = fresh.counted;
  stands = stands_first v.contents none;
  not_failed = refl;
  octets = refl;
  is_rest = record { stop = Clean; none = nothing_follows; is_open = tt };
  is = gives_within-stop limit [] [] Clean nothing_follows;
  rest = ap (λ (q : Parts (List ℕ)). q.rest) (parts_of-none next_message [] Clean nothing_follows);
}

module _ {p : Progress} {v : FilesView} {g : Gathering} {left : List ℕ} (b : HasRecorded p v g left) where
  abbrev before : List Message
  before = all_given b.finished

  abbrev messages : List (List ℕ)
  messages = all_messages b.finished ++ b.last.messages

  abbrev given : List Message
  given = whole b.finished b.last

  all_there : (given_within p.limit p.text).messages ≡ given
  all_there = ap (λ (x : Given). x.messages) b.is

  held_there : all_given (parts b.finished b.last) ≡ (given_within p.limit p.text).messages
  held_there = all_given-parts b.finished b.last ∙ sym all_there

  pub stop_is : stop_within p.limit p.text ≡ b.is_rest.stop
  stop_is = ap (λ (x : Given). x.stop) b.is

  pub open_yet : IsOpen (stop_within p.limit p.text)
  open_yet = subst IsOpen (sym stop_is) b.is_rest.is_open

  -- the files hold what a text begins with, with this as the last of them
  abbrev holds_with : (last : Part) → WritesPart before last → (text more : List ℕ) (others : List Message) (after : FilesView) (cut_off : List ℕ) → text ≡ octets_of (all_messages b.finished ++ last.messages) ++ more
      → (given_within p.limit text).messages ≡ whole b.finished last ++ others → Stands p.first.contents after.contents b.finished last cut_off → Holds p.limit text p.first after cut_off
  holds_with last writes text more others after cut_off octets is stands = record {
    finished = b.finished;
    last = last;
    recorded = recorded-push [] b.finished last b.earlier writes;
    some = b.some;
    stands = stands;
    left = more;
    octets = octets ∙ ap (λ (ms : List (List ℕ)). octets_of ms ++ more) (sym (all_messages-parts b.finished last));
    given = (others, is ∙ ap (λ (ms : List Message). ms ++ others) (sym (all_given-parts b.finished last)));
  }

  abbrev some_held : HoldsSome (Counted g.counts.told) p v
  some_held = record { holds = holds_with b.last b.writes p.text left [] v [] b.octets (all_there ∙ sym (append-nil given)) b.stands; finished = b.are; not_failed = b.not_failed; tells = b.counted }

  pub all_held : HoldsAll (Counted g.counts.told) p v
  all_held = record { some = some_held; all = held_there }

  -- memory ran out where all of them stand
  pub earlier_held : p.earlier ≡ p.text → HoldsEarlier (Counted g.counts.told) p v
  earlier_held same = record { some = some_held; at_least = ([], held_there ∙ ap (λ (text : List ℕ). (given_within p.limit text).messages) (sym same) ∙ sym (append-nil (given_within p.limit p.earlier).messages)) }

  -- ---- the text goes on

  module _ (piece : List ℕ) where
    more_octets : p.text ++ piece ≡ octets_of messages ++ (left ++ piece)
    more_octets = ap (λ (x : List ℕ). x ++ piece) b.octets ∙ append_assoc (octets_of messages) left piece

    more_is : given_within p.limit (p.text ++ piece) ≡ behind given (gives_within p.limit (known_after [] given) (left ++ piece))
    more_is =
        gives_within-open p.limit [] p.text piece open_yet
        ∙ ap (λ (x : Given). behind x.messages (gives_within p.limit (known_after [] x.messages) ((cut p.text).rest ++ piece))) b.is
        ∙ ap (λ (x : List ℕ). behind given (gives_within p.limit (known_after [] given) (x ++ piece))) b.rest

    more_rest : (cut (p.text ++ piece)).rest ≡ (cut (left ++ piece)).rest
    more_rest =
        ap (λ (q : Parts (List ℕ)). q.rest) (parts_of-append next_message messages_shrink messages_stable (length p.text) p.text piece (omega arith)) ∙ ap (λ (x : List ℕ). (cut (x ++ piece)).rest) b.rest

    -- the first octets of what was to stand next may stand there
    abbrev holds_yet : (after : FilesView) (cut_off : List ℕ) → Stands p.first.contents after.contents b.finished b.last cut_off → Holds p.limit (p.text ++ piece) p.first after cut_off
    holds_yet after cut_off stands =
        holds_with b.last b.writes (p.text ++ piece) (left ++ piece) (gives_within p.limit (known_after [] given) (left ++ piece)).messages after cut_off more_octets (ap (λ (x : Given). x.messages) more_is) stands

  -- ---- the next file

  -- what stands in no finished file is in the last
  unfinished_is : unfinished_in p.limit p.text p.finished ≡ b.last.given
  unfinished_is =
      let same : flat_map (λ (file : List Message). file) p.finished ≡ before =
      ap (flat_map (λ (file : List Message). file)) (sym b.are) ∙ flat_map-map (λ (file : List Message). file) (λ (q : Part). q.given) b.finished in
      ap (λ (ms : List Message). drop (length ms) (given_within p.limit p.text).messages) same ∙ ap (drop (length before)) all_there ∙ drop_at before b.last.given (length before) refl

  turned_are : HasMessage b.last → files_of (parts b.finished b.last) ≡ finished_at p.limit true p.text p.finished
  turned_are has_one =
      map-append (λ (q : Part). q.given) b.finished (b.last ∷ [])
      ∙ ap (λ (fs : List (List Message)). fs ++ b.last.given ∷ []) b.are
      ∙ sym (with_some p.finished b.last.given has_one)
      ∙ ap (with_file p.finished) (sym unfinished_is)

  -- a file without a message goes on
  pub unbegun : b.last.given ≡ [] → HasRecorded (turned_if true p) v g left
  unbegun none =
      let same : finished_at p.limit true p.text p.finished ≡ p.finished = ap (with_file p.finished) (unfinished_is ∙ none) in
      subst (λ (fs : List (List Message)). HasRecorded (record p { finished = fs }) v g left) (sym same) b

  module _ (has_one : HasMessage b.last) where
    given_turned : given ≡ whole (parts b.finished b.last) empty_part
    given_turned = sym (append-nil (all_given (parts b.finished b.last)) ∙ all_given-parts b.finished b.last)

    turned_stands : (after : Option Contents) → after ≡ option_map (turned g.counts.told.file) v.contents → Stands p.first.contents after (parts b.finished b.last) empty_part []
    turned_stands after is = stands_turned p.first.contents v.contents after b.finished b.last g.counts.told.file is b.counted.file b.stands

    pub has_turned : (after : FilesView) (h : Gathering) → after ≡ with_next v g.counts.told.file → KeepsWithin p.limit h.recorder given [] → Counted h.counts.told given [] → HasRecorded (turned_if true p) after h left
    has_turned after h next keeps counted =
        let none : all_messages (parts b.finished b.last) ++ [] ≡ messages = append-nil (all_messages (parts b.finished b.last)) ∙ all_messages-parts b.finished b.last in
        record {
          finished = parts b.finished b.last;
          last = empty_part;
          are = turned_are has_one;
          earlier = recorded-push [] b.finished b.last b.earlier b.writes;
          writes = refl;
          some = All-push HasMessage b.finished b.last b.some has_one;
          keeps = subst (λ (ms : List Message). KeepsWithin p.limit h.recorder ms []) (sym (all_given-parts b.finished b.last)) keeps;
          counted = subst (λ (ms : List Message). Counted h.counts.told ms []) (sym (all_given-parts b.finished b.last)) counted;
          stands = turned_stands after.contents (ap (λ (u : FilesView). u.contents) next);
          not_failed = ap (λ (u : FilesView). u.failed) next ∙ b.not_failed;
          octets = b.octets ∙ ap (λ (ms : List (List ℕ)). octets_of ms ++ left) (sym none);
          is_rest = b.is_rest;
          is = b.is ∙ ap (λ (ms : List Message). record { messages = ms; stop = b.is_rest.stop }) given_turned;
          rest = b.rest;
        }

    -- a file was not finished, or it was and no other came
    pub ends_turning : (piece : List ℕ) (after : FilesView) → (after ≡ failing v) ⊎ (after ≡ failing (with_next v g.counts.told.file)) → HoldsCut (Counted g.counts.told) (with_read piece (turned_if true p)) after
    ends_turning piece after (inl same) =
        let holds = holds_yet piece after [] (subst (λ (o : Option Contents). Stands p.first.contents o b.finished b.last []) (sym (ap (λ (u : FilesView). u.contents) same)) b.stands) in
        record {
          cut_off = [];
          holds = holds;
          all = held_there;
          next = none_next p.limit (p.text ++ piece) before b.last.given (subst (λ (ms : List Message). IsPrefix ms (given_within p.limit (p.text ++ piece)).messages) (all_given-parts b.finished b.last) holds.given);
          finished = inr (turned_are has_one);
          failed = ap (λ (u : FilesView). u.failed) same ∙ ap one_more b.not_failed;
          tells = inl b.counted;
        }
    ends_turning piece after (inr next) =
        let same : all_given (parts (parts b.finished b.last) empty_part) ≡ all_given (parts b.finished b.last) = all_given-parts (parts b.finished b.last) empty_part ∙ append-nil (all_given (parts b.finished b.last)) in
        let octets : all_messages (parts (parts b.finished b.last) empty_part) ≡ all_messages (parts b.finished b.last) = all_messages-parts (parts b.finished b.last) empty_part ∙ append-nil (all_messages (parts b.finished b.last)) in
        let old = holds_yet piece v [] b.stands in
        record {
          cut_off = [];
          holds = record {
            finished = parts b.finished b.last;
            last = empty_part;
            recorded = recorded-push [] (parts b.finished b.last) empty_part old.recorded refl;
            some = All-push HasMessage b.finished b.last b.some has_one;
            stands = turned_stands after.contents (ap (λ (u : FilesView). u.contents) next);
            left = left ++ piece;
            octets = old.octets ∙ ap (λ (ms : List (List ℕ)). octets_of ms ++ (left ++ piece)) (sym octets);
            given = (old.given.0, old.given.1 ∙ ap (λ (ms : List Message). ms ++ old.given.0) (sym same));
          };
          all = same ∙ held_there;
          next = none_next p.limit (p.text ++ piece) (all_given (parts b.finished b.last)) [] (old.given.0, old.given.1 ∙ ap (λ (ms : List Message). ms ++ old.given.0) (sym (append-nil (all_given (parts b.finished b.last)))));
          finished = inl (turned_are has_one);
          failed = ap (λ (u : FilesView). u.failed) next ∙ ap one_more b.not_failed;
          tells = inr (record { earlier = b.finished; part = b.last; are = refl; none = refl; tells = b.counted });
        }

  -- ---- what was gathered is written

  abbrev pub before_read : BeforeRead
  before_read = record { limit = p.limit; before = before; here = b.last.given; told = g.counts.told }

  module _ (piece : List ℕ) (h : Gathering) where
    abbrev Gathered : Type 0
    Gathered = TookFirst gathering_view before_read (left ++ piece) h tt

    -- the file with it
    abbrev grown_part : Gathered → Part
    grown_part t = with_messages b.last t.messages t.given t.took.file

    grown_writes : (t : Gathered) → WritesPart before (grown_part t)
    grown_writes t = writes-append before [] b.last.messages t.messages b.last.given t.given b.last.file t.took.file b.writes t.took.writes

    grown_octets : (t : Gathered) → file_octets (grown_part t) ≡ file_octets b.last ++ h.out.items
    grown_octets t = octets-append b.last.file t.took.file ∙ ap (λ (w : List ℕ). file_octets b.last ++ w) (sym t.took.out_is)

    -- its messages are the next octets of the text
    grown_text : (t : Gathered) → p.text ++ piece ≡ octets_of (all_messages b.finished ++ (b.last.messages ++ t.messages)) ++ t.left
    grown_text t =
        more_octets piece
        ∙ ap (λ (w : List ℕ). octets_of messages ++ w) t.octets ∙ sym (append_assoc (octets_of messages) (octets_of t.messages) t.left)
        ∙ ap (λ (w : List ℕ). w ++ t.left) (sym (octets-append messages t.messages)) ∙ ap (λ (ms : List (List ℕ)). octets_of ms ++ t.left) (append_assoc (all_messages b.finished) b.last.messages t.messages)

    -- and give the next of its messages
    grown_given : (t : Gathered) → (given_within p.limit (p.text ++ piece)).messages ≡ whole b.finished (grown_part t) ++ t.next.0
    grown_given t =
        ap (λ (x : Given). x.messages) (more_is piece) ∙ ap (λ (ms : List Message). given ++ ms) t.next.1 ∙ sym (append_assoc given t.given t.next.0)
        ∙ ap (λ (ms : List Message). ms ++ t.next.0) (append_assoc before b.last.given t.given)

    -- the first octets of it may stand there
    pub read_cut : (after : FilesView) (front : List ℕ) → Gathered → IsPrefix front h.out.items → after ≡ failing (with_more v front) → HoldsCut (Counted g.counts.told) (with_read piece p) after
    read_cut after front t q is = record {
      cut_off = front;
      holds = holds_yet piece after front (stands_cut p.first.contents v.contents after.contents (file_reports [] b.finished) b.finished b.last front (ap (λ (u : FilesView). u.contents) is) b.stands);
      all = held_there;
      next = record {
        messages = t.messages;
        given = t.given;
        file = t.took.file;
        writes = t.took.writes;
        next = (t.next.0, grown_given t);
        first = (q.0, sym t.took.out_is ∙ q.1);
      };
      finished = inl b.are;
      failed = ap (λ (u : FilesView). u.failed) is ∙ ap one_more b.not_failed;
      tells = inl b.counted;
    }

    module _ {after : FilesView} (is : after ≡ with_more v h.out.items) (k : Gathering) (counts : CountsUpTo h.counts.told k.counts.told h.counts.waiting) where
      grown_counted : (t : Gathered) → Counted k.counts.told before (b.last.given ++ t.given)
      grown_counted t = counts before b.last.given t.given (subst (λ (told : Told). Counted told before b.last.given) (sym t.took.told_is) b.counted) t.took.counted

      grown_stands : (t : Gathered) → Stands p.first.contents after.contents b.finished (grown_part t) []
      grown_stands t = stands_more p.first.contents v.contents after.contents (file_reports [] b.finished) b.finished b.last (grown_part t) h.out.items (ap (λ (u : FilesView). u.contents) is) (grown_octets t) b.stands

      pub read_on : (rest : List ℕ) → k.recorder ≡ h.recorder → IsAtRest gathering_view before_read (left ++ piece) h tt rest → HasRecorded (with_read piece p) after k rest
      read_on rest same x =
          let t : Gathered = took_first gathering_view before_read (left ++ piece) h h tt tt rest x.between x.between.taken.took in
          let stop = x.is_rest.stop in
          let next : gives_within p.limit (known_after [] given) (left ++ piece) ≡ record { messages = t.given; stop = stop } =
          x.between.is ∙ ap (behind t.given) (gives_within-stop p.limit (known_after (known_after [] given) t.given) rest stop x.is_rest.none) ∙ ap (λ (ms : List Message). record { messages = ms; stop = stop }) (append-nil t.given) in
          record {
            finished = b.finished;
            last = grown_part t;
            are = b.are;
            earlier = b.earlier;
            writes = grown_writes t;
            some = b.some;
            keeps = subst (λ (s : State). KeepsWithin p.limit s before (b.last.given ++ t.given)) (sym same) x.between.taken.is_ready;
            counted = grown_counted t;
            stands = grown_stands t;
            not_failed = ap (λ (u : FilesView). u.failed) is ∙ b.not_failed;
            octets = grown_text t;
            is_rest = x.is_rest;
            is = more_is piece ∙ ap (behind given) next ∙ ap (λ (ms : List Message). record { messages = ms; stop = stop }) (append_assoc before b.last.given t.given);
            rest = more_rest piece ∙ x.between.rest ∙ ap (λ (q : Parts (List ℕ)). q.rest) (parts_of-none next_message rest stop x.is_rest.none);
          }

      -- it stands there, and no more is read
      read_some : (t : Gathered) → HoldsSome (Counted k.counts.told) (with_read piece p) after
      read_some t = record {
        holds = holds_with (grown_part t) (grown_writes t) (p.text ++ piece) t.left t.next.0 after [] (grown_text t) (grown_given t) (grown_stands t);
        finished = b.are;
        not_failed = ap (λ (u : FilesView). u.failed) is ∙ b.not_failed;
        tells = grown_counted t;
      }

      read_all : (e : MessageFault) → TookUpTo gathering_view before_read e (left ++ piece) h tt → (stop_within p.limit (p.text ++ piece) ≡ Fault e) × HoldsAll (Counted k.counts.told) (with_read piece p) after
      unfolding read_some
      read_all e t =
          let on : given_within p.limit (p.text ++ piece) ≡ record { messages = given ++ t.first.given; stop = Fault e } = more_is piece ∙ ap (behind given) t.all in (
            ap (λ (x : Given). x.stop) on,
            record {
              some = read_some t.first;
              all = all_given-parts b.finished (grown_part t.first) ∙ sym (ap (λ (x : Given). x.messages) on ∙ append_assoc before b.last.given t.first.given);
            },
          )

      read_earlier : Gathered → HoldsEarlier (Counted k.counts.told) (with_read piece p) after
      unfolding read_some
      read_earlier t = record {
        some = read_some t;
        at_least = (
          t.given,
          all_given-parts b.finished (grown_part t) ∙ sym (append_assoc before b.last.given t.given) ∙ ap (λ (ms : List Message). ms ++ t.given) (sym all_there),
        );
      }

      pub read_fault : (e : RecordFault) → IfSome (fault_of (Err e)) (λ f. Stops gathering_view before_read f (left ++ piece) h tt) → StopsRecording e (with_read piece p) after k
      read_fault (OfMessage OutOfMemory) stops = (tt, read_earlier stops)
      read_fault (OfMessage e) stops = read_all e stops
      read_fault Truncated stops = absurd stops
      read_fault ReadFailed stops = absurd stops
      read_fault TooManyReads stops = absurd stops
      read_fault NotWritten stops = absurd stops.part
