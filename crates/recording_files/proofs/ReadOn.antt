-- Recording a session, read by read.
use Rattle.std.proofs.Common.{◌≡◌, ℕ, ◌+◌, ◌<◌, ◌≤◌, eqb, List, [], ◌∷◌, ◌++◌, length, Option, Result, Ok, Err, refl, sym, ap, subst, ◌∙◌, arith, inl, inr}
use Rattle.std.specs.Prelude.{◌⊎◌, ◌-◌, ◌^◌, ◌||◌, Bool, true, take, OnOk, IfErr}
use Rattle.std.specs.Io.KnownBytes.{Consumes}
use Rattle.std.proofs.KnownBytes.{Consumes-nil, Consumes-trans, Consumes-kept}
use Rattle.std.proofs.Math.Bool.{or-false}
use Rattle.std.proofs.lemmas.List.{append-nil}
use Rattle.ipfix_message.specs.declared.fault.MessageFault.TheVariants.{OutOfMemory}
use Rattle.ipfix_message.specs.Domains.{Message}
use Rattle.ipfix_session.specs.declared.stop.Stop.{Stop}
use Rattle.ipfix_session.specs.declared.stop.Stop.TheVariants.{Clean, Short, Fault}
use Rattle.ipfix_session.specs.declared.source.ReadError.TheVariants.{Interrupted, Failed}
use Rattle.ipfix_session.specs.MessageStream.{rest_stop}
use Rattle.ipfix_session.specs.Given.{stop_within, IsOpen}
use Rattle.ipfix_session.specs.Sources.{SourceView, IsRead, one_more}
use Rattle.ipfix_session.specs.declared.driver.TheConstants.{READ_SIZE}
use Rattle.ipfix_session.specs.declared.session_limits.SessionLimits.{SessionLimits}
use Rattle.ipfix_session.specs.Drives.{IsDueWithin, StopsWithin}
use Rattle.ipfix_session.proofs.Cut.{next_stop}
use Rattle.ipfix_session.proofs.Reaching.{never_clean}
use Rattle.ipfix_session.proofs.Driving.{counted_on, tells_none, told_end}
use Rattle.recording_files.specs.declared.record_fault.RecordFault.{RecordFault}
use Rattle.recording_files.specs.declared.record_fault.RecordFault.TheVariants.{Message as OfMessage, Truncated, ReadFailed, TooManyReads, NotWritten}
use Rattle.recording_files.specs.Recorders.{Counted}
use Rattle.recording_files.specs.declared.gathering.Gathering.{Gathering}
use Rattle.recording_files.specs.Gathering.{IsFresh}
use Rattle.recording_files.specs.Faithful.{all_given}
use Rattle.recording_files.specs.Files.{FilesView, IsEmpty}
use Rattle.recording_files.specs.Periods.{ClockView, IsAnswer, AskedRead, IsAskedRead, AreAskedReads, source_behind, clock_behind, octets_read}
use Rattle.recording_files.specs.Sessions.{Progress, progress_after, HoldsSome, HoldsEarlier, HoldsAll, HoldsCut, HoldsBy, fault_of, RecordsTo}
use Rattle.recording_files.specs.Between.{HasRecorded, StopsAt, StopsRecording, turned_if, with_read}
use Rattle.recording_files.proofs.Going.{nothing_recorded, earlier_held, open_yet, stop_is, all_held}

-- a read that gave this piece, and did not end the source
pub record ReadsOn (now after : SourceView) (piece : List ℕ) : Type 0 where
  pub moved : Consumes now.text after.text piece
  pub counted : after.reads ≡ one_more now.reads
  pub none_failed : after.failed ≡ now.failed
  pub not_ended : after.ended ≡ now.ended

pub fed : (now after : SourceView) (count : ℕ) (buffer : List ℕ) → IsRead now (Ok count) after buffer → (count ≡ 0 → ⊥) → ReadsOn now after (take count buffer)
fed now after count buffer read some = record {
  moved = read.moved;
  counted = read.counted;
  none_failed = read.failures;
  not_ended = read.end ∙ ap (λ b. now.ended || b) (tells_none count buffer (eqb count 0) refl some) ∙ or-false now.ended;
}

-- a read's time limit passed
pub interrupted : (now after : SourceView) (buffer : List ℕ) → IsRead now (Err Interrupted) after buffer → ReadsOn now after []
interrupted now after buffer read = record {
  moved = Consumes-kept now.text now.text after.text [] (Consumes-nil now.text) read.moved;
  counted = read.counted;
  none_failed = read.failures;
  not_ended = read.end ∙ or-false now.ended;
}

module _ {S C : Type 0} (seen : S → SourceView) (asked : C → ClockView) where
  -- after this many reads, after each of which the clock was asked, the files hold the whole messages of what the source gave,
  -- and left is what follows them
  pub record Reading (limit : Option ℕ) (n : ℕ) (before now : S) (start clock : C) (first v : FilesView) (g : Gathering) (left : List ℕ) : Type 0 where
    pub reads : List (AskedRead S C)
    pub are : AreAskedReads seen asked before start reads
    pub source_is : source_behind before reads ≡ now
    pub clock_is : clock_behind start reads ≡ clock
    pub octets : Consumes (seen before).text (seen now).text (octets_read reads)
    pub recorded : HasRecorded (progress_after limit first reads) v g left
    pub within : (seen now).reads ≤ (seen before).reads + n
    pub counted : ((seen now).reads ≡ (seen before).reads + n) ⊎ ((seen now).reads ≡ 2 ^ 64 - 1)
    pub none_failed : (seen now).failed ≡ (seen before).failed
    pub not_ended : (seen now).ended ≡ (seen before).ended

  pub reading_first : (limit : Option ℕ) (source : S) (clock : C) (v : FilesView) (g : Gathering) (left : List ℕ) → left ≡ [] → IsFresh limit g → IsEmpty v.contents → Reading limit 0 source source clock clock v v g left
  reading_first limit source clock v g left none new fresh = record {
    reads = [];
    are = tt;
    source_is = refl;
    clock_is = refl;
    octets = Consumes-nil (seen source).text;
    recorded = subst (λ (w : List ℕ). HasRecorded (progress_after {S = S} {C = C} limit v []) v g w) (sym none) (nothing_recorded limit v g new fresh);
    within = omega arith;
    counted = inl (omega arith);
    none_failed = refl;
    not_ended = refl;
  }

  abbrev asked_read : List ℕ → Bool → S → C → AskedRead S C
  asked_read piece is_over after clock = record { octets = piece; is_over = is_over; source = after; clock = clock }

  module _ {limit : Option ℕ} {n : ℕ} {before now : S} {start clock : C} {first v : FilesView} {g : Gathering} {left : List ℕ} (d : Reading limit n before now start clock first v g left) (after : S) where
    -- one read more, and the clock's answer after it
    one_read : (then : C) (piece : List ℕ) (is_over : Bool) → ReadsOn (seen now) (seen after) piece → IsAnswer (asked clock) is_over (asked then) → AreAskedReads seen asked before start (asked_read piece is_over after then ∷ d.reads)
    one_read then piece is_over on answer =
        let h = asked_read piece is_over after then in
        let here : IsAskedRead seen asked now clock h = record { octets = on.moved; one_read = on.counted; one_answer = answer } in
        let there : IsAskedRead seen asked (source_behind before d.reads) clock h = subst (λ (x : S). IsAskedRead seen asked x clock h) (sym d.source_is) here in
        (subst (λ (k : C). IsAskedRead seen asked (source_behind before d.reads) k h) (sym d.clock_is) there, d.are)

    pub reading_on : (then : C) (w : FilesView) (h : Gathering) (more piece : List ℕ) (is_over : Bool) → ReadsOn (seen now) (seen after) piece → IsAnswer (asked clock) is_over (asked then)
        → HasRecorded (with_read piece (turned_if is_over (progress_after limit first d.reads))) w h more → Reading limit (n + 1) before after start then first w h more
    reading_on then w h more piece is_over on answer next = record {
      reads = asked_read piece is_over after then ∷ d.reads;
      are = one_read then piece is_over on answer;
      source_is = refl;
      clock_is = refl;
      octets = Consumes-trans (seen before).text (seen now).text (seen after).text (octets_read d.reads) piece d.octets on.moved;
      recorded = next;
      within = omega (arith, d.within, on.counted);
      counted = counted_on (seen before).reads (seen now).reads (seen after).reads n on.counted d.counted;
      none_failed = on.none_failed ∙ d.none_failed;
      not_ended = on.not_ended ∙ d.not_ended;
    }

    -- nothing is read after a fault
    stops_at : (gave piece : List ℕ) → (seen after).reads ≤ (seen now).reads + 1 → gave ≡ octets_read d.reads ++ piece → length piece ≤ READ_SIZE → StopsWithin seen limit before gave after
    stops_at gave piece few is fits = record {
      at = now;
      earlier = octets_read d.reads;
      octets = d.octets;
      no_fault = open_yet d.recorded;
      none_failed = d.none_failed;
      not_ended = d.not_ended;
      one_read = few;
      last = piece;
      is = is;
      size = fits;
    }

-- ---- why it goes no further

due_by : (limits : SessionLimits) (before after : SourceView) (text : List ℕ) (f : RecordFault) → StopsAt limits.templates f text → IsDueWithin (fault_of (Err f)) limits text before after
due_by limits before after text (OfMessage OutOfMemory) due = tt
due_by limits before after text (OfMessage e) due = due
due_by limits before after text NotWritten due = tt
due_by limits before after text Truncated due = absurd due
due_by limits before after text ReadFailed due = absurd due
due_by limits before after text TooManyReads due = absurd due

short_is : (left : List ℕ) (s : Stop) → 0 < length left → rest_stop left ≡ s → IsOpen s → s ≡ Short
short_is [] s some e is_open = absurd (omega (arith, some))
short_is (b ∷ w) Clean some e is_open = absurd (never_clean b w e)
short_is (b ∷ w) Short some e is_open = refl
short_is (b ∷ w) (Fault f) some e is_open = absurd is_open

module _ {S F C : Type 0} (seen : S → SourceView) (view : F → FilesView) (asked : C → ClockView) (limits : SessionLimits) (first last : F) where
  module _ {n : ℕ} {before now : S} {start clock : C} {g : Gathering} {left : List ℕ} (d : Reading seen asked limits.templates n before now start clock (view first) (view last) g left) (after : S) where
    pub records_fault : (more : F) (then : C) (h : Gathering) (piece : List ℕ) (is_over : Bool) (f : RecordFault) → n < limits.reads → length piece ≤ READ_SIZE → ReadsOn (seen now) (seen after) piece → IsAnswer (asked clock) is_over (asked then)
        → StopsRecording f (with_read piece (turned_if is_over (progress_after limits.templates (view first) d.reads))) (view more) h → RecordsTo seen view asked limits before after first more start then (Err f) (Counted h.counts.told)
    unfolding stops_at
    records_fault more then h piece is_over f less room on answer stops =
        let gave = octets_read d.reads ++ piece in
        record {
          reads = asked_read seen asked piece is_over after then ∷ d.reads;
          are_reads = one_read seen asked d after then piece is_over on answer;
          given = record {
            octets = Consumes-trans (seen before).text (seen now).text (seen after).text (octets_read d.reads) piece d.octets on.moved;
            within = omega (arith, d.within, on.counted, less);
            stops = stops_at seen asked d after gave piece (omega (arith, on.counted)) refl room;
            fault_is_due = due_by limits (seen before) (seen after) gave f stops.0;
          };
          last_answer = refl;
          one_read = omega arith;
          holds = stops.1;
        }

    -- the last read gave nothing
    records_still : (answer : Result (Unit {0}) RecordFault) → Consumes (seen before).text (seen after).text (octets_read d.reads) → (seen after).reads ≤ (seen before).reads + limits.reads
        → (seen after).reads ≤ (seen now).reads + 1 → IsDueWithin (fault_of answer) limits (octets_read d.reads) (seen before) (seen after) → HoldsBy (Counted g.counts.told) answer (progress_after limits.templates (view first) d.reads) (view last)
        → RecordsTo seen view asked limits before after first last start clock answer (Counted g.counts.told)
    unfolding stops_at
    records_still answer octets within few due holds =
        let gave = octets_read d.reads in
        record {
          reads = d.reads;
          are_reads = d.are;
          given = record {
            octets = octets;
            within = within;
            stops = stops_at seen asked d after gave [] few (sym (append-nil gave)) (omega arith);
            fault_is_due = due;
          };
          last_answer = d.clock_is;
          one_read = subst (λ (x : S). (seen after).reads ≤ (seen x).reads + 1) (sym d.source_is) few;
          holds = holds;
        }

    -- the end of the source
    pub records_ended : (count : ℕ) (buffer : List ℕ) (answer : Result (Unit {0}) RecordFault) → n < limits.reads → IsRead (seen now) (Ok count) (seen after) buffer → count ≡ 0 → 0 < length buffer
        → OnOk answer (left ≡ []) → IfErr answer (λ fault. (fault ≡ Truncated) × (0 < length left)) → RecordsTo seen view asked limits before after first last start clock answer (Counted g.counts.told)
    records_ended count buffer answer less read none room whole cut =
        let gave = octets_read d.reads in
        let same : List ℕ → Type 0 = λ x. Consumes (seen before).text (seen after).text x in
        let moved = subst (λ k. Consumes (seen now).text (seen after).text (take k buffer)) none read.moved in
        let octets = subst same (append-nil gave) (Consumes-trans (seen before).text (seen now).text (seen after).text gave [] d.octets moved) in
        let stop = stop_is d.recorded ∙ sym (next_stop left d.recorded.is_rest.stop d.recorded.is_rest.none) in
        by_answer answer octets stop (told_end (seen now).ended (seen after).ended count buffer read.end none room) (read.failures ∙ d.none_failed) whole cut
      where
        by_answer : (r : Result (Unit {0}) RecordFault) → Consumes (seen before).text (seen after).text (octets_read d.reads) → stop_within limits.templates (octets_read d.reads) ≡ rest_stop left → (seen after).ended ≡ true
            → (seen after).failed ≡ (seen before).failed → OnOk r (left ≡ []) → IfErr r (λ fault. (fault ≡ Truncated) × (0 < length left)) → RecordsTo seen view asked limits before after first last start clock r (Counted g.counts.told)
        by_answer (Ok x) octets stop ended failed none_left cut =
            records_still (Ok x) octets (omega (arith, d.within, read.counted, less)) (omega (arith, read.counted)) (stop ∙ ap rest_stop none_left, ended, failed) (all_held d.recorded)
        by_answer (Err f) octets stop ended failed whole both =
            let rest = d.recorded.is_rest in
            let short = short_is left rest.stop both.1 (next_stop left rest.stop rest.none) rest.is_open in
            subst (λ (e : RecordFault). RecordsTo seen view asked limits before after first last start clock (Err e) (Counted g.counts.told)) (sym both.0)
            (records_still (Err Truncated) octets (omega (arith, d.within, read.counted, less)) (omega (arith, read.counted)) (stop_is d.recorded ∙ short, ended, failed) (all_held d.recorded))

    pub records_failed : (buffer : List ℕ) → n < limits.reads → IsRead (seen now) (Err Failed) (seen after) buffer → RecordsTo seen view asked limits before after first last start clock (Err ReadFailed) (Counted g.counts.told)
    records_failed buffer less read =
        records_still (Err ReadFailed)
        (Consumes-kept (seen before).text (seen now).text (seen after).text (octets_read d.reads) d.octets read.moved) (omega (arith, d.within, read.counted, less)) (omega (arith, read.counted))
        (open_yet d.recorded, read.failures ∙ ap one_more d.none_failed) (all_held d.recorded)

  pub records_limit : {n : ℕ} {before now : S} {start clock : C} {g : Gathering} {left : List ℕ} (d : Reading seen asked limits.templates n before now start clock (view first) (view last) g left) → n ≡ limits.reads
      → RecordsTo seen view asked limits before now first last start clock (Err TooManyReads) (Counted g.counts.told)
  records_limit {n} {before} {now} d all =
      records_still d now (Err TooManyReads) d.octets (omega (arith, d.within, all)) (omega arith)
      (open_yet d.recorded, subst (λ (k : ℕ). ((seen now).reads ≡ (seen before).reads + k) ⊎ ((seen now).reads ≡ 2 ^ 64 - 1)) all d.counted, d.none_failed, d.not_ended) (all_held d.recorded)

-- no memory for a buffer
pub records_nowhere : {S F C : Type 0} (seen : S → SourceView) (view : F → FilesView) (asked : C → ClockView) (limits : SessionLimits) (source : S) (files : F) (clock : C) (g : Gathering) → IsFresh limits.templates g → IsEmpty (view files).contents
    → RecordsTo seen view asked limits source source files files clock clock (Err (OfMessage OutOfMemory)) (Counted g.counts.told)
unfolding reading_first
records_nowhere seen view asked limits source files clock g new fresh =
    let d = reading_first seen asked limits.templates source clock (view files) g [] refl new fresh in
    records_still seen view asked limits files files d source (Err (OfMessage OutOfMemory)) d.octets (omega arith) (omega arith) tt (earlier_held d.recorded refl)

-- ---- other words for what is told

module _ {told tells : List Message → List Message → Type 0} (goes : (before here : List Message) → told before here → tells before here) where
  some_told : (p : Progress) (after : FilesView) → HoldsSome told p after → HoldsSome tells p after
  some_told p after h =
      record { holds = h.holds; finished = h.finished; not_failed = h.not_failed; tells = goes (all_given h.holds.finished) h.holds.last.given h.tells }

  all_told : (p : Progress) (after : FilesView) → HoldsAll told p after → HoldsAll tells p after
  unfolding some_told
  all_told p after h = record { some = some_told p after h.some; all = h.all }

  earlier_told : (p : Progress) (after : FilesView) → HoldsEarlier told p after → HoldsEarlier tells p after
  unfolding some_told
  earlier_told p after h = record { some = some_told p after h.some; at_least = h.at_least }

  cut_told : (p : Progress) (after : FilesView) → HoldsCut told p after → HoldsCut tells p after
  cut_told p after h = record {
    cut_off = h.cut_off;
    holds = h.holds;
    all = h.all;
    next = h.next;
    finished = h.finished;
    failed = h.failed;
    tells = elim h.tells [
      | inl these ↦ inl (goes (all_given h.holds.finished) h.holds.last.given these)
      | inr t ↦ inr (record { earlier = t.earlier; part = t.part; are = t.are; none = t.none; tells = goes (all_given t.earlier) t.part.given t.tells })
    ];
  }

  by_told : (answer : Result (Unit {0}) RecordFault) (p : Progress) (after : FilesView) → HoldsBy told answer p after → HoldsBy tells answer p after
  by_told (Ok x) p after h = all_told p after h
  by_told (Err NotWritten) p after h = cut_told p after h
  by_told (Err (OfMessage OutOfMemory)) p after h = earlier_told p after h
  by_told (Err (OfMessage e)) p after h = all_told p after h
  by_told (Err Truncated) p after h = all_told p after h
  by_told (Err ReadFailed) p after h = all_told p after h
  by_told (Err TooManyReads) p after h = all_told p after h

  pub records_told : {S F C : Type 0} (seen : S → SourceView) (view : F → FilesView) (asked : C → ClockView) (limits : SessionLimits) (before after : S) (first last : F) (start clock : C) (answer : Result (Unit {0}) RecordFault)
      → RecordsTo seen view asked limits before after first last start clock answer told → RecordsTo seen view asked limits before after first last start clock answer tells
  records_told seen view asked limits before after first last start clock answer r = record {
    reads = r.reads;
    are_reads = r.are_reads;
    given = r.given;
    last_answer = r.last_answer;
    one_read = r.one_read;
    holds = by_told answer (progress_after limits.templates (view first) r.reads) (view last) r.holds;
  }
