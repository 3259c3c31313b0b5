-- What a sink that notes the times of records, and great counters, takes, record after record.
use Rattle.std.proofs.Common.{◌≡◌, Bool, true, false, List, [], ◌∷◌, Option, refl, ap, sym, ◌∙◌}
use Rattle.std.specs.Prelude.{◌||◌}
use Rattle.std.specs.Borrow.{Bor}
use Rattle.std.specs.List.{FoldsTo, list_any}
use Rattle.ipfix_wire.specs.declared.specifier.ElementId.{ElementId}
use Rattle.ipfix_message.specs.declared.record.DataRecord.{DataRecord}
use Rattle.ipfix_session.specs.Sinks.{SinkView}
use Rattle.flow_times.specs.Noted.{after, first}
use Rattle.flow_times.specs.Untimed.{times_of}
use Rattle.flow_times.specs.declared.notes.TimeNotes.{TimeNotes}
use Rattle.flow_times.specs.declared.notes.TimeNoting.{TimeNoting}
use Rattle.flow_times.specs.declared.notes.TimesReport.{TimesReport}
use Rattle.flow_times.proofs.Untimed.{noted_told}
use Rattle.flow_collect.specs.Great.{great_first, has_great}
use Rattle.flow_collect.specs.Timed.{TakesTimed}
use Rattle.flow_collect.specs.declared.great_note.GreatNote.{GreatNote}
use Rattle.flow_collect.specs.declared.note_sink.NoteSink.{NoteSink}

or_none : (b : Bool) → (b || false) ≡ b
or_none true = refl
or_none false = refl

or_three : (a b c : Bool) → ((a || b) || c) ≡ (a || (b || c))
or_three true b c = refl
or_three false b c = refl

module _ {K : Type 0} (view : SinkView K) where
  -- the other sink takes all of them
  pub timed_chain : (rs : List DataRecord) (before last : NoteSink K) → FoldsTo (TakesTimed view) before rs last → FoldsTo view.took before.sink rs last.sink
  timed_chain [] before last h = ap (λ (s : NoteSink K). s.sink) h
  timed_chain (r ∷ rs) before last h = (h.0.sink, h.1.taken, timed_chain rs h.0 last h.2)

  times_noted : (rs : List DataRecord) (before last : NoteSink K) → FoldsTo (TakesTimed view) before rs last → last.notes ≡ after before.notes rs
  times_noted [] before last h = sym (ap (λ (s : NoteSink K). s.notes) h)
  times_noted (r ∷ rs) before last h = times_noted rs h.0 last h.2 ∙ ap (λ (n : TimeNotes). after n rs) h.1.noted

  -- and what it noted is what is told of all of them
  pub times_chain : (noting : TimeNoting) (rs : List DataRecord) (before last : NoteSink K) (told : TimesReport) → before.notes ≡ first noting → FoldsTo (TakesTimed view) before rs last → told ≡ last.notes.report → told ≡ times_of noting rs
  times_chain noting rs before last told is h report =
      report ∙ ap (λ (n : TimeNotes). n.report) (times_noted rs before last h ∙ ap (λ (n : TimeNotes). after n rs) is) ∙ noted_told noting rs

  -- whether one of them has a great counter
  great_noted : (rs : List DataRecord) (before last : NoteSink K) → FoldsTo (TakesTimed view) before rs last
      → (last.great.counters ≡ before.great.counters) × (last.great.is_great ≡ before.great.is_great || list_any (has_great before.great.counters) rs)
  great_noted [] before last h = (sym (ap (λ (s : NoteSink K). s.great.counters) h), sym (ap (λ (s : NoteSink K). s.great.is_great) h) ∙ sym (or_none before.great.is_great))
  great_noted (r ∷ rs) before last h =
      let more = great_noted rs h.0 last h.2 in
      let same : h.0.great.counters ≡ before.great.counters = ap (λ (n : GreatNote). n.counters) h.1.great in
      let next : h.0.great.is_great ≡ before.great.is_great || has_great before.great.counters r = ap (λ (n : GreatNote). n.is_great) h.1.great in (
        more.0 ∙ same,
        more.1 ∙ ap (λ (b : Bool). b || list_any (has_great h.0.great.counters) rs) next ∙ ap (λ (cs : Option (Bor (List ElementId))). (before.great.is_great || has_great before.great.counters r) || list_any (has_great cs) rs) same
            ∙ or_three before.great.is_great (has_great before.great.counters r) (list_any (has_great before.great.counters) rs),
      )

  pub great_chain : (counters : Option (Bor (List ElementId))) (rs : List DataRecord) (before last : NoteSink K) (told : Bool) → before.great ≡ great_first counters → FoldsTo (TakesTimed view) before rs last → told ≡ last.great.is_great → told ≡ list_any (has_great counters) rs
  great_chain counters rs before last told is h report =
      report ∙ (great_noted rs before last h).1 ∙ ap (λ (n : GreatNote). n.is_great || list_any (has_great n.counters) rs) is
