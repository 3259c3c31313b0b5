use Rattle.std.proofs.Common.{[], None, refl, sym, ap, subst, map}
use Rattle.ipfix_session.specs.Sources.{SourceView}
use Rattle.recording_files.specs.Files.{Contents, FilesView, IsEmpty}
use Rattle.recording_files_tests.proofs.calling.record_in_memory.Goals as goal

pub returns : goal.returns
returns c = λ is.
    let files = c.record-session.new.files in
    let start : Contents = record { finished = []; reports = []; unfinished = [] } in
    let now : Contents = record { finished = map (λ v. v.items) files.finished.items; reports = files.reports.items; unfinished = files.unfinished.items } in
    let fresh = subst (λ (v : FilesView). IsEmpty v.contents) (sym c.new-files.ensures) refl in
    c.flow_records_are_those_of_the_text.ensures.all (record {
      limit = None;
      files = _;
      text = c.args.text.items;
      give = c.recorded_to_the_end.ensures.all (record {
        text = c.args.text.items;
        first = _;
        last = _;
        now = now;
        records = record {
          limits = _;
          before = _;
          after = _;
          start = _;
          end = _;
          session = c.record-session.result;
          records = c.record-session.ensures fresh;
          no_fault = is;
          text_is = ap (λ (v : SourceView). v.text) c.new-source.ensures;
        };
        are_seen = record { start = start; none = refl; seen = record { at_first = ap (λ (v : FilesView). v.contents) c.new-files.ensures; at_last = refl } };
      });
    })
