-- What is noted of records, one after another.
use Rattle.std.specs.Prelude.{Bool, true, false, nat_lt, if◌then◌else◌, List, [], ◌∷◌}
use Rattle.std.specs.Option.{option_or}
use Rattle.ipfix_message.specs.declared.record.DataRecord.{DataRecord}
use Rattle.flow_table.specs.declared.choices.Times.{Times}
use Rattle.flow_table.specs.declared.choices.Times.TheVariants.{Basic, All}
use Rattle.flow_times.specs.Elements.{other_time, start_element}
use Rattle.flow_times.specs.Starts.{counted}
use Rattle.flow_times.specs.Timed.{is_timed}
use Rattle.flow_times.specs.declared.notes.TimeNotes.{TimeNotes}
use Rattle.flow_times.specs.declared.notes.TimesReport.{TimesReport}
use Rattle.flow_times.specs.declared.notes.TimeNoting.{TimeNoting}
use Rattle.flow_times.specs.declared.notes.TimeNoting.TheVariants.{Nothing, Untimed, Starts}
use Rattle.flow_times.specs.declared.notes.TheConstants.{NO_TIMES}

-- under a plan that reads milliseconds and seconds alone, and under one that reads times of every kind, if more is to be told
abbrev pub noted_under : Times → Bool → TimeNoting
noted_under Basic verbose = Untimed
noted_under All true = Starts
noted_under All false = Nothing

-- before the first record
abbrev pub first : TimeNoting → TimeNotes
first noting = record { noting = noting; report = NO_TIMES }

-- after one untimed flow more; after a timed one nothing is noted any more
abbrev pub next_untimed : TimeNotes → DataRecord → TimeNotes
next_untimed n r =
    if is_timed r then first Nothing
    else record { noting = n.noting; report = record { untimed = option_or n.report.untimed (other_time r.fields); starts = n.report.starts } }

-- after one flow more
abbrev pub next_flow : TimeNoting → TimeNotes → DataRecord → TimeNotes
next_flow Nothing n r = n
next_flow Untimed n r = next_untimed n r
next_flow Starts n r = record { noting = n.noting; report = record { untimed = n.report.untimed; starts = counted (start_element r.fields) n.report.starts } }

-- after one record more; one with scope fields is no flow
abbrev pub next : TimeNotes → DataRecord → TimeNotes
next n r = if nat_lt 0 r.scope then n else next_flow n.noting n r

-- after some records, the first of them first
abbrev pub after : TimeNotes → List DataRecord → TimeNotes
after n [] = n
after n (r ∷ rs) = after (next n r) rs

-- what is noted of a session's records
abbrev pub noted_of : TimeNoting → List DataRecord → TimesReport
noted_of noting rs = (after (first noting) rs).report
