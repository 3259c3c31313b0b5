-- The lines that tell of sessions.
use Rattle.std.specs.Prelude.{ℕ, List, [], ◌++◌, codes, decimal, ◌==◌, ◌&&◌, if◌then◌else◌, Option, Some, None}
use Rattle.std.specs.List.{flat_map, enumerate_from}
use Rattle.ipfix_session.specs.declared.report.DomainReport.{DomainReport}
use Rattle.ipfix_session.specs.declared.report.SessionReport.{SessionReport}
use Rattle.ipfix_session.specs.declared.fault.SessionFault.{SessionFault}
use Rattle.ipfix_session.specs.Faults.{number_of, name_of}
use Rattle.flow_table.specs.declared.tally.Tally.{Tally}
use Rattle.report_writing.specs.FaultLines.{fault_text}

-- what the sequence numbers of a domain say
unfoldable pub loss_line : ℕ → DomainReport → List ℕ
loss_line session d =
    codes "collectd: session " ++ (decimal session ++ (codes ": domain " ++ (decimal d.domain ++ (codes ": lost " ++ (decimal d.lost ++ (codes " backward " ++ (decimal d.backward ++ codes "\n")))))))

-- a domain has a line if records of it were lost or its sequence number went backward
abbrev pub domain_lines : ℕ → DomainReport → List ℕ
domain_lines session d = if (d.lost == 0) && (d.backward == 0) then [] else loss_line session d

-- a fault of a session, by its number and its name
abbrev pub fault_line : ℕ → ℕ → List ℕ → List ℕ
fault_line session number name = codes "collectd: session " ++ (decimal session ++ fault_text number name)

abbrev pub fault_lines : ℕ → Option SessionFault → List ℕ
fault_lines session None = []
fault_lines session (Some fault) = fault_line session (number_of fault) (name_of fault)

-- the domains of a session in order, and then its fault
abbrev pub session_lines : ℕ → SessionReport → List ℕ
session_lines session r = flat_map (domain_lines session) r.domains.items ++ fault_lines session r.fault

-- the sessions in order, counted from 1
abbrev pub report_lines : List SessionReport → List ℕ
report_lines reports = flat_map (λ x. session_lines x.0 x.1) (enumerate_from 1 reports)

-- how many records of each class there were
unfoldable pub first_counts : Tally → List ℕ
first_counts t = codes "collectd: records: used " ++ (decimal t.used ++ (codes " options " ++ (decimal t.options ++ (codes " untimed " ++ decimal t.untimed))))

unfoldable pub last_counts : Tally → List ℕ
last_counts t = codes " backward " ++ (decimal t.backward ++ (codes " unkeyed " ++ (decimal t.unkeyed ++ (codes " too_long " ++ decimal t.too_long))))

-- the end of the line: where there is a filter, how many records it left out
unfoldable pub end_of_counts : Option ℕ → List ℕ
end_of_counts None = codes "\n"
end_of_counts (Some filtered) = codes " filtered " ++ (decimal filtered ++ codes "\n")

abbrev pub tally_line_with : Option ℕ → Tally → List ℕ
tally_line_with filtered t = first_counts t ++ (last_counts t ++ end_of_counts filtered)

abbrev pub tally_line : Tally → List ℕ
tally_line t = tally_line_with None t
