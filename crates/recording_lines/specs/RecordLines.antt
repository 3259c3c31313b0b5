-- The lines that tell of recordings.
use Rattle.std.specs.Prelude.{ℕ, List, [], ◌++◌, codes, decimal, ◌==◌, ◌&&◌, if◌then◌else◌}
use Rattle.std.specs.List.{flat_map}
use Rattle.std.specs.Net.Text.{socket_text}
use Rattle.std.specs.declared.net.socket_addr.SocketAddr.{SocketAddr}
use Rattle.ipfix_session.specs.declared.report.DomainReport.{DomainReport}
use Rattle.recording_files.specs.Notices.{FileNotice, Finished, LookedAfter, NotFinished}
use Rattle.recording_files.specs.declared.file_report.FileReport.{FileReport}
use Rattle.recording_files.specs.declared.finished_files.FileEnd.{FileEnd}
use Rattle.recording_files.specs.declared.finished_files.FileEnd.TheVariants.{Whole, CutOff, Truncated}
use Rattle.recording_files.specs.declared.finished_files.Recovered.{Recovered}
use Rattle.recording_files.specs.declared.finished_files.Recovered.TheVariants.{Placed, Removed, Stayed}

-- ---- what a file has

unfoldable pub counts_text : FileReport → List ℕ
counts_text r = codes ": messages " ++ (decimal r.messages ++ (codes ", records " ++ decimal r.records))

unfoldable pub losses_text : FileReport → List ℕ
losses_text r = codes ", lost " ++ (decimal r.lost ++ (codes ", backward " ++ decimal r.backward))

unfoldable pub uncounted_text : FileReport → List ℕ
uncounted_text r = codes ", unknown_sets " ++ (decimal r.unknown_sets ++ (codes ", unaccounted " ++ decimal r.unaccounted))

-- what had no template, if there was any
abbrev pub uncounted_end : FileReport → List ℕ
uncounted_end r = if (r.unknown_sets == 0) && (r.unaccounted == 0) then [] else uncounted_text r

abbrev pub report_text : FileReport → List ℕ
report_text r = counts_text r ++ (losses_text r ++ uncounted_end r)

-- ---- a file that is finished

unfoldable pub line_start : List ℕ → List ℕ
line_start name = codes "collectd: " ++ name

unfoldable pub ignored_text : FileReport → List ℕ
ignored_text r = codes ", ignored_withdrawals " ++ decimal r.ignored_withdrawals

-- the withdrawals that were ignored, if there were any
abbrev pub ignored_end : FileReport → List ℕ
ignored_end r = if r.ignored_withdrawals == 0 then [] else ignored_text r

-- what the exporter sent in it
abbrev pub finished_line : List ℕ → FileReport → List ℕ
finished_line path r = line_start path ++ (report_text r ++ (ignored_end r ++ codes "\n"))

-- one that could not be finished
unfoldable pub not_finished_line : List ℕ → List ℕ
not_finished_line path = codes "collectd: not finished: " ++ (path ++ codes "\n")

-- ---- a session that has ended, with its peer in place of a number

unfoldable pub peer_loss_line : SocketAddr → DomainReport → List ℕ
peer_loss_line peer d =
    codes "collectd: session " ++ (socket_text peer ++ (codes ": domain " ++ (decimal d.domain ++ (codes ": lost " ++ (decimal d.lost ++ (codes " backward " ++ (decimal d.backward ++ codes "\n")))))))

-- a domain has a line if records of it were lost or its sequence number went backward
abbrev pub peer_domain_lines : SocketAddr → DomainReport → List ℕ
peer_domain_lines peer d = if (d.lost == 0) && (d.backward == 0) then [] else peer_loss_line peer d

abbrev pub peer_loss_lines : SocketAddr → List DomainReport → List ℕ
peer_loss_lines peer ds = flat_map (peer_domain_lines peer) ds

unfoldable pub peer_fault_line : SocketAddr → ℕ → List ℕ → List ℕ
peer_fault_line peer number name = codes "collectd: session " ++ (socket_text peer ++ (codes ": fault " ++ (decimal number ++ (codes " " ++ (name ++ codes "\n")))))

-- a fault, and why the system made it one
unfoldable pub peer_reason_line : SocketAddr → ℕ → List ℕ → List ℕ → List ℕ
peer_reason_line peer number name words =
    codes "collectd: session " ++ (socket_text peer ++ (codes ": fault " ++ (decimal number ++ (codes " " ++ (name ++ (codes ": " ++ (words ++ codes "\n")))))))

-- ---- peers that have no session

unfoldable pub refused_line : ℕ → SocketAddr → List ℕ
refused_line count last = codes "collectd: refused " ++ (decimal count ++ (codes " connections, last " ++ (socket_text last ++ codes "\n")))

unfoldable pub not_accepted_line : ℕ → List ℕ
not_accepted_line count = codes "collectd: record: accept failed " ++ (decimal count ++ codes " times\n")

-- ---- peers that send datagrams

-- datagrams of a peer that were refused, each alone, and the fault of the last
unfoldable pub refused_datagrams_line : SocketAddr → ℕ → ℕ → List ℕ → List ℕ
refused_datagrams_line peer count number name =
    codes "collectd: session " ++ (socket_text peer ++ (codes ": refused " ++ (decimal count ++ (codes " datagrams, last fault " ++ (decimal number ++ (codes " " ++ (name ++ codes "\n")))))))

-- a peer that was ended, and why
unfoldable pub peer_ended_line : SocketAddr → List ℕ → List ℕ
peer_ended_line peer why = codes "collectd: session " ++ (socket_text peer ++ (codes ": ended: " ++ (why ++ codes "\n")))

-- how far the sequence number of a domain advanced, and the data records that came
unfoldable pub advance_line : SocketAddr → ℕ → ℕ → ℕ → List ℕ
advance_line peer domain advance came =
    codes "collectd: session " ++ (socket_text peer ++ (codes ": domain " ++ (decimal domain ++ (codes ": sequence numbers advanced by " ++ (decimal advance ++ (codes ", records " ++ (decimal came ++ codes "\n")))))))

-- how many datagrams of a domain came twice, and how many were written before one that came earlier
unfoldable pub order_line : SocketAddr → ℕ → ℕ → ℕ → List ℕ
order_line peer domain doubled reordered =
    codes "collectd: session " ++ (socket_text peer ++ (codes ": domain " ++ (decimal domain ++ (codes ": doubled " ++ (decimal doubled ++ (codes ", reordered " ++ (decimal reordered ++ codes "\n")))))))

-- a domain went on after an earlier run, and so many templates are known again
unfoldable pub resumed_line : SocketAddr → ℕ → ℕ → List ℕ
resumed_line peer domain templates =
    codes "collectd: session " ++ (socket_text peer ++ (codes ": domain " ++ (decimal domain ++ (codes ": resumed: templates " ++ (decimal templates ++ codes "\n")))))

-- datagrams of peers that have no session
unfoldable pub turned_away_line : ℕ → SocketAddr → List ℕ
turned_away_line count last = codes "collectd: refused " ++ (decimal count ++ (codes " datagrams, last " ++ (socket_text last ++ codes "\n")))

unfoldable pub not_received_line : ℕ → List ℕ
not_received_line count = codes "collectd: record: receive failed " ++ (decimal count ++ codes " times\n")

-- the system had no room for so many
unfoldable pub system_drops_line : SocketAddr → ℕ → List ℕ
system_drops_line address count = codes "collectd: udp: " ++ (socket_text address ++ (codes ": dropped " ++ (decimal count ++ codes " by the system\n")))

-- ---- files that an earlier run left

unfoldable pub recovered_start : List ℕ → List ℕ
recovered_start path = codes "collectd: recovered: " ++ path

unfoldable pub cut_off_text : ℕ → List ℕ
cut_off_text octets = codes ", cut off " ++ (decimal octets ++ codes " octets")

unfoldable pub truncated_text : ℕ → List ℕ
truncated_text octets = codes ", ends " ++ (decimal octets ++ codes " octets into a message")

-- how it ends, if that is not with a whole message as it was left
abbrev pub end_text : FileEnd → List ℕ
end_text Whole = []
end_text (CutOff octets) = cut_off_text octets
end_text (Truncated octets) = truncated_text octets

-- what it has, read by itself as a session
abbrev pub recovered_line : List ℕ → FileReport → FileEnd → List ℕ
recovered_line path r end = recovered_start path ++ (report_text r ++ (end_text end ++ codes "\n"))

unfoldable pub stayed_line : List ℕ → List ℕ
stayed_line path = codes "collectd: not recovered: " ++ (path ++ codes "\n")

unfoldable pub removed_line : List ℕ → ℕ → List ℕ
removed_line path octets = codes "collectd: not recovered: " ++ (path ++ (codes ": removed " ++ (decimal octets ++ codes " octets, no whole message\n")))

abbrev pub outcome_line : List ℕ → Recovered → List ℕ
outcome_line path (Placed r end) = recovered_line path r end
outcome_line path (Removed octets) = removed_line path octets
outcome_line path Stayed = stayed_line path

-- ---- what is told of files

abbrev pub notice_line : FileNotice → List ℕ
notice_line (Finished path report) = finished_line path report
notice_line (NotFinished path) = not_finished_line path
notice_line (LookedAfter path outcome) = outcome_line path outcome

-- ---- threads that could not be started

unfoldable pub threads_line : ℕ → ℕ → List ℕ
threads_line started threads = codes "collectd: record: threads " ++ (decimal started ++ (codes " of " ++ (decimal threads ++ codes "\n")))
