-- What a receipt says of the inputs of a run.
use Rattle.std.specs.Prelude.{ℕ, ◌||◌, Bool, List, [], ◌∷◌, Option, Some, None, codes, option_map, if◌then◌else◌}
use Rattle.std.specs.Net.Text.{socket_text}
use Rattle.std.specs.declared.net.ip_addr.IpAddr.{IpAddr}
use Rattle.ipfix_elements.specs.Texts.{cell_text}
use Rattle.ipfix_elements.specs.declared.cell.Cell.TheVariants as cells
use Rattle.ipfix_session.specs.Faults.{name_of}
use Rattle.ipfix_session.specs.declared.report.DomainBalance.{DomainBalance}
use Rattle.ipfix_session.specs.declared.report.DomainReport.{DomainReport}
use Rattle.ipfix_session.specs.declared.report.FullReport.{FullReport}
use Rattle.report_writing.specs.declared.origin.Origin.{Origin}
use Rattle.report_writing.specs.declared.origin.Origin.TheVariants.{File, Peer, Unknown}
use Rattle.flow_table.specs.declared.context.Context.{Context}
use Rattle.flow_collect.specs.declared.session_context.Exporter.{Exporter}
use Rattle.flow_collect.specs.declared.session_context.Exporter.TheVariants.{Ipv4, Ipv6}
use Rattle.table_receipts.specs.Values.{ExporterValue, not_asked, unknown, address, FileValue, InputValue}
use Rattle.table_receipts.specs.declared.receipt.DomainReceipt.{DomainReceipt}
use Rattle.command_collect.specs.Exporters.{exporter_of, first_origin, first_told, other_origins, others_told}
use Rattle.command_collect.specs.declared.job.CollectJob.{CollectJob}

-- a file by its name as it was given, a connection by its peer
abbrev pub name_of_input : Origin → List ℕ
name_of_input (File name size) = name.now
name_of_input (Peer peer) = socket_text peer
name_of_input Unknown = codes "-"

abbrev pub domain_of : DomainReport → DomainBalance → DomainReceipt
domain_of d b = record { domain = d.domain; lost = d.lost; backward = d.backward; unaccounted = b.unaccounted; unknown_sets = b.passed_over.unknown_sets }

-- a balance has the place of its domain's report
abbrev pub domains_of : List DomainReport → List DomainBalance → List DomainReceipt
domains_of [] bs = []
domains_of (d ∷ ds) [] = []
domains_of (d ∷ ds) (b ∷ bs) = domain_of d b ∷ domains_of ds bs

-- the octets that count of an input, and their digest
abbrev pub file_of : Origin → FullReport → List ℕ → FileValue
file_of origin full digest = record { name = name_of_input origin; octets = full.stopped_at.octet; digest = digest }

-- a plan names who exported, among its keys, in its conditions or in its maps
abbrev pub asks_exporter : Context → Bool
asks_exporter wanted = wanted.exporter || (wanted.exporter_ipv4_address || wanted.exporter_ipv6_address)

-- an address as tables have it
abbrev pub exporter_text : Exporter → List ℕ
exporter_text (Ipv4 octets) = cell_text (cells.Ipv4 octets)
exporter_text (Ipv6 octets) = cell_text (cells.Ipv6 octets)

abbrev pub address_of : Option Exporter → ExporterValue
address_of None = unknown
address_of (Some exporter) = address (exporter_text exporter)

-- which is told where the plan asks for it
abbrev pub exporter_said : Context → Option Exporter → ExporterValue
exporter_said wanted exporter = if asks_exporter wanted then address_of exporter else not_asked

-- and what its session gave
abbrev pub input_of : Origin → ExporterValue → FullReport → List ℕ → InputValue
input_of origin exporter full digest = record {
  file = file_of origin full digest;
  messages = full.report.messages;
  records = full.report.delivered;
  fault = option_map name_of full.report.fault;
  domains = domains_of full.report.domains.items full.balances.items;
  exporter = exporter;
}

-- that of the session at the first place, with the exporter that is known of it
abbrev pub input_at : Context → List (Option IpAddr) → List Origin → FullReport → List ℕ → InputValue
input_at wanted told origins full digest =
    input_of (first_origin origins) (exporter_said wanted (exporter_of (first_told told) (first_origin origins))) full digest

-- in the order of the sessions
abbrev pub inputs_in : Context → List (Option IpAddr) → List Origin → List FullReport → List (List ℕ) → List InputValue
inputs_in wanted told origins [] digests = []
inputs_in wanted told origins (full ∷ fulls) [] = []
inputs_in wanted told origins (full ∷ fulls) (digest ∷ digests) =
    input_at wanted told origins full digest ∷ inputs_in wanted (others_told told) (other_origins origins) fulls digests

abbrev pub inputs_of : CollectJob → List Origin → List FullReport → List (List ℕ) → List InputValue
inputs_of job origins fulls digests = inputs_in job.wanted job.exporters.now origins fulls digests
