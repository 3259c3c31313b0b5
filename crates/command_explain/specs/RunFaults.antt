-- The faults that end a run: which of them a word names, and its explanation.
use Rattle.std.specs.Prelude.{◌≢◌, ℕ, List, [], ◌∷◌, ◌++◌, Bool, Option, codes, decimal, find}
use Rattle.std.specs.List.{flat_map}
use Rattle.std.specs.Str.{str_eq_ignore_ascii_case}
use Rattle.ipfix_message.specs.declared.fault.MessageFault.TheVariants.{OutOfMemory}
use Rattle.flow_plan.specs.Faults as of_texts
use Rattle.flow_plan.specs.declared.fault.PlanTextFault.TheVariants as texts
use Rattle.flow_table.specs.PlanFaults as of_plans
use Rattle.flow_table.specs.declared.plan_fault.PlanFault.TheVariants as plans
use Rattle.element_registry.specs.Faults as of_elements
use Rattle.element_registry.specs.declared.fault.ElementsFault.TheVariants as elements
use Rattle.flow_collect.specs.Faults as of_collects
use Rattle.flow_collect.specs.declared.fault.CollectFault.TheVariants as collects
use Rattle.flow_merge.specs.MergeFaults as of_merges
use Rattle.flow_merge.specs.declared.merge_fault.MergeFault.TheVariants as merges
use Rattle.flow_merge.specs.RowFaults as of_rows
use Rattle.flow_merge.specs.declared.row_fault.RowFault.TheVariants as rows
use Rattle.flow_export.specs.Faults as of_exports
use Rattle.flow_export.specs.declared.fault.ExportFault.TheVariants as exports
use Rattle.ipfix_dump.specs.Faults as of_dumps
use Rattle.ipfix_dump.specs.declared.fault.DumpFault.TheVariants as dumps
use Rattle.receipt_merging.specs.PartFaults as of_parts
use Rattle.receipt_merging.specs.declared.part_fault.PartFault.TheVariants as parts
use Rattle.command_collect.specs.Faults as of_receipts
use Rattle.command_collect.specs.declared.receipts.fault.ReceiptFault.TheVariants as receipts
use Rattle.element_registry.specs.declared.fault.Heading.TheVariants as headings
use Rattle.ipfix_session.specs.declared.fault.SessionFault.TheVariants as sessions
use Rattle.command_explain.specs.declared.run_faults.RunFault.{RunFault}
use Rattle.command_explain.specs.declared.run_faults.RunFault.TheVariants.{PlanText, Plan, Filter, Map, Sampling, Elements, Collect, Merge, Row, Part, Export, Dump, Receipt, NotAReceipt}
use Rattle.command_explain.specs.declared.run_faults.TheConstants.{RUN_FAULTS}
use Rattle.command_explain.specs.Guide.{texts_of_message}

-- the name that its enum gives it
abbrev pub name_of : RunFault → List ℕ
name_of (PlanText fault) = of_texts.name_of fault
name_of (Plan fault) = of_plans.name_of fault
name_of Filter = codes "Filter"
name_of Map = codes "Map"
name_of Sampling = codes "Sampling"
name_of (Elements fault) = of_elements.name_of fault
name_of (Collect fault) = of_collects.name_of fault
name_of (Merge fault) = of_merges.name_of fault
name_of (Row fault) = of_rows.name_of fault
name_of (Part fault) = of_parts.name_of fault
name_of (Export fault) = of_exports.name_of fault
name_of (Dump fault) = of_dumps.name_of fault
name_of (Receipt fault) = of_receipts.name_of fault
name_of NotAReceipt = codes "NotAReceipt"

-- how the lines of a family begin that have a fault of this number
unfoldable pub place : List ℕ → ℕ → List ℕ
place family number = family ++ (codes ": fault " ++ decimal number)

-- the same of each fault; one that stands within another has the number and the name of that first
abbrev pub place_of : RunFault → List ℕ
place_of (PlanText fault) = place (codes "plan") (of_texts.number_of fault)
place_of (Plan fault) = place (codes "plan") (of_texts.number_of (texts.Plan fault)) ++ (codes " " ++ place (of_texts.name_of (texts.Plan fault)) (of_plans.number_of fault))
place_of Filter = place (codes "plan") 8
place_of Map = place (codes "plan") 9
place_of Sampling = place (codes "plan") 10
place_of (Elements fault) = place (codes "elements") (of_elements.number_of fault)
place_of (Collect fault) = place (codes "collect") (of_collects.number_of fault)
place_of (Merge fault) = place (codes "merge") (of_merges.number_of fault)
place_of (Row fault) = place (codes "merge") (of_merges.number_of (merges.Row fault)) ++ (codes " " ++ place (of_merges.name_of (merges.Row fault)) (of_rows.number_of fault))
place_of (Part fault) = place (codes "merge") (of_parts.number_of fault)
place_of (Export fault) = place (codes "export") (of_exports.number_of fault)
place_of (Dump fault) = place (codes "dump") (of_dumps.number_of fault) ++ (codes "; " ++ place (codes "explain") (of_dumps.number_of fault))
place_of (Receipt fault) = place (codes "receipt") (of_receipts.number_of fault)
place_of NotAReceipt = place (codes "verify") 2

-- the faults of other families that have its name, and are explained with it
abbrev pub namesakes : RunFault → List RunFault
namesakes (Plan plans.Prefix) = Row rows.Prefix ∷ []
namesakes (Collect collects.SumTooLarge) = Merge merges.SumTooLarge ∷ []
namesakes (Part parts.InputTwice) = Receipt (receipts.InputTwice 0 1) ∷ []
namesakes (Export exports.WriteFailed) = Dump dumps.WriteFailed ∷ Receipt receipts.WriteFailed ∷ []
namesakes fault = []

abbrev pub further_place : RunFault → List ℕ
further_place fault = codes "; " ++ place_of fault

-- the fault of the list with which it is explained
abbrev pub listed_of : RunFault → RunFault
listed_of (PlanText (texts.Plan _)) = PlanText (texts.Plan plans.Length)
listed_of (Elements (elements.Column _)) = Elements (elements.Column headings.Number)
listed_of (Merge (merges.Session _)) = Merge (merges.Session sessions.Truncated)
listed_of (Merge (merges.Row _)) = Merge (merges.Row rows.Template)
listed_of (Merge merges.SumTooLarge) = Collect collects.SumTooLarge
listed_of (Row rows.Prefix) = Plan plans.Prefix
listed_of (Merge (merges.Border _)) = Merge (merges.Border 1)
listed_of (Row rows.Border) = Merge (merges.Border 1)
listed_of (Dump dumps.WriteFailed) = Export exports.WriteFailed
listed_of (Receipt receipts.WriteFailed) = Export exports.WriteFailed
listed_of (Receipt (receipts.InputTwice _ _)) = Part parts.InputTwice
listed_of fault = fault

-- all are but that memory was refused, which is explained as a session's fault
abbrev pub IsListed : RunFault → Type 0
IsListed fault = name_of fault ≢ codes "OutOfMemory"

-- what was found, and what an operator does about it
pub record Words : Type 0 where
  pub found : List ℕ
  pub advice : List ℕ

abbrev pub words : List ℕ → List ℕ → Words
words found advice = record { found = found; advice = advice }

-- those of a fault of the list; that memory was refused has those of sessions
abbrev pub words_of : RunFault → Words
words_of (PlanText texts.NotToml) = words (codes "the file is no TOML document") (codes "The next line on standard error says in which line of the file, counted from 1.")
words_of (PlanText texts.UnknownField) = words (codes "the file has a key that no plan has") (codes "The keys are interval_ms, method, max_spread, keys, counters, times and totals. Remove any\nother.")
words_of (PlanText texts.Missing) = words (codes "a key of the plan is missing") (codes "interval_ms, method, keys and counters are required; max_spread, times and totals are not.")
words_of (PlanText texts.WrongKind) = words (codes "the value of a key has another type, or is out of range") (codes "Numbers have no quotation marks, method, times and totals are texts, keys and counters are\narrays of texts.")
words_of (PlanText texts.UnknownElement) = words (codes "no element has this name") (codes "`collectd elements` lists the names. Their case matters, and only keys have prefixes.")
words_of (PlanText (texts.Plan _)) = words (codes "the values make no plan") (codes "The same line names a second fault. Look for that one.")
words_of (Plan plans.Length) = words (codes "the length of an interval is 0") (codes "Let interval_ms be 1 or more, as 60000 for a minute.")
words_of (Plan plans.Spread) = words (codes "max_spread is not 1 to 4096") (codes "Take a number of that range, or leave max_spread out.")
words_of (Plan plans.KeyCount) = words (codes "more than 8 keys") (codes "Leave some of them out.")
words_of (Plan plans.KeyKind) = words (codes "a key is no number and no address") (codes "`collectd elements` marks the elements that can be keys; with --elements also those of\nfiles. Times, octets and elements without a type can't. Leave it out.")
words_of (Plan plans.Prefix) = words (codes "a key with a prefix that it can't have, or an address with bits after its prefix") (codes "A prefix is 0 to 32 bits of an IPv4 address, or 0 to 128 of an IPv6 address. Merge tables that\nhave the same prefixes.")
words_of (Plan plans.CounterCount) = words (codes "no counter, or more than 4") (codes "Name 1 to 4 counters. Make a second table for more.")
words_of (Plan plans.CounterKind) = words (codes "an element that can't be a counter") (codes "Counters are octetDeltaCount, packetDeltaCount, deltaFlowCount, postOctetDeltaCount,\npostPacketDeltaCount, droppedOctetDeltaCount and droppedPacketDeltaCount; with --elements\nalso the delta counters of files. Totals are no counters: flows would be counted again\nand again. Where each record says all of a flow, totals = \"as-deltas\" lets octetTotalCount\n(e0.85) and packetTotalCount (e0.86) be counters.")
words_of (Plan plans.Repeated) = words (codes "an element twice among keys and counters") (codes "Leave one of them out. A key with a prefix also counts as sourceIPv4Prefix,\ndestinationIPv4Prefix, sourceIPv6Prefix or destinationIPv6Prefix.")
words_of Filter = words (codes "a condition of the plan is none") (codes "A [[where]] has an element, and in, not_in or both: 1 to 64 texts as \"80\", \"1024-65535\",\n\"192.0.2.1\", \"192.0.2.0/24\" or \"2001:db8::/32\". The next line says which one has none.")
words_of Map = words (codes "a map of the plan is none") (codes "A [[map]] has a name of letters, digits, _ and -, and a file. The next line says which one has\nnone, or that keys of maps have the numbers of elements of a file.")
words_of Sampling = words (codes "sampling is none of its words, or counters of the plan can't be scaled") (codes "Write \"ignore\", \"refuse\" or \"scale\". The next line says why counters can't be scaled.")
words_of (Elements elements.NotCsv) = words (codes "a row has more or fewer fields than the first line") (codes "The same line says in which line of the file the row begins.")
words_of (Elements (elements.Column _)) = words (codes "the first line lacks a column") (codes "The first line has ElementID, Name and Abstract Data Type, as that of IANA's file.")
words_of (Elements elements.Number) = words (codes "the number is not decimal, or above 32767") (codes "Write the element's number without its enterprise bit.")
words_of (Elements elements.Enterprise) = words (codes "the enterprise is not decimal, or above 4294967295") (codes "Write the enterprise's number, or nothing for an element of IANA.")
words_of (Elements elements.Name) = words (codes "the name is not a letter and then letters, digits, _ and -, at most 64 in all") (codes "Give the element another name; start, end and flows are taken, too.")
words_of (Elements elements.NumberTwice) = words (codes "an earlier row has the element") (codes "Leave one of the two rows out, also if they are in two files.")
words_of (Elements elements.NameTwice) = words (codes "another element has the name") (codes "Give one of the two another name; those that are built in are taken, too.")
words_of (Elements elements.TooMany) = words (codes "there are more elements than 16384") (codes "Leave out those that no exporter sends.")
words_of (Collect collects.Workers) = words (codes "--workers is not 1 to 16") (codes "Take no more than there are sessions or processors.")
words_of (Collect collects.Sessions) = words (codes "more than 64 sessions") (codes "Give files to a run with --direct, or up to 64 to a run, and merge the tables of several runs.")
words_of (Collect collects.Link) = words (codes "--ring is not 1 to 65536") (codes "Leave it out, or take 1024.")
words_of (Collect collects.NoThread) = words (codes "a thread could not be started") (codes "Allow the process more threads or memory, or take fewer sessions and workers.")
words_of (Collect collects.SumTooLarge) = words (codes "a sum or a count would be 2^64 or more") (codes "`collectd files -v` names such a row, and a session with a counter above 2^63. Leave that\nsession out (docs/RECIPES.md, A sum that is too large), or take shorter intervals.")
words_of (Collect collects.Sampled) = words (codes "a flow was sampled, and the plan refuses that") (codes "Let the exporter count all packets; or write sampling = \"scale\" or \"ignore\" into the plan.")
words_of (Merge (merges.Session _)) = words (codes "a file is damaged or cut") (codes "The same line names the fault of its session. Copy the file again, or make it again.")
words_of (Merge merges.NotAnExport) = words (codes "a file is no table of this program") (codes "Merge files that were written with --format ipfix.")
words_of (Merge merges.Lost) = words (codes "rows of a file are missing, or come twice") (codes "The file was damaged on its way. Copy it again, or make it again.")
words_of (Merge (merges.Row _)) = words (codes "a record of a file is no row under the plan") (codes "The same line names a second fault. Look for that one.")
words_of (Row rows.Template) = words (codes "a record has another template than the rows of tables") (codes "Merge files that were written with --format ipfix.")
words_of (Row rows.Fields) = words (codes "a row has other keys or counters than the plan") (codes "Give all runs, and the merge, the same plan.")
words_of (Row rows.Interval) = words (codes "a row has another interval than the plan") (codes "Give all runs, and the merge, the same plan.")
words_of (Row rows.Flows) = words (codes "a row has no flow") (codes "Merge files that were written with --format ipfix, and not changed since.")
words_of (Part parts.Receipt) = words (codes "a receipt is missing, damaged, or none") (codes "A receipt is FILE.receipt, or the one of --receipt-of. Copy it again, or make the table again\nwith --receipt.")
words_of (Part parts.NotItsTable) = words (codes "a table is not the one of its receipt") (codes "One of the two was changed or cut since, or is of another run. Copy both again, or make them\nagain.")
words_of (Part parts.OtherPlan) = words (codes "a receipt has another plan than the merge, or other files of elements or maps") (codes "Give the merge the plan and the files that the table was made with; or make it again with\nthose of the merge.")
words_of (Part parts.InputTwice) = words (codes "an input that has data records comes twice, and would be counted twice") (codes "The same line says which ones. Leave one of the two out.")
words_of (Part parts.Incomplete) = words (codes "a table is not complete: something was lost or passed over when it was made") (codes "Its receipt says what. Make it again of whole inputs, or merge it with --incomplete.")
words_of (Merge (merges.Border _)) = words (codes "a row's interval crosses the border of a day or month") (codes "Take intervals of which days are made in the zone, as minutes, or another --zone.")
words_of (Export exports.WriteFailed) = words (codes "standard output, or a receipt, could not be written") (codes "Look for a full disk, or for a pipe whose reader has ended. What was written is not whole.\nIf it is a receipt, its table is whole, and has none.")
words_of (Export exports.TooManyRows) = words (codes "2^32 rows or more, too many for IPFIX") (codes "Write the table as CSV or JSON, or take longer intervals or fewer keys.")
words_of NotAReceipt = words (codes "the file is no receipt, or an octet of it was changed") (codes "Give verify the FILE of --receipt, as it was written: another program's JSON is another text.")
words_of fault = words (texts_of_message OutOfMemory).found (texts_of_message OutOfMemory).advice

-- those of each fault
abbrev pub guide_of : RunFault → Words
guide_of fault = words_of (listed_of fault)

-- a word is the fault's name, in any letter case
abbrev pub names_run_fault : List ℕ → RunFault → Bool
names_run_fault word fault = str_eq_ignore_ascii_case word (name_of fault)

-- the fault that a word names
unfoldable pub run_fault_of : List ℕ → Option RunFault
run_fault_of word = find (names_run_fault word) RUN_FAULTS

-- how the lines begin that have the fault, and those that have its namesakes
abbrev pub places_of : RunFault → List ℕ
places_of fault = place_of fault ++ flat_map further_place (namesakes fault)

-- a fault's name, the lines that have it, and what was found
unfoldable pub run_fault_line : RunFault → List ℕ
run_fault_line fault = name_of fault ++ (codes " (" ++ (places_of fault ++ (codes "): " ++ ((guide_of fault).found ++ codes "\n"))))

-- then what to do about it
unfoldable pub advice_lines : RunFault → List ℕ
advice_lines fault = (guide_of fault).advice ++ codes "\n"

abbrev pub run_fault_text : RunFault → List ℕ
run_fault_text fault = codes "fault " ++ (run_fault_line fault ++ advice_lines fault)
