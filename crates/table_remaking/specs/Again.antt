-- How the table of a receipt was made again, and compared.
use Rattle.std.specs.Prelude.{◌≡◌, ℕ, List, [], ◌++◌, None, option_copied}
use Rattle.std.specs.List.{AllZip}
use Rattle.std.specs.Option.{option_map}
use Rattle.flow_collect.specs.Contexts.{records_in_context, sources_of}
use Rattle.flow_collect.specs.InFull.{FullSerialAnswer, IsGivenInContext, fulls_in}
use Rattle.flow_collect.specs.Texts.{AreTexts}
use Rattle.flow_export.specs.declared.format.Format.{Format}
use Rattle.flow_export.specs.declared.format.Format.TheVariants.{Csv, Json, Ipfix}
use Rattle.flow_plan_fields.specs.FilteredPlans.{filter_of}
use Rattle.flow_plan_fields.specs.Wants.{refuses_sampled, wanted_context, wanted_options}
use Rattle.ipfix_session.specs.Given.{IsPrefix}
use Rattle.ipfix_session.specs.Sources.{SourceView}
use Rattle.output_tables.specs.TableTexts.{export_text}
use Rattle.output_tables.specs.declared.output.Output.{Output}
use Rattle.report_writing.specs.declared.origin.Origin.{Origin}
use Rattle.table_receipts.specs.Values.{ReceiptValue, TableValue, receipt_value}
use Rattle.table_receipts.specs.declared.receipt.TableFormat.{TableFormat}
use Rattle.table_receipts.specs.declared.receipt.TableFormat.TheVariants as formats
use Rattle.receipt_differences.specs.Differences.{IsTableOf, table_differs}
use Rattle.receipt_differences.specs.Inputs.{HaveSameInputs}
use Rattle.receipt_differences.specs.Remade.{remade_differs, text_differs}
use Rattle.command_collect.specs.Engines.{CollectsBy}
use Rattle.command_collect.specs.Exporters.{in_noting_context}
use Rattle.command_collect.specs.declared.engine.Engine.TheVariants.{Lots}
use Rattle.command_collect.specs.declared.job.CollectJob.{CollectJob}
use Rattle.command_collect.specs.Digests.{AreDigestsOf}
use Rattle.command_collect.specs.Inputs.{inputs_of}
use Rattle.command_collect.specs.Remade.{IsNotRemade, IsRemade}
use Rattle.command_collect.specs.declared.receipts.making.MadeWith.{MadeWith}
use Rattle.command_collect.specs.declared.receipts.remaking.Remade.{Remade}
use Rattle.command_collect.specs.declared.receipts.remaking.RemakeFault.{RemakeFault}
use Rattle.table_remaking.specs.declared.again.MadeBy.{MadeBy}
use Rattle.table_remaking.specs.declared.again.TableThere.{TableThere}

-- ---- what it is made by

abbrev pub format_of : TableFormat → Format
format_of formats.Csv = Csv
format_of formats.Json = Json
format_of formats.Ipfix = Ipfix

-- a run that has this plan, with its maps, these exporters, and the format and the export time of a receipt
pub record IsJobOf (by : MadeBy) (said : TableValue) (job : CollectJob) : Type 0 where
  pub names : job.elements.now ≡ by.loaded.elements
  pub plan : job.plan.now ≡ by.loaded.read.plan
  pub engine : job.engine ≡ Lots 1
  pub output : job.output ≡ record { format = format_of said.format; time = said.time }
  pub wanted : job.wanted ≡ wanted_context by.loaded.read by.loaded.maps
  pub options : job.options ≡ wanted_options by.loaded.read
  pub maps : option_copied job.maps ≡ by.maps
  pub estimates : option_map (λ e. e.now) job.estimates ≡ by.loaded.estimates
  pub refuses : job.refuses_sampled ≡ refuses_sampled by.loaded.read
  pub no_limit : job.templates ≡ None
  pub filter : option_map (λ f. f.now) job.filter ≡ filter_of by.loaded.read
  pub exporters : job.exporters.now ≡ by.exporters.items

-- ---- what differs

-- the table from its receipt, and what was made again from both
abbrev pub again_differs : ReceiptValue → List ℕ → ReceiptValue → List ℕ → List ℕ
again_differs said table found text = table_differs said.table table ++ (remade_differs found said ++ text_differs text table)

-- what the receipt of a table that is there says
abbrev pub said_by : TableThere → ReceiptValue
said_by there = receipt_value there.receipt.now

-- what differs of such a table and of one that was made again
abbrev pub remaking_differs : TableThere → Remade → List ℕ
remaking_differs there remade = again_differs (said_by there) there.table.now (receipt_value remade.receipt) remade.text.items

-- the table has the octets and the SHA-256 of its receipt; it was made again of these sources, of which the headline says what they
-- gave, each with its exporter; of the receipt's inputs and these there is one of each for one of the other, by octets, SHA-256 and
-- exporter, which gave the same; and the table is the text of the aggregate of the records that they gave: of each the first of those
-- that its whole text gives
pub record IsVerified {S : Type 0} (seen : S → SourceView) (job : CollectJob) (said : ReceiptValue) (table : List ℕ) (sources : List S) (origins : List Origin) : Type 0 where
  pub table_is : IsTableOf said.table table
  pub collected : FullSerialAnswer S
  pub collects : CollectsBy job.engine (IsGivenInContext seen) (in_noting_context job sources origins) job.plan.now collected
  pub first : (texts : List (List ℕ)) → AreTexts seen (sources_of (in_noting_context job sources origins)) texts
      → AllZip IsPrefix collects.headline.records (records_in_context (in_noting_context job sources origins) texts)
  pub digests : List (List ℕ)
  pub are_digests : AreDigestsOf seen sources (fulls_in collected.sessions.items) digests
  pub same : HaveSameInputs said.inputs (inputs_of job origins (fulls_in collected.sessions.items) digests)
  pub text : table ≡ export_text job.elements.now job.output job.plan.now collected.table

module _ {S : Type 0} (seen : S → SourceView) (by : MadeBy) (said : ReceiptValue) (sources : List S) (origins : List Origin) where
  -- the table was made again of these sources, and these lines are what differs
  pub record IsCompared (table lines : List ℕ) : Type 0 where
    pub job : CollectJob
    pub is_job : IsJobOf by said.table job
    pub made : MadeWith
    pub remade : Remade
    pub is_remade : IsRemade seen job made sources origins remade
    pub lines_are : lines ≡ again_differs said table (receipt_value remade.receipt) remade.text.items
    -- without one all is as the receipt says
    pub verified : lines ≡ [] → IsVerified seen job said table sources origins

  -- it wasn't made again, for this reason
  pub record IsNotMade (fault : RemakeFault) : Type 0 where
    pub job : CollectJob
    pub is_job : IsJobOf by said.table job
    pub not_remade : IsNotRemade seen job sources origins fault
