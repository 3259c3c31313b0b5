-- The work on the tables of plans.
use Rattle.std.specs.Prelude.{◌≡◌, ◌≢◌, Option, None, Some}
use Rattle.cli_inputs.specs.Formats.{format_word}
use Rattle.cli_inputs.specs.declared.arguments.TablesArguments.{TablesArguments}
use Rattle.flow_export.specs.declared.format.Format.TheVariants.{Ipfix}
use Rattle.jiff.specs.declared.tz.timezone.TimeZone.{TimeZone}
use Rattle.local_days.specs.declared.local_interval.LocalInterval.{LocalInterval}
use Rattle.local_days.specs.declared.local_interval.LocalInterval.TheVariants.{Day, Month}
use Rattle.output_tables.specs.declared.output.Output.{Output}
use Rattle.command_tables.specs.declared.days.calendar.Calendar.{Calendar}
use Rattle.command_tables.specs.declared.days.day_tables.DayTexts.{DayTexts}
use Rattle.command_tables.specs.declared.texts.job.TextJob.{TextJob}
use Rattle.tables_folder.specs.PlanPlaces.{HasTablesOf}
use Rattle.tables_folder.specs.declared.plan_names.TablesOf.{TablesOf}
use Rattle.tables_folder.specs.declared.plan_names.TablesOf.TheVariants.{Periods, Days, Months}
use Rattle.tables_folder.specs.declared.plan_tables.PlanTables.{PlanTables}
use Rattle.command_tables.specs.declared.plans.LocalTables.{LocalTables}
use Rattle.command_tables.specs.declared.plans.PlanDays.{PlanDays}
use Rattle.command_tables.specs.declared.plans.PlanTexts.{PlanTexts}
use Rattle.command_tables.specs.declared.plans.PlanWork.{PlanWork}
use Rattle.command_tables.specs.declared.plans.ReadPlan.{ReadPlan}

-- texts are made under the plan that was read, and written so
pub record IsTextJob (read : ReadPlan) (output : Output) (job : TextJob) : Type 0 where
  pub output_is : job.output ≡ output
  pub elements : job.elements.now ≡ read.made.loaded.elements
  pub plan_is : job.plan.now ≡ read.made.loaded.read.plan

-- there are texts unless they are IPFIX, too
abbrev pub AreTextsOf : ReadPlan → Output → Option PlanTexts → Type 0
AreTextsOf read output None = output.format ≡ Ipfix
AreTextsOf read output (Some texts) =
    (output.format ≢ Ipfix) × IsTextJob read output texts.job × HasTablesOf Periods (format_word output.format) texts.texts.place

abbrev pub AreDayTextsOf : ReadPlan → Output → TablesOf → Option (DayTexts PlanTables) → Type 0
AreDayTextsOf read output of None = output.format ≡ Ipfix
AreDayTextsOf read output of (Some texts) =
    (output.format ≢ Ipfix) × IsTextJob read output texts.job × HasTablesOf of (format_word output.format) texts.place

-- what the tables of local intervals are of
abbrev pub tables_of : LocalInterval → TablesOf
tables_of Day = Days
tables_of Month = Months

-- the tables of these days or months stand in their folder, and are made in IPFIX of what was read of the plan, and their texts
pub record IsDaysOf (read : ReadPlan) (output : Output) (calendar : Calendar) (days : PlanDays) : Type 0 where
  pub calendar_is : days.tables.calendar ≡ calendar
  pub job : IsTextJob read (record output { format = Ipfix }) days.tables.job.text
  pub place : HasTablesOf (tables_of calendar.interval) (format_word Ipfix) days.tables.place
  pub texts : AreDayTextsOf read output (tables_of calendar.interval) days.texts

-- those of a zone, if there is one
pub record AreIn (read : ReadPlan) (output : Output) (zone : TimeZone) (local : LocalTables) : Type 0 where
  pub days : IsDaysOf read output (record { interval = Day; zone = zone }) local.days
  pub months : IsDaysOf read output (record { interval = Month; zone = zone }) local.months

abbrev pub AreLocalOf : ReadPlan → Output → Option TimeZone → Option LocalTables → Type 0
AreLocalOf read output None None = Unit {0}
AreLocalOf read output (Some zone) (Some local) = AreIn read output zone local
AreLocalOf read output other local = ⊥

-- it has the plan's name, and makes tables in IPFIX of what was read of that plan, with as many rows of a session as were given for a
-- limit, their texts, and those of days and months
pub record IsWorkOf (arguments : TablesArguments) (zone : Option TimeZone) (read : ReadPlan) (plan : PlanWork) : Type 0 where
  pub name_is : plan.name ≡ read.named.name
  pub elements : plan.work.desk.maker.job.collect.elements.now ≡ read.made.loaded.elements
  pub plan_is : plan.work.desk.maker.job.collect.plan.now ≡ read.made.loaded.read.plan
  pub made : plan.work.desk.maker.job.made.now ≡ read.made.made
  pub output_is : plan.work.desk.maker.job.collect.output ≡ record arguments.output { format = Ipfix }
  pub no_limit : plan.work.desk.maker.job.collect.templates ≡ None
  pub rows_of_a_session : plan.work.desk.maker.job.rows_of_a_session ≡ arguments.rows_of_a_session
  pub place : HasTablesOf Periods (format_word Ipfix) plan.work.desk.tables
  pub texts : AreTextsOf read arguments.output plan.texts
  pub local : AreLocalOf read arguments.output zone plan.local
