-- What a command is told is what was given for its arguments: no value of one stands for that of another.
use Rattle.std.specs.Prelude.{◌≡◌, ◌*◌, false, ℕ, List, Option, Some, nat_eq, if◌then◌else◌, option_map, map, codes}
use Rattle.std.specs.Borrow.{Bor}
use Rattle.std.specs.Duration.{as_nanos}
use Rattle.std.specs.declared.time.Duration.{Duration}
use Rattle.std.specs.Int.NonZero.{non_zero_u64_get, non_zero_usize_get}
use Rattle.report_writing.specs.declared.verbosity.Verbosity.{Verbosity}
use Rattle.output_tables.specs.declared.output.Output.{Output}
use Rattle.cli_words.specs.Given.{IsFlagGiven, IsNumberGiven, count_given, text_given, texts_given}
use Rattle.cli_words.specs.declared.chosen.Chosen.{Chosen}
use Rattle.cli_words.specs.declared.subcommands.Subcommand.TheVariants as command
use Rattle.cli_inputs.specs.Formats.{form_word, format_word, interval_word}
use Rattle.cli_inputs.specs.declared.arguments.Arguments.{Arguments}
use Rattle.cli_inputs.specs.declared.arguments.Arguments.TheVariants.{Dump, Files, Tcp, Record, Finish, Tables, Merge, Verify, Elements, Explain}
use Rattle.cli_inputs.specs.declared.arguments.DumpArguments.{DumpArguments}
use Rattle.cli_inputs.specs.declared.arguments.TableArguments.{TableArguments}
use Rattle.cli_inputs.specs.declared.arguments.CollectArguments.{CollectArguments}
use Rattle.cli_inputs.specs.declared.arguments.FilesArguments.{FilesArguments}
use Rattle.cli_inputs.specs.declared.arguments.TcpArguments.{TcpArguments}
use Rattle.cli_inputs.specs.declared.arguments.RecordArguments.{RecordArguments}
use Rattle.cli_inputs.specs.declared.arguments.FinishArguments.{FinishArguments}
use Rattle.cli_inputs.specs.declared.arguments.TablesArguments.{TablesArguments}
use Rattle.cli_inputs.specs.declared.arguments.MergeArguments.{MergeArguments}
use Rattle.cli_inputs.specs.declared.arguments.VerifyArguments.{VerifyArguments}
use Rattle.cli_inputs.specs.declared.arguments.ElementsArguments.{ElementsArguments}
use Rattle.cli_inputs.specs.declared.arguments.ExplainArguments.{ExplainArguments}
use Rattle.cli_inputs.specs.declared.arguments.ShowProgress.{ShowProgress}
use Rattle.cli_inputs.specs.declared.arguments.ShowProgress.TheVariants.{Nowhere, OnTerminal, OnStandardError}

-- where progress is shown by how often that is asked for
abbrev pub progress_shown : ℕ → ShowProgress
progress_shown asked =
    if nat_eq asked 0 then Nowhere else if nat_eq asked 1 then OnTerminal else OnStandardError

-- of the tables of one plan is told what is told of all
pub record IsTableOf (all : TablesArguments) (plan : Bor (List ℕ)) (told : TableArguments) : Type 0 where
  pub elements : told.element_files ≡ all.element_files
  pub plan_is : told.plan ≡ plan
  pub output : told.output ≡ all.output
  pub verbosity : told.verbosity ≡ all.verbosity

module _ (chosen : Chosen) where
  -- a duration has as many seconds as the number of an argument says; there is none if there is no number
  abbrev pub IsDurationGiven : List ℕ → Option Duration → Type 0
  IsDurationGiven word duration = (seconds : Option ℕ) × IsNumberGiven chosen word seconds
      × (option_map as_nanos duration ≡ option_map (λ n. n * 1000000000) seconds)

  pub record IsVerbosity (told : Verbosity) : Type 0 where
    pub verbose : IsFlagGiven chosen (codes "verbose") told.verbose
    pub strict : IsFlagGiven chosen (codes "strict") told.strict

  pub record IsDump (told : DumpArguments) : Type 0 where
    pub format : text_given chosen (codes "format") ≡ Some (form_word told.form)
    pub elements : map (λ path. path.now) told.element_files.now ≡ texts_given chosen (codes "elements")
    pub templates : IsNumberGiven chosen (codes "templates") told.templates
    pub verbosity : IsVerbosity told.verbosity

  pub record IsOutput (told : Output) : Type 0 where
    pub format : text_given chosen (codes "format") ≡ Some (format_word told.format)
    pub time : IsNumberGiven chosen (codes "time") (Some told.time)

  pub record IsTable (told : TableArguments) : Type 0 where
    pub elements : map (λ path. path.now) told.element_files.now ≡ texts_given chosen (codes "elements")
    pub plan : text_given chosen (codes "plan") ≡ Some told.plan.now
    pub output : IsOutput told.output
    pub verbosity : IsVerbosity told.verbosity

  pub record IsCollect (told : CollectArguments) : Type 0 where
    pub table : IsTable told.table
    pub workers : IsNumberGiven chosen (codes "workers") (Some told.pool.workers)
    pub ring : IsNumberGiven chosen (codes "ring") (Some told.pool.capacity)
    pub templates : IsNumberGiven chosen (codes "templates") told.templates
    pub receipt : option_map (λ path. path.now) told.receipt ≡ text_given chosen (codes "receipt")
    pub progress : told.progress ≡ progress_shown (count_given chosen (codes "progress"))

  pub record IsFiles (told : FilesArguments) : Type 0 where
    pub collect : IsCollect told.collect
    pub direct : IsFlagGiven chosen (codes "direct") told.direct
    pub files : map (λ path. path.now) told.paths.now ≡ texts_given chosen (codes "file")
    pub list : option_map (λ list. list.now) told.list ≡ text_given chosen (codes "files-from")
    pub exporters : map (λ word. word.now) told.exporters.now ≡ texts_given chosen (codes "exporter")

  pub record IsTcp (told : TcpArguments) : Type 0 where
    pub collect : IsCollect told.collect
    pub listen : text_given chosen (codes "listen") ≡ Some told.addr.now
    pub sessions : IsNumberGiven chosen (codes "sessions") (Some told.sessions)
    pub idle : IsDurationGiven (codes "idle") told.idle

  pub record IsRecord (told : RecordArguments) : Type 0 where
    pub into : text_given chosen (codes "into") ≡ Some told.into.now
    pub listen : option_map (λ addr. addr.now) told.listen ≡ text_given chosen (codes "listen")
    pub udp : option_map (λ addr. addr.now) told.udp ≡ text_given chosen (codes "udp")
    pub every : IsNumberGiven chosen (codes "every") (Some (non_zero_u64_get told.every))
    pub sessions : IsNumberGiven chosen (codes "sessions") (Some told.sessions)
    pub peers : IsNumberGiven chosen (codes "peers") (Some (non_zero_usize_get told.peers))
    pub reorder : IsNumberGiven chosen (codes "reorder") (Some told.reorder)
    pub templates : IsNumberGiven chosen (codes "templates") (Some told.templates)
    pub buffer : IsNumberGiven chosen (codes "buffer") (Some told.buffer)
    pub prefixes : map (λ prefix. prefix.now) told.prefixes.now ≡ texts_given chosen (codes "from")
    pub idle : IsDurationGiven (codes "idle") told.idle
    pub verbose : IsFlagGiven chosen (codes "verbose") told.verbosity.verbose
    pub strict : told.verbosity.strict ≡ false

  pub record IsFinish (told : FinishArguments) : Type 0 where
    pub folder : text_given chosen (codes "folder") ≡ Some told.folder.now

  pub record IsTables (told : TablesArguments) : Type 0 where
    pub from : text_given chosen (codes "from") ≡ Some told.from.now
    pub into : text_given chosen (codes "into") ≡ Some told.into.now
    pub plans : map (λ path. path.now) told.plans.now ≡ texts_given chosen (codes "plan")
    pub elements : map (λ path. path.now) told.element_files.now ≡ texts_given chosen (codes "elements")
    pub output : IsOutput told.output
    pub verbosity : IsVerbosity told.verbosity
    pub workers : IsNumberGiven chosen (codes "workers") (Some told.workers)
    pub every : IsNumberGiven chosen (codes "every") (Some told.every)
    pub grace : IsNumberGiven chosen (codes "grace") (Some told.grace)
    pub days : option_map (λ zone. zone.now) told.days ≡ text_given chosen (codes "days")
    pub rows_of_a_session : IsNumberGiven chosen (codes "rows-of-a-session") (Some told.rows_of_a_session)
    pub keep_days : IsNumberGiven chosen (codes "keep-recordings") told.keep_days
    pub follow : IsFlagGiven chosen (codes "follow") told.follow

  pub record IsMerge (told : MergeArguments) : Type 0 where
    pub table : IsTable told.table
    pub files : map (λ path. path.now) told.paths.now ≡ texts_given chosen (codes "file")
    pub into : option_map interval_word told.into ≡ text_given chosen (codes "into")
    pub zone : option_map (λ zone. zone.now) told.zone ≡ text_given chosen (codes "zone")
    pub receipts : IsFlagGiven chosen (codes "receipts") told.receipts
    pub receipts_of : map (λ word. word.now) told.receipts_of.now ≡ texts_given chosen (codes "receipt-of")
    pub receipt : option_map (λ path. path.now) told.receipt ≡ text_given chosen (codes "receipt")
    pub incomplete : IsFlagGiven chosen (codes "incomplete") told.incomplete

  pub record IsVerify (told : VerifyArguments) : Type 0 where
    pub receipt : text_given chosen (codes "receipt") ≡ Some told.receipt.now
    pub table : option_map (λ path. path.now) told.table ≡ text_given chosen (codes "table")
    pub again : map (λ path. path.now) told.again.now ≡ texts_given chosen (codes "again")
    pub exporters : map (λ word. word.now) told.exporters.now ≡ texts_given chosen (codes "exporter")
    pub elements : map (λ path. path.now) told.element_files.now ≡ texts_given chosen (codes "elements")
    pub verbose : IsFlagGiven chosen (codes "verbose") told.verbosity.verbose
    pub strict : told.verbosity.strict ≡ false

  pub record IsElements (told : ElementsArguments) : Type 0 where
    pub elements : map (λ path. path.now) told.element_files.now ≡ texts_given chosen (codes "elements")
    pub word : option_map (λ word. word.now) told.word ≡ text_given chosen (codes "word")

  pub record IsExplain (told : ExplainArguments) : Type 0 where
    pub fault : option_map (λ fault. fault.now) told.fault ≡ text_given chosen (codes "fault")

  -- the command is the one that was chosen, and it is told what was given
  abbrev pub IsGiven : Arguments → Type 0
  IsGiven (Dump told) = (chosen.command ≡ command.Dump) × IsDump told
  IsGiven (Files told) = (chosen.command ≡ command.Files) × IsFiles told
  IsGiven (Tcp told) = (chosen.command ≡ command.Tcp) × IsTcp told
  IsGiven (Record told) = (chosen.command ≡ command.Record) × IsRecord told
  IsGiven (Finish told) = (chosen.command ≡ command.Finish) × IsFinish told
  IsGiven (Tables told) = (chosen.command ≡ command.Tables) × IsTables told
  IsGiven (Merge told) = (chosen.command ≡ command.Merge) × IsMerge told
  IsGiven (Verify told) = (chosen.command ≡ command.Verify) × IsVerify told
  IsGiven (Elements told) = (chosen.command ≡ command.Elements) × IsElements told
  IsGiven (Explain told) = (chosen.command ≡ command.Explain) × IsExplain told
