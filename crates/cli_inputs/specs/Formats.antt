-- The words of `--format`, and of `--into` of `merge`.
use Rattle.std.specs.Prelude.{ℕ, List, codes}
use Rattle.flow_export.specs.declared.format.Format.{Format}
use Rattle.flow_export.specs.declared.format.Format.TheVariants.{Csv, Ipfix, Json}
use Rattle.ipfix_dump.specs.declared.options.Form.{Form}
use Rattle.ipfix_dump.specs.declared.options.Form.TheVariants as form
use Rattle.local_days.specs.declared.local_interval.LocalInterval.{LocalInterval}
use Rattle.local_days.specs.declared.local_interval.LocalInterval.TheVariants.{Day, Month}

-- the word for how data records are dumped
abbrev pub form_word : Form → List ℕ
form_word form.Text = codes "text"
form_word form.Json = codes "json"

-- the word for how a table is written
abbrev pub format_word : Format → List ℕ
format_word Csv = codes "csv"
format_word Ipfix = codes "ipfix"
format_word Json = codes "json"

-- the word for local intervals
abbrev pub interval_word : LocalInterval → List ℕ
interval_word Day = codes "day"
interval_word Month = codes "month"
