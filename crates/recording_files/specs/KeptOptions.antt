-- Options records that are kept of a session, so that each of its files begins with what they told before it (RFC 7011, section 3.4.2).
use Rattle.std.specs.Prelude.{◌≡◌, ℕ, ◌==◌, ◌&&◌, ◌||◌, Bool, true, not, nat_eq, nat_lt, nat_le, is_some, if◌then◌else◌, List, [], ◌∷◌, ◌++◌, length, drop, filter, fold, Option, Some, None}
use Rattle.std.specs.Option.{option_and_then, option_eq, option_map}
use Rattle.ipfix_message.specs.Domains.{History, Message, template_for}
use Rattle.ipfix_message.specs.SpelledFields.{fields_in}
use Rattle.ipfix_message.specs.declared.record.DataRecord.{DataRecord}
use Rattle.ipfix_message.specs.declared.record.Template.{Template}
use Rattle.exporter_options.specs.Telling.{told_by}
use Rattle.exporter_options.specs.declared.telling.Told.{Told}
use Rattle.recording_files.specs.RecordOctets.{record_octets}
use Rattle.recording_files.specs.declared.kept_options.TheConstants.{MOST_FIELDS, MOST_KEPT, MOST_OCTETS}

-- an options record of a message of this domain: the template that describes it, its octets, and what it tells
pub record Kept : Type 0 where
  pub domain : ℕ
  pub template : Template
  pub octets : List ℕ
  pub told : Told

-- ---- which are kept

-- when the exporter was started, or how it samples
abbrev pub tells_some : Told → Bool
tells_some t = is_some t.init_time || is_some t.sampling

-- its octets under a template; none of a record that the template doesn't describe, or that is long
abbrev pub spelled_by : Template → DataRecord → Option (List ℕ)
spelled_by t r = if (t.scope == r.scope) && nat_le (length t.specs) MOST_FIELDS then record_octets t.specs r.fields else None

abbrev pub if_short : List ℕ → Option (List ℕ)
if_short octets = if nat_le (length octets) MOST_OCTETS then Some octets else None

abbrev pub kept_as : DataRecord → Told → Template → List ℕ → Kept
kept_as r told t octets = record { domain = r.domain; template = t; octets = octets; told = told }

abbrev pub short_under : DataRecord → Template → Option (List ℕ)
short_under r t = option_and_then if_short (spelled_by t r)

abbrev pub kept_under : DataRecord → Told → Template → Option Kept
kept_under r told t = option_map (kept_as r told t) (short_under r t)

abbrev pub kept_telling : History → DataRecord → Told → Option Kept
kept_telling ds r told = if tells_some told then option_and_then (kept_under r told) (template_for ds r.domain r.template) else None

-- what is kept of a record of a message after which these are the domains
abbrev pub kept_of : History → DataRecord → Option Kept
kept_of ds r = option_and_then (kept_telling ds r) (told_by r)

-- all that the older one told of its domain the newer one tells again
abbrev pub tells_again : Told → Told → Bool
tells_again new old =
    (new.domain == old.domain) && ((if is_some old.init_time then is_some new.init_time else true)
    && (if is_some old.sampling then is_some new.sampling && option_eq nat_eq new.selector old.selector else true))

-- the oldest goes, where there are as many as are kept
abbrev pub with_room : List Kept → List Kept
with_room ks = if nat_lt (length ks) MOST_KEPT then ks else drop 1 ks

-- one more is the newest, and those go of which it tells all again
abbrev pub keep : Kept → List Kept → List Kept
keep k ks = with_room (filter (λ o. not (tells_again k.told o.told)) ks) ++ k ∷ []

abbrev pub keep_some : List Kept → Option Kept → List Kept
keep_some ks None = ks
keep_some ks (Some k) = keep k ks

abbrev pub kept_with : History → List Kept → DataRecord → List Kept
kept_with ds ks r = keep_some ks (kept_of ds r)

-- what is kept after these records, too
abbrev pub AllKept : List DataRecord → List Kept → List Kept → History → Type 0
AllKept rs old new ds = new ≡ fold (kept_with ds) old rs

abbrev pub kept_then : List Kept → Message → List Kept
kept_then ks x = fold (kept_with x.domains) ks x.decoding.records

-- what is kept after the messages of a session, the oldest first
abbrev pub kept_after : List Message → List Kept
kept_after ms = fold kept_then [] ms

-- ---- how they are read again

abbrev pub read_again : ℕ → Kept → DataRecord
read_again export_time k =
    record { domain = k.domain; export_time = export_time; template = k.template.id; scope = k.template.scope; fields = fields_in k.template.specs k.octets }
