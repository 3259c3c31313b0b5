-- What the templates of a session count, and a limit that a session may have for them.
use Rattle.std.specs.Prelude.{ℕ, ◌+◌, ◌≤◌, ◌<◌, nat_lt, ◌==◌, Bool, MatchBool, not, if◌then◌else◌, List, [], ◌∷◌, length, filter, sum_by, option_map, unwrap_or, Option, Some, None, Ok, Err}
use Rattle.std.specs.BTreeMap.{BTreeMap, values}
use Rattle.std.specs.Map.{keys_of}
use Rattle.ipfix_message.specs.declared.fault.MessageFault.TheVariants.{TooManyFields}
use Rattle.ipfix_message.specs.declared.record.Template.{Template}
use Rattle.ipfix_message.specs.declared.template_limit.TheConstants.{DOMAIN_FIELDS, TEMPLATE_FIELDS}
use Rattle.ipfix_message.specs.declared.template_record.Event.{Event}
use Rattle.ipfix_message.specs.declared.template_record.Event.TheVariants.{Define, Withdraw, WithdrawAll}
use Rattle.ipfix_message.specs.Outcome.{Read, ◌>>=◌}
use Rattle.ipfix_message.specs.TemplatesInForce.{in_force}
use Rattle.ipfix_message.specs.Domains.{History, Message, events_in, message_gives}

-- ---- what they count

-- a template counts 8 and its field specifiers, those of its scope among them
abbrev pub fields_of : Template → ℕ
fields_of t = TEMPLATE_FIELDS + length t.specs

-- nothing, where there is none
abbrev pub fields_if : Option Template → ℕ
fields_if o = unwrap_or (option_map fields_of o) 0

-- the ids that events define, each once
unfoldable pub ids_of : List Event → List ℕ
ids_of [] = []
ids_of (Define t ∷ es) = t.id ∷ filter (λ id. not (id == t.id)) (ids_of es)
ids_of (Withdraw kind id ∷ es) = ids_of es
ids_of (WithdrawAll kind ∷ es) = ids_of es

-- a domain counts 16, and for each id the template that is known after its events
abbrev pub domain_fields : (List Event → ℕ → Option Template) → List Event → ℕ
domain_fields known es = DOMAIN_FIELDS + sum_by (λ id. fields_if (known es id)) (ids_of es)

-- the domains of a session count what is in force in each
abbrev pub fields_in : History → ℕ
fields_in ds = sum_by (λ domain. domain_fields in_force (events_in ds domain)) (keys_of ds)

-- the same by the templates that are kept of a domain
abbrev pub fields_kept : BTreeMap ℕ Template → ℕ
fields_kept templates = DOMAIN_FIELDS + sum_by fields_of (values templates)

-- ---- a limit

-- a test of whether they count no more than a limit
abbrev pub TellsWithin : Bool → ℕ → History → Type 0
TellsWithin b limit ds = MatchBool b (fields_in ds ≤ limit) (limit < fields_in ds)

-- they count no more than the limit, if there is one
abbrev pub IsWithin : Option ℕ → History → Type 0
IsWithin None ds = Unit {0}
IsWithin (Some limit) ds = fields_in ds ≤ limit

-- a message, unless more would be in force after it
abbrev pub unless_more : ℕ → Message → Read Message
unless_more limit x = if nat_lt limit (fields_in x.domains) then Err TooManyFields else Ok x

-- what a message gives in a session that has such a limit, or none
abbrev pub message_within : Option ℕ → History → List ℕ → Read Message
message_within None ds m = message_gives ds m
message_within (Some limit) ds m = message_gives ds m >>= λ x. unless_more limit x
