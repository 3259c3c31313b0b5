-- What the sets of a message give (RFC 7011, sections 3.1 to 3.4 and 8).
use Rattle.std.specs.Prelude.{ℕ, ◌+◌, nat_lt, ◌==◌, if◌then◌else◌, List, [], ◌∷◌, ◌++◌, map, Option, Some, None, Ok}
use Rattle.ipfix_wire.specs.declared.header.Header.{Header}
use Rattle.ipfix_wire.specs.declared.set.TheConstants.{TEMPLATE_SET_ID, OPTIONS_TEMPLATE_SET_ID, FIRST_TEMPLATE_ID}
use Rattle.ipfix_message.specs.declared.passed_over.PassedOver.{PassedOver}
use Rattle.ipfix_message.specs.declared.record.Template.{Template}
use Rattle.ipfix_message.specs.declared.record.DataRecord.{DataRecord}
use Rattle.ipfix_message.specs.declared.template_record.TemplateKind.{TemplateKind}
use Rattle.ipfix_message.specs.declared.template_record.TemplateKind.TheVariants.{Plain, Options}
use Rattle.ipfix_message.specs.declared.template_record.Event.{Event}
use Rattle.ipfix_message.specs.Outcome.{Read, ◌>>=◌, unless}
use Rattle.ipfix_message.specs.Sets.{Set, sets_of, fault_after_sets}
use Rattle.ipfix_message.specs.DataRecords.{records_of_body, record_of}
use Rattle.ipfix_message.specs.TemplatesInForce.{in_force, template_set_gives}

-- what was read so far: the events of the domain, the newest first, the records, and what was passed over
pub record Decoding : Type 0 where
  pub events : List Event
  pub records : List DataRecord
  pub passed_over : PassedOver

-- at the beginning of a message, after the events of its domain
abbrev pub before : List Event → Decoding
before es = record { events = es; records = []; passed_over = record { skipped_sets = 0; unknown_sets = 0; ignored_withdrawals = 0 } }

-- one more set that is skipped, one more data set that has no template, and so many more withdrawals that are ignored
abbrev pub one_skipped : PassedOver → PassedOver
one_skipped p = record p { skipped_sets = p.skipped_sets + 1 }

abbrev pub one_unknown : PassedOver → PassedOver
one_unknown p = record p { unknown_sets = p.unknown_sets + 1 }

abbrev pub more_ignored : ℕ → PassedOver → PassedOver
more_ignored n p = record p { ignored_withdrawals = p.ignored_withdrawals + n }

-- a template set gives its events
unfoldable pub templates_in : TemplateKind → Decoding → List ℕ → Read Decoding
templates_in kind d body = template_set_gives kind d.events body >>= λ r. Ok (record d { events = r.0; passed_over = more_ignored r.1 d.passed_over })

-- a data set gives the records of its body, if its template is in force, and is unknown otherwise
unfoldable pub data_in : Header → Decoding → List ℕ → Option Template → Read Decoding
data_in h d body None = Ok (record d { passed_over = one_unknown d.passed_over })
data_in h d body (Some t) = records_of_body t.specs body >>= λ rs. Ok (record d { records = d.records ++ map (record_of h t) rs })

-- one set, after the events before it: by its id a template set, an options template set, from the first template id
-- on a data set, and any other is skipped (section 3.3.2)
unfoldable pub set_gives : Header → Decoding → Set → Read Decoding
set_gives h d s =
    if s.id == TEMPLATE_SET_ID then templates_in Plain d s.body
    else if s.id == OPTIONS_TEMPLATE_SET_ID then templates_in Options d s.body
    else if nat_lt s.id FIRST_TEMPLATE_ID then Ok (record d { passed_over = one_skipped d.passed_over })
    else data_in h d s.body (in_force d.events s.id)

-- sets in turn, up to the first fault
unfoldable pub sets_give : Header → Decoding → List Set → Read Decoding
sets_give h d [] = Ok d
sets_give h d (s ∷ ss) = set_gives h d s >>= λ e. sets_give h e ss

-- the octets after a message's header: what its sets give, and then the fault of what is left of them
unfoldable pub sets_from : Header → Decoding → List ℕ → Read Decoding
sets_from h d w = sets_give h d (sets_of w).items >>= λ e. unless (fault_after_sets (sets_of w).rest) e
