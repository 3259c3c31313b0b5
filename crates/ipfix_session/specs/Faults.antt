-- The fault of a session: the number and the name that reports give, and the fault that a text ends with.
use Rattle.std.specs.Prelude.{ℕ, Bool, true, false, List, codes, Option, Some, None}
use Rattle.ipfix_message.specs.Faults as messages
use Rattle.ipfix_session.specs.declared.stop.Stop.{Stop}
use Rattle.ipfix_session.specs.declared.stop.Stop.TheVariants.{Clean, Short, Fault}
use Rattle.ipfix_session.specs.declared.fault.SessionFault.{SessionFault}
use Rattle.ipfix_session.specs.declared.fault.SessionFault.TheVariants.{Message, Truncated, ReadFailed, TooManyReads, SinkClosed}
use Rattle.ipfix_session.specs.Given.{stop_within}

abbrev pub number_of : SessionFault → ℕ
number_of (Message fault) = messages.number_of fault
number_of Truncated = 14
number_of ReadFailed = 15
number_of TooManyReads = 17
number_of SinkClosed = 18

abbrev pub name_of : SessionFault → List ℕ
name_of (Message fault) = messages.name_of fault
name_of Truncated = codes "Truncated"
name_of ReadFailed = codes "ReadFailed"
name_of TooManyReads = codes "TooManyReads"
name_of SinkClosed = codes "SinkClosed"

-- the fault of a session whose text stops there
abbrev pub fault_at_end : Stop → Option SessionFault
fault_at_end Clean = None
fault_at_end Short = Some Truncated
fault_at_end (Fault fault) = Some (Message fault)

-- a session that ended so could have gone on: no message was refused, memory did not run out, and the sink took each record
abbrev pub ends_open : Option SessionFault → Bool
ends_open None = true
ends_open (Some Truncated) = true
ends_open (Some ReadFailed) = true
ends_open (Some TooManyReads) = true
ends_open (Some (Message fault)) = false
ends_open (Some SinkClosed) = false

abbrev pub end_within : Option ℕ → List ℕ → Option SessionFault
end_within limit text = fault_at_end (stop_within limit text)

abbrev pub end_of : List ℕ → Option SessionFault
end_of text = end_within None text
