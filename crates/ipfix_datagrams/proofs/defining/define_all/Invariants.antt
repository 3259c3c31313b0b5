use Rattle.std.specs.Prelude.{IsOk}
use Rattle.std.specs.BTreeMap.{values}
use Rattle.ipfix_message.specs.Domains.{History, admit, events_in}
use Rattle.ipfix_datagrams.specs.Datagrams.{Represents}
use Rattle.ipfix_datagrams.specs.Attempts.{CanDefine, Defining}
use Rattle.ipfix_datagrams.proofs.defining.define_all.Given as goal

abbrev pub invariant-loop-known : goal.invariant-loop-known
invariant-loop-known l = (ds : History) → Represents l.fn.domains ds → IsOk (admit ds l.header.domain)
    → CanDefine (events_in ds l.header.domain) (values l.templates) → Defining ds l.header.domain (values l.templates) l.known-iterator l.domains
