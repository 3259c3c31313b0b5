-- The number and the name that reports give for a fault.
use Rattle.std.specs.Prelude.{ℕ, List, codes}
use Rattle.ipfix_wire.specs.declared.fault.WireFault.{WireFault}
use Rattle.ipfix_wire.specs.declared.fault.WireFault.TheVariants.{Version, MessageLength, SetHeader, SetLength}

abbrev pub number_of : WireFault → ℕ
number_of Version = 1
number_of MessageLength = 2
number_of SetHeader = 3
number_of SetLength = 4

abbrev pub name_of : WireFault → List ℕ
name_of Version = codes "Version"
name_of MessageLength = codes "MessageLength"
name_of SetHeader = codes "SetHeader"
name_of SetLength = codes "SetLength"
