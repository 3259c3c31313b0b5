-- One flow's table: 192.0.2.1 has 1500 octets in the minute from 0 on.
use Rattle.std.specs.Prelude.{ℕ, List, [], ◌∷◌, replicate, Some, None}
use Rattle.ipfix_elements.specs.declared.cell.Cell.TheVariants.{Ipv4}
use Rattle.flow_table.specs.declared.method.Method.TheVariants.{Start}
use Rattle.flow_table.specs.Plans.{PlanValue, plan_value}
use Rattle.flow_table.specs.SameTables.{RowValue, row_value}
use Rattle.ipfix_elements.specs.Elements.{iana}

abbrev pub by_address : PlanValue
by_address = plan_value 60000 Start (record { element = iana 8; prefix = None } ∷ []) (iana 1 ∷ []) 4096

abbrev pub by_prefix : PlanValue
by_prefix = plan_value 60000 Start (record { element = iana 8; prefix = Some 24 } ∷ []) (iana 1 ∷ []) 4096

abbrev pub one_flow : List RowValue
one_flow = row_value 0 (Ipv4 (192 ∷ 0 ∷ 2 ∷ 1 ∷ []) ∷ []) (1500 ∷ []) 1 ∷ []

abbrev pub one_network : List RowValue
one_network = row_value 0 (Ipv4 (192 ∷ 0 ∷ 2 ∷ 0 ∷ []) ∷ []) (1500 ∷ []) 1 ∷ []

abbrev pub hundred_octets : List ℕ
hundred_octets =
    0 ∷ 10 ∷ 0 ∷ 44 ∷ 101 ∷ 83 ∷ 241 ∷ 0 ∷ 0 ∷ 0 ∷ 0 ∷ 0 ∷ 0 ∷ 0 ∷ 0 ∷ 0 ∷
    0 ∷ 2 ∷ 0 ∷ 28 ∷ 1 ∷ 0 ∷ 0 ∷ 5 ∷ 0 ∷ 152 ∷ 0 ∷ 8 ∷ 0 ∷ 153 ∷ 0 ∷ 8 ∷ 0 ∷ 8 ∷ 0 ∷ 4 ∷ 0 ∷ 1 ∷ 0 ∷ 8 ∷ 1 ∷ 119 ∷ 0 ∷ 8 ∷
    0 ∷ 10 ∷ 0 ∷ 56 ∷ 101 ∷ 83 ∷ 241 ∷ 0 ∷ 0 ∷ 0 ∷ 0 ∷ 0 ∷ 0 ∷ 0 ∷ 0 ∷ 0 ∷
    1 ∷ 0 ∷ 0 ∷ 40 ∷ 0 ∷ 0 ∷ 0 ∷ 0 ∷ 0 ∷ 0 ∷ 0 ∷ 0 ∷ 0 ∷ 0 ∷ 0 ∷ 0 ∷ 0 ∷ 0 ∷ 234 ∷ 95 ∷ 192 ∷ 0 ∷ 2 ∷ 1 ∷
    0 ∷ 0 ∷ 0 ∷ 0 ∷ 0 ∷ 0 ∷ 5 ∷ 220 ∷ 0 ∷ 0 ∷ 0 ∷ 0 ∷ 0 ∷ 0 ∷ 0 ∷ 1 ∷ []

-- the same by the first 24 bits of the address: sourceIPv4Prefix, and the network
abbrev pub network_octets : List ℕ
network_octets =
    0 ∷ 10 ∷ 0 ∷ 44 ∷ 101 ∷ 83 ∷ 241 ∷ 0 ∷ 0 ∷ 0 ∷ 0 ∷ 0 ∷ 0 ∷ 0 ∷ 0 ∷ 0 ∷
    0 ∷ 2 ∷ 0 ∷ 28 ∷ 1 ∷ 0 ∷ 0 ∷ 5 ∷ 0 ∷ 152 ∷ 0 ∷ 8 ∷ 0 ∷ 153 ∷ 0 ∷ 8 ∷ 0 ∷ 44 ∷ 0 ∷ 4 ∷ 0 ∷ 1 ∷ 0 ∷ 8 ∷ 1 ∷ 119 ∷ 0 ∷ 8 ∷
    0 ∷ 10 ∷ 0 ∷ 56 ∷ 101 ∷ 83 ∷ 241 ∷ 0 ∷ 0 ∷ 0 ∷ 0 ∷ 0 ∷ 0 ∷ 0 ∷ 0 ∷ 0 ∷
    1 ∷ 0 ∷ 0 ∷ 40 ∷ 0 ∷ 0 ∷ 0 ∷ 0 ∷ 0 ∷ 0 ∷ 0 ∷ 0 ∷ 0 ∷ 0 ∷ 0 ∷ 0 ∷ 0 ∷ 0 ∷ 234 ∷ 95 ∷ 192 ∷ 0 ∷ 2 ∷ 0 ∷
    0 ∷ 0 ∷ 0 ∷ 0 ∷ 0 ∷ 0 ∷ 5 ∷ 220 ∷ 0 ∷ 0 ∷ 0 ∷ 0 ∷ 0 ∷ 0 ∷ 0 ∷ 1 ∷ []

-- so many rows
abbrev pub flows : ℕ → List RowValue
flows count = replicate count (row_value 0 (Ipv4 (192 ∷ 0 ∷ 2 ∷ 1 ∷ []) ∷ []) (1500 ∷ []) 1)
