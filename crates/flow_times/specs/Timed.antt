-- Records that have times in milliseconds or seconds (RFC 7011, sections 6.1.7 and 6.1.8).
use Rattle.std.specs.Prelude.{Bool, ◌&&◌, is_some, nat_lt, not}
use Rattle.ipfix_message.specs.declared.record.DataRecord.{DataRecord}
use Rattle.flow_table.specs.Reading.{basic_end, basic_start}

-- a record that tells of a flow: its template has no scope fields (RFC 7011, section 3.4.2)
abbrev pub is_flow : DataRecord → Bool
is_flow r = not (nat_lt 0 r.scope)

-- a start and an end
abbrev pub is_timed : DataRecord → Bool
is_timed r = is_some (basic_start r) && is_some (basic_end r)
