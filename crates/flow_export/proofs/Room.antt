-- What has room in messages.
use Rattle.std.proofs.Common.{◌^◌, ◌<◌, ◌≤◌, length, All}
use Rattle.ipfix_wire.specs.declared.specifier.Spec.{Spec}
use Rattle.ipfix_message.specs.DataRecords.{least}
use Rattle.flow_table.specs.Plans.{PlanValue}
use Rattle.flow_export.specs.IpfixText.{field_specs}

-- a field specifier whose numbers have room in it
pub record IsSpec (s : Spec) : Type 0 where
  pub pen : s.element.pen < 2 ^ 32
  pub number : s.element.number < 2 ^ 15
  pub width : s.width < 2 ^ 16

-- the template has room in a message, and a hundred rows have
pub record HasRoom (plan : PlanValue) : Type 0 where
  pub specs : All IsSpec (field_specs plan)
  pub few : length (field_specs plan) ≤ 15
  pub short : least (field_specs plan) ≤ 184
