use Rattle.ipfix_session.specs.Given.{records_of}
use Rattle.laws_merge.proofs.ExportedTables.{export_is_export}
use Rattle.laws_merge.proofs.HeldExports.{same_rows}
use Rattle.laws_merge.proofs.laws.exports_have_their_rows.Goals as goal

pub returns-clause-own : goal.returns-clause-own
returns-clause-own c = export_is_export

pub returns-clause-only : goal.returns-clause-only
returns-clause-only c = λ plan text is_plan rows others h i. same_rows plan is_plan (records_of text) rows others h.records i.records
