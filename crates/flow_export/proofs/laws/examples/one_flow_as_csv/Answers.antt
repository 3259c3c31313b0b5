use Rattle.std.proofs.Common.{refl}
use Rattle.std.specs.Fmt.{digits}
use Rattle.csv.specs.Writing.{fields_text, is_blank}
use Rattle.ipfix_elements.specs.Elements.{elements}
use Rattle.ipfix_elements.specs.Texts.{cell_text}
use Rattle.flow_export.proofs.laws.examples.one_flow_as_csv.Goals as goal

pub returns-clause-address : goal.returns-clause-address
unfolding elements cell_text digits fields_text is_blank
returns-clause-address c = refl

pub returns-clause-prefix : goal.returns-clause-prefix
unfolding elements cell_text digits fields_text is_blank
returns-clause-prefix c = refl

pub returns-clause-no_rows : goal.returns-clause-no_rows
unfolding elements cell_text digits fields_text is_blank
returns-clause-no_rows c = refl
