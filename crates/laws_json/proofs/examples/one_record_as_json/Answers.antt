use Rattle.std.proofs.Common.{refl}
use Rattle.std.specs.Fmt.{digits}
use Rattle.hex.specs.Hex.{encode_with}
use Rattle.json.specs.Json.{items, members, value}
use Rattle.json.specs.Lex.{lex, punctuate}
use Rattle.json.specs.Text.{content}
use Rattle.json.specs.Word.{after_number, word}
use Rattle.ipfix_elements.specs.Elements.{elements}
use Rattle.ipfix_elements.specs.Texts.{cell_text}
use Rattle.ipfix_dump.specs.JsonLines.{json_field, json_line}
use Rattle.laws_json.proofs.examples.one_record_as_json.Goals as goal

pub returns-clause-line : goal.returns-clause-line
unfolding json_line json_field elements digits cell_text encode_with lex punctuate content word after_number value items members
returns-clause-line c = refl

pub returns-clause-value : goal.returns-clause-value
unfolding json_line json_field elements digits cell_text encode_with lex punctuate content word after_number value items members
returns-clause-value c = refl

pub returns-clause-read : goal.returns-clause-read
unfolding json_line json_field elements digits cell_text encode_with lex punctuate content word after_number value items members
returns-clause-read c = refl
