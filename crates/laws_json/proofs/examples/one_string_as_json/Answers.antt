use Rattle.std.proofs.Common.{refl}
use Rattle.std.specs.Char.{encode_utf8}
use Rattle.std.specs.Fmt.{digits}
use Rattle.std.specs.Str.{chars, is_utf8}
use Rattle.hex.specs.Hex.{encode_with}
use Rattle.json.specs.Json.{items, members, value}
use Rattle.json.specs.Lex.{lex, punctuate}
use Rattle.json.specs.Text.{code_unit, content}
use Rattle.json.specs.Word.{after_number, word}
use Rattle.ipfix_elements.specs.Elements.{elements}
use Rattle.ipfix_dump.specs.JsonLines.{json_field, json_line}
use Rattle.laws_json.proofs.examples.one_string_as_json.Goals as goal

pub returns-clause-line : goal.returns-clause-line
unfolding json_line json_field elements digits chars is_utf8 encode_utf8 encode_with
returns-clause-line c = refl

pub returns-clause-value : goal.returns-clause-value
unfolding elements digits chars is_utf8 encode_utf8
returns-clause-value c = refl

pub returns-clause-read : goal.returns-clause-read
unfolding lex punctuate code_unit content encode_utf8 word after_number value items members
returns-clause-read c = refl
