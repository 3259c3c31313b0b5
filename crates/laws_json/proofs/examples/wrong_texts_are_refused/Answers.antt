use Rattle.std.proofs.Common.{refl}
use Rattle.json.specs.Json.{items, members, value}
use Rattle.json.specs.Lex.{lex, punctuate}
use Rattle.json.specs.Text.{code_unit, content}
use Rattle.json.specs.Word.{after_number, word}
use Rattle.laws_json.proofs.examples.wrong_texts_are_refused.Goals as goal

pub returns-clause-newline : goal.returns-clause-newline
unfolding lex punctuate code_unit content word after_number value items members
returns-clause-newline c = refl

pub returns-clause-comma : goal.returns-clause-comma
unfolding lex punctuate code_unit content word after_number value items members
returns-clause-comma c = refl

pub returns-clause-half : goal.returns-clause-half
unfolding lex punctuate code_unit content word after_number value items members
returns-clause-half c = refl

pub returns-clause-brace : goal.returns-clause-brace
unfolding lex punctuate code_unit content word after_number value items members
returns-clause-brace c = refl
