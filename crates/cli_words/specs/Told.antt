-- What the parser is told of an argument.
use Rattle.std.specs.Prelude.{◌≡◌, ℕ, Bool, true, false, List, [], ◌∷◌, Option, None, Some}
use Rattle.clap.specs.Words.{Rule}
use Rattle.clap.specs.declared.builder.action.ArgAction.{ArgAction}
use Rattle.clap.specs.declared.builder.action.ArgAction.TheVariants.{Append, Count, SetTrue}
use Rattle.cli_words.specs.declared.arguments.Argument.{Argument}
use Rattle.cli_words.specs.declared.arguments.Takes.{Takes}
use Rattle.cli_words.specs.declared.arguments.Takes.TheVariants.{Nothing, Nothings, Text, Texts, Listed, Word, Number, Bare, Bares}
use Rattle.cli_words.specs.declared.arguments.Due.{Due}
use Rattle.cli_words.specs.declared.arguments.Due.TheVariants.{Never, Always, Without, Default}

-- the word that an argument has after two hyphens, if it doesn't stand bare
abbrev pub long_word : Takes → List ℕ → Option (List ℕ)
long_word (Nothing letter) word = Some word
long_word Nothings word = Some word
long_word (Text value) word = Some word
long_word (Texts value) word = Some word
long_word (Listed value) word = Some word
long_word (Word value words) word = Some word
long_word (Number value least most) word = Some word
long_word (Bare value) word = None
long_word (Bares value) word = None

-- what the parser does each time that it finds one, if that isn't to keep its values
abbrev pub action_of : Takes → Option ArgAction
action_of (Nothing letter) = Some SetTrue
action_of Nothings = Some Count
action_of (Text value) = None
action_of (Texts value) = Some Append
action_of (Listed value) = Some Append
action_of (Word value words) = None
action_of (Number value least most) = None
action_of (Bare value) = None
action_of (Bares value) = None

-- whether it has to be given
abbrev pub is_always : Due → Bool
is_always Never = false
is_always Always = true
is_always (Without other) = false
is_always (Default text) = false

-- what it is if it isn't given
abbrev pub defaults_of : Due → List (List ℕ)
defaults_of Never = []
defaults_of Always = []
defaults_of (Without other) = []
defaults_of (Default text) = text.now ∷ []

-- the parser finds an argument by its own word, and under that word says what it found
pub record IsTold (argument : Argument) (rule : Rule) : Type 0 where
  pub id : rule.id ≡ argument.word.now
  pub long : rule.long ≡ long_word argument.takes argument.word.now
  pub action : rule.action ≡ action_of argument.takes
  pub required : rule.required ≡ is_always argument.due
  pub defaults : rule.defaults ≡ defaults_of argument.due
