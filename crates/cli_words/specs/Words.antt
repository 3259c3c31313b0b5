-- The words of the command line that name a command.
use Rattle.std.specs.Prelude.{ℕ, List, codes}
use Rattle.cli_words.specs.declared.subcommands.Subcommand.{Subcommand}
use Rattle.cli_words.specs.declared.subcommands.Subcommand.TheVariants.{Dump, Files, Tcp, Record, Finish, Tables, Merge, Verify, Elements, Explain}

abbrev pub word_of : Subcommand → List ℕ
word_of Dump = codes "dump"
word_of Files = codes "files"
word_of Tcp = codes "tcp"
word_of Record = codes "record"
word_of Finish = codes "finish"
word_of Tables = codes "tables"
word_of Merge = codes "merge"
word_of Verify = codes "verify"
word_of Elements = codes "elements"
word_of Explain = codes "explain"
