-- The lines on standard error: of the word, and of the list.
use Rattle.std.specs.Prelude.{ℕ, List, codes}

-- no element fits a word
abbrev pub none_line : List ℕ
none_line = codes "error: no element has this number, or this text in its name; 'collectd elements' lists them\n"

-- the list couldn't be written: the same fault as that of a dump or of an export
abbrev pub failed_line : List ℕ
failed_line = codes "collectd: elements: fault 2 WriteFailed\n"

-- there is no memory to begin with
abbrev pub memory_line : List ℕ
memory_line = codes "collectd: elements: fault 10 OutOfMemory\n"
