-- What a source over a reader reads, and why a read of it failed.
use Rattle.std.specs.Prelude.{Option}
use Rattle.std.specs.declared.io.ErrorKind.{ErrorKind}
use Rattle.std.specs.declared.io.traits.Read.{Ghosts}
use Rattle.ipfix_session.specs.declared.reader.FromReader.{FromReader}

-- the reader of a source
abbrev pub reader_of : {R : Type 0} {G : Ghosts R} → FromReader R G → R
reader_of s = s.reader

-- what the reader answered to the last read that failed
abbrev pub failure_of : {R : Type 0} {G : Ghosts R} → FromReader R G → Option ErrorKind
failure_of s = s.failure
