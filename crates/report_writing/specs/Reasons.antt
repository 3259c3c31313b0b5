-- Why the system did not give or take something.
use Rattle.std.specs.Prelude.{ℕ, List, codes}
use Rattle.std.specs.declared.io.ErrorKind.{ErrorKind}
use Rattle.std.specs.declared.io.ErrorKind.TheVariants as kind
use Rattle.report_writing.specs.declared.reason.Reason.{Reason}
use Rattle.report_writing.specs.declared.reason.Reason.TheVariants.{NoSuchFile, NoPermission, IsFolder, NotValid, InUse, NoSuchAddress, Reset, Silent, NoSpace, NoReader, OutOfMemory, Other}

-- the reason by the kind of the system's error; a read that waited too long is either of two kinds
abbrev pub reason_of : ErrorKind → Reason
reason_of kind.NotFound = NoSuchFile
reason_of kind.NotADirectory = NoSuchFile
reason_of kind.PermissionDenied = NoPermission
reason_of kind.IsADirectory = IsFolder
reason_of kind.InvalidInput = NotValid
reason_of kind.InvalidFilename = NotValid
reason_of kind.AddrInUse = InUse
reason_of kind.AddrNotAvailable = NoSuchAddress
reason_of kind.ConnectionReset = Reset
reason_of kind.ConnectionAborted = Reset
reason_of kind.TimedOut = Silent
reason_of kind.WouldBlock = Silent
reason_of kind.StorageFull = NoSpace
reason_of kind.QuotaExceeded = NoSpace
reason_of kind.BrokenPipe = NoReader
reason_of kind.OutOfMemory = OutOfMemory
reason_of _ = Other

abbrev pub words_of : Reason → List ℕ
words_of NoSuchFile = codes "no such file"
words_of NoPermission = codes "no permission"
words_of IsFolder = codes "it is a folder"
words_of NotValid = codes "not a valid name or address"
words_of InUse = codes "the address is in use"
words_of NoSuchAddress = codes "no such address on this machine"
words_of Reset = codes "the connection was reset"
words_of Silent = codes "nothing came in time"
words_of NoSpace = codes "no space is left"
words_of NoReader = codes "nobody reads it any more"
words_of OutOfMemory = codes "out of memory"
words_of Other = codes "the system refused it"
