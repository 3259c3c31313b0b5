-- Why a file of a session could not be finished, as a number that threads share.
use Rattle.std.specs.Prelude.{List, [], ◌∷◌}
use Rattle.report_writing.specs.declared.reason.Reason.{Reason}
use Rattle.report_writing.specs.declared.reason.Reason.TheVariants.{NoSuchFile, NoPermission, IsFolder, NotValid, InUse, NoSuchAddress, Reset, Silent, NoSpace, NoReader, OutOfMemory, Other}

-- the reasons, each of which has its place as its number
abbrev pub reasons : List Reason
reasons = NoSuchFile ∷ NoPermission ∷ IsFolder ∷ NotValid ∷ InUse ∷ NoSuchAddress ∷ Reset ∷ Silent ∷ NoSpace ∷ NoReader ∷ OutOfMemory ∷ Other ∷ []
