-- Why a folder could not be opened.
use Rattle.std.specs.declared.fs.TryLockError.{TryLockError}
use Rattle.std.specs.declared.fs.TryLockError.TheVariants as lock
use Rattle.recording_folder.specs.declared.folder.FolderFault.{FolderFault}
use Rattle.recording_folder.specs.declared.folder.FolderFault.TheVariants.{InUse, NotHad}

-- another run has the lock, or the reason is the error of the call that asked for it
abbrev pub fault_of_lock : TryLockError → FolderFault
fault_of_lock lock.WouldBlock = InUse
fault_of_lock (lock.Error error) = NotHad error
