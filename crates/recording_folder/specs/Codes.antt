-- Codes of the system's errors.
use Rattle.std.specs.Prelude.{◌≡◌, ℤ, Some}
use Rattle.std.specs.IoError.{raw_os_error}
use Rattle.std.specs.declared.io.Error.{Error}

-- it is an error of the system with this code
abbrev pub HasCode : ℤ → Error → Type 0
HasCode code error = raw_os_error error ≡ Some code
