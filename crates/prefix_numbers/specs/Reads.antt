-- What reading lines gives.
use Rattle.std.specs.Prelude.{ℕ, List, Result, Ok, Err, Vec}
use Rattle.std.specs.declared.alloc.Global.{Global}
use Rattle.prefix_numbers.specs.declared.error.MapError.{MapError}
use Rattle.prefix_numbers.specs.declared.error.MapFault.{MapFault}
use Rattle.prefix_numbers.specs.declared.error.MapFault.TheVariants.{OutOfMemory}
use Rattle.prefix_numbers.specs.declared.row.NumberedPrefix.{NumberedPrefix}
use Rattle.prefix_numbers.specs.Texts.{AreRows, IsFirstFault}

-- the first fault, unless memory ran out
abbrev pub IsFirstOrMemory : MapFault → List (List ℕ) → MapError → Type 0
IsFirstOrMemory OutOfMemory lines e = Unit {0}
IsFirstOrMemory fault lines e = IsFirstFault lines e.line e.fault

-- the rows of some lines, or the first fault
abbrev pub ReadsLines : List (List ℕ) → Result (Vec NumberedPrefix Global) MapError → Type 0
ReadsLines lines (Ok rows) = AreRows lines rows.items
ReadsLines lines (Err e) = IsFirstOrMemory e.fault lines e
