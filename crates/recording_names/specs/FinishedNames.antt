-- The names of finished files.
use Rattle.std.specs.Prelude.{ℕ, ◌≡◌, ◌<◌, ◌^◌, ◌==◌, if◌then◌else◌, List, ◌++◌, codes, decimal}
use Rattle.recording_names.specs.SessionNames.{AreInRange, SessionParts, text_of}

-- what follows the first dot after a session's name: a number, where others were there already, and the ending
abbrev pub copy_text : ℕ → List ℕ
copy_text copy = if copy == 1 then codes "ipfix" else decimal copy ++ codes ".ipfix"

-- a session's name, and that after a dot
abbrev pub name_of_finished : List ℕ → ℕ → List ℕ
name_of_finished session copy = session ++ (codes "." ++ copy_text copy)

-- a number that a finished file can have: 64 bits, and never 0
abbrev pub IsCopy : ℕ → Type 0
IsCopy copy = (0 < copy) × (copy < 2 ^ 64)

-- the name of a finished file of that session
abbrev pub finished_text : SessionParts → ℕ → List ℕ
finished_text s copy = name_of_finished (text_of s) copy

-- the name of a finished file of some session
pub record IsFinishedName (name : List ℕ) : Type 0 where
  pub session : SessionParts
  pub copy : ℕ
  pub in_range : AreInRange session
  pub is_copy : IsCopy copy
  pub named : name ≡ finished_text session copy
