-- Which file of a peer's datagrams a later run goes on after.
use Rattle.std.specs.Prelude.{◌≡◌, ℕ, Bool, true, false, is_none, if◌then◌else◌, unwrap_or, List, [], ◌∷◌, Option, Some, None, All}
use Rattle.std.specs.List.{Contains}
use Rattle.std.specs.Ordering.{nat_cmp}
use Rattle.std.specs.Cmp.Lexicographic.{slice_cmp}
use Rattle.std.specs.declared.cmp.Ordering.TheVariants.{Less}
use Rattle.recording_resumption.specs.declared.earlier_session.EarlierSession.{EarlierSession}
use Rattle.recording_folder.specs.declared.peer_files.NamedFile.{NamedFile}
use Rattle.recording_names.specs.declared.transport.Transport.{Transport}
use Rattle.recording_names.specs.declared.transport.Transport.TheVariants.{Connection, Datagrams}

abbrev pub is_of_datagrams : Transport → Bool
is_of_datagrams Connection = false
is_of_datagrams Datagrams = true

-- how late a file is: one that isn't finished comes last, and else what counts is its period, then its session's number, and
-- then the number in its name
abbrev pub rank : NamedFile → List ℕ
rank f = (if is_none f.copy then 1 else 0) ∷ f.period.begins ∷ f.session.number ∷ unwrap_or f.copy 0 ∷ []

abbrev pub IsLater : NamedFile → NamedFile → Type 0
IsLater f g = slice_cmp nat_cmp (rank g) (rank f) ≡ Less

-- a file that was noted, and what it has
pub record Note : Type 0 where
  pub file : NamedFile
  pub session : EarlierSession

-- the last of those files that pass, if there are any: none of them is later
abbrev pub IsLastOf : (Note → Bool) → List Note → Option Note → Type 0
IsLastOf passes notes None = All (λ n. passes n ≡ false) notes
IsLastOf passes notes (Some last) = Contains notes last × (passes last ≡ true) × All (λ n. passes n ≡ true → ¬ IsLater n.file last.file) notes
