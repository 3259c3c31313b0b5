-- What is read of the texts of dates and times.
use Rattle.std.specs.Prelude.{◌≡◌, ◌≢◌, ◌<◌, ℕ, Option, List, ◌++◌, MatchOption}
use Rattle.std.specs.Borrow.{Bor}
use Rattle.recording_names.specs.PeriodNames.{two_digits}

-- what has the form was read, or nothing has it
abbrev pub Reads : {X : Type 0} → (X → Type 0) → Option X → Type 0
Reads {X} HasForm read = MatchOption read ((x : X) → ¬ HasForm x) HasForm

-- a number of four digits, and two of two
abbrev pub HaveDigits : ℕ → ℕ → ℕ → Type 0
HaveDigits year month day = (year < 10_000) × (month < 100) × (day < 100)

-- the number of the two digits that come after this front, and what follows them; or no two digits come there
abbrev pub ReadsPair : List ℕ → List ℕ → Option (ℕ × Bor (List ℕ)) → Type 0
ReadsPair front text read =
    MatchOption read ((number : ℕ) (rest : List ℕ) → number < 100 → text ≢ front ++ two_digits number ++ rest)
    (λ r. (r.0 < 100) × (text ≡ front ++ two_digits r.0 ++ r.1.now))
