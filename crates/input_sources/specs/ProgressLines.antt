-- The line that says what a session has read.
use Rattle.std.specs.Prelude.{ℕ, ◌*◌, ◌/◌, min, List, ◌++◌, codes, decimal, Option, Some, None, OnOk, Result}
use Rattle.std.specs.Io.KnownBytes.{Appends}

-- on Ok this line was written after what was there, and nothing else
abbrev pub Writes : {W A E : Type 0} → (W → Option (List ℕ)) → W → W → Result A E → List ℕ → Type 0
Writes contents old new result line = OnOk result (Appends (contents old) (contents new) line)

-- at the end of a line
abbrev pub message_count : ℕ → List ℕ
message_count messages = codes ", " ++ (decimal messages ++ codes " messages\n")

-- what a session has read, in octets and in messages
unfoldable pub read_line : ℕ → ℕ → ℕ → List ℕ
read_line session read messages =
    codes "collectd: session " ++ (decimal session ++ (codes ": read " ++ (decimal read ++ (codes " octets" ++ message_count messages))))

-- and of how many octets, in percent
unfoldable pub share_line : ℕ → ℕ → ℕ → ℕ → ℕ → List ℕ
share_line session read size percent messages =
    codes "collectd: session " ++ (decimal session ++ (codes ": read " ++ (decimal read ++ (codes " of " ++ (decimal size ++ (codes " octets (" ++ (decimal percent ++ (codes "%)" ++ message_count messages))))))))

-- the whole percents of a size that were read, at most 100
abbrev pub percent_of : ℕ → ℕ → ℕ
percent_of read size = min 100 (100 * read / size)

abbrev pub progress_line : ℕ → ℕ → ℕ → Option ℕ → List ℕ
progress_line session read messages None = read_line session read messages
progress_line session read messages (Some size) = share_line session read size (percent_of read size) messages
