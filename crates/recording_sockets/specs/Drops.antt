-- How many datagrams of a socket were dropped, in the text that Linux has of its UDP sockets (/proc/net/udp): a line for each of them.
use Rattle.std.specs.Prelude.{◌≡◌, ℕ, ◌==◌, Bool, true, false, bytes_eq, List, Option, Some, None, length, filter, find, slice_get, decimal, if◌then◌else◌}
use Rattle.std.specs.List.{slice_split}
use Rattle.std.specs.Str.Lines.{lines}

-- the words of a line, between which there are spaces
abbrev pub is_word : List ℕ → Bool
is_word part = if length part == 0 then false else true

abbrev pub words : List ℕ → List (List ℕ)
words line = filter is_word (slice_split (λ octet. octet == 32) line)

abbrev pub equals : List ℕ → Option (List ℕ) → Bool
equals text None = false
equals text (Some word) = bytes_eq word text

-- the tenth word of a line is the inode of the socket
abbrev pub is_of : List ℕ → List ℕ → Bool
is_of inode line = equals inode (slice_get (words line) 9)

-- the first line of the socket says in its thirteenth word that so many were dropped
pub record SaysDropped (text : List ℕ) (inode dropped : ℕ) : Type 0 where
  pub line : List ℕ
  pub first : find (is_of (decimal inode)) (lines text) ≡ Some line
  pub says : slice_get (words line) 12 ≡ Some (decimal dropped)
