-- Files that are left out of the table of a period.
use Rattle.std.specs.Prelude.{◌≡◌, ℕ, zero, suc, nat_eq, nat_lt, Bool, List, [], ◌∷◌, ◌++◌, codes, length, map, slice_index_or, string_bytes, Option, None, Some, if◌then◌else◌}
use Rattle.std.specs.Borrow.{Bor}
use Rattle.std.specs.List.{flat_map, list_any}
use Rattle.std.specs.declared.alloc.Global.{Global}
use Rattle.std.specs.declared.string.String.{String}
use Rattle.ipfix_message.specs.declared.record.DataRecord.{DataRecord}
use Rattle.flow_table.specs.Plans.{PlanValue}
use Rattle.largest_sessions.specs.LeftOut.{AreLeftOut}
use Rattle.largest_sessions.specs.SessionNumbers.{by_records, numbers_of_plan}
use Rattle.period_collect.specs.Paths.{texts_of}

-- the line about one, and the lines about several
unfoldable pub left_out_line : List ℕ → List ℕ
left_out_line path = codes "collectd: tables: left out, since a sum was 2^64 or more: " ++ (path ++ codes "\n")

abbrev pub left_out_lines : List (List ℕ) → List ℕ
left_out_lines paths = flat_map left_out_line paths

-- the line about one that has the same octets as another
unfoldable pub same_line : List ℕ → List ℕ → List ℕ
same_line other path = codes "collectd: tables: left out, since its octets are those of " ++ (other ++ (codes ": " ++ (path ++ codes "\n")))

-- ---- by their places

-- a place is one of these
abbrev pub is_among : List ℕ → ℕ → Bool
is_among out place = list_any (λ other. nat_eq other place) out

-- the paths that are at none of these places, counted from one on
abbrev pub kept_from : ℕ → List ℕ → List (List ℕ) → List (List ℕ)
kept_from place out [] = []
kept_from place out (path ∷ paths) = if is_among out place then kept_from (suc place) out paths else path ∷ kept_from (suc place) out paths

abbrev pub kept_of : List ℕ → List (List ℕ) → List (List ℕ)
kept_of out paths = kept_from 0 out paths

-- the paths at these places
abbrev pub paths_at : List ℕ → List (List ℕ) → List (List ℕ)
paths_at out paths = map (λ place. slice_index_or paths place []) out

abbrev pub texts_at : List ℕ → List (Bor (List ℕ)) → List (List ℕ)
texts_at out words = paths_at out (texts_of words)

abbrev pub AreTextsAt : List ℕ → List (Bor (List ℕ)) → List (String Global) → Type 0
AreTextsAt out words names = map string_bytes names ≡ texts_at out words

-- the places of these numbers, counted from 0, among some
abbrev pub places_at : List ℕ → List ℕ → List ℕ
places_at places numbers = map (λ i. slice_index_or places i 0) numbers

-- the places below so many that are none of these, and one of them by its number from 0
abbrev pub places_kept : List ℕ → ℕ → List ℕ
places_kept out zero = []
places_kept out (suc n) = places_kept out n ++ (if is_among out n then [] else n ∷ [])

abbrev pub kept_place : List ℕ → ℕ → ℕ → ℕ
kept_place out n at = slice_index_or (places_kept out n) at 0

-- some are left out
abbrev pub has_any : List ℕ → Bool
has_any out = nat_lt 0 (length out)

-- ---- which are left out

-- the records of a file that was collected by itself, if no sum of them is too large
abbrev pub Alone : Type 0
Alone = Option (List DataRecord)

-- the records of those of which no sum is too large
abbrev pub lists_of : List Alone → List (List DataRecord)
lists_of [] = []
lists_of (None ∷ alone) = lists_of alone
lists_of (Some rs ∷ alone) = rs ∷ lists_of alone

-- the places of these, and of the others, counted from one on
abbrev pub places_with : ℕ → List Alone → List ℕ
places_with place [] = []
places_with place (None ∷ alone) = places_with (suc place) alone
places_with place (Some rs ∷ alone) = place ∷ places_with (suc place) alone

abbrev pub places_without : ℕ → List Alone → List ℕ
places_without place [] = []
places_without place (None ∷ alone) = place ∷ places_without (suc place) alone
places_without place (Some rs ∷ alone) = places_without (suc place) alone

-- first those of which a sum is too large by itself; then, of the others, those that are left out of all of these
pub record AreFilesLeftOut (plan : PlanValue) (alone : List Alone) (out : List ℕ) : Type 0 where
  pub others : List ℕ
  pub are_others : AreLeftOut (numbers_of_plan plan) (map (by_records plan) (lists_of alone)) others
  pub are : out ≡ places_without 0 alone ++ places_at (places_with 0 alone) others
