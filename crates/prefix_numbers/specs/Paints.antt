-- Numbers beside the starts of steps, after those of a row are written.
use Rattle.std.specs.Prelude.{◌≡◌, ℕ, ◌<◌, ◌^◌, ◌&&◌, nat_le, nat_lt, Bool, List, length, slice_index, if◌then◌else◌}
use Rattle.std.specs.List.{prefix_len}
use Rattle.network_prefixes.specs.declared.prefix.Prefix.{Prefix}
use Rattle.prefix_numbers.specs.declared.row.NumberedPrefix.{NumberedPrefix}
use Rattle.prefix_numbers.specs.Spans.{end_of}

-- the number is from the first to before the end
abbrev pub is_within : ℕ → ℕ → ℕ → Bool
is_within first end n = nat_le first n && nat_lt n end

-- the places from the first to before the end have the number, and others what they had
abbrev pub IsFilled : ℕ → ℕ → ℕ → List ℕ → List ℕ → Type 0
IsFilled first end number old new = (k : ℕ) → k < length old → slice_index new k ≡ (if is_within first end k then number else slice_index old k)

-- how many starts are before the end of a prefix
abbrev pub end_place : List ℕ → Prefix → ℕ
end_place starts p = if nat_lt (end_of p) (2 ^ 128) then prefix_len (λ start. nat_lt start (end_of p)) starts else length starts

-- the starts from the row's first address to before its end have its number, and others what they had
abbrev pub IsPainted : List ℕ → NumberedPrefix → List ℕ → List ℕ → Type 0
IsPainted starts row old new =
    (k : ℕ) → k < length starts → slice_index starts k < 2 ^ 128
    → slice_index new k ≡ (if is_within row.prefix.address.bits (end_of row.prefix) (slice_index starts k) then row.number else slice_index old k)
