-- How long the lines of progress are at most.
use Rattle.std.proofs.Common.{◌≡◌, ℕ, ◌+◌, ◌<◌, ◌≤◌, ◌^◌, length, Option, Some, None, arith, length-append}
use Rattle.std.proofs.lemmas.Fmt.{length-decimal-le}
use Rattle.std.specs.Prelude.{IfSome, decimal}
use Rattle.input_sources.specs.ProgressLines.{percent_of, progress_line, read_line, share_line}

-- a number of 64 bits has 20 digits at most
digits : (n : ℕ) → n < 2 ^ 64 → length (decimal n) ≤ 20
digits n less = length-decimal-le 20 n (omega arith) (omega arith) less

percent_digits : (read size : ℕ) → length (decimal (percent_of read size)) ≤ 3
percent_digits read size = length-decimal-le 3 (percent_of read size) (omega arith) (omega arith) (omega arith)

-- the texts between the numbers
read_line-length : (session read messages : ℕ) → length (read_line session read messages) ≡ length (decimal session) + length (decimal read) + length (decimal messages) + 44
unfolding read_line
read_line-length session read messages = grind (arith, length-append)

share_line-length : (session read size percent messages : ℕ)
    → length (share_line session read size percent messages) ≡ length (decimal session) + length (decimal read) + length (decimal size) + length (decimal percent) + length (decimal messages) + 52
unfolding share_line
share_line-length session read size percent messages = grind (arith, length-append)

pub each_line : (session read messages : ℕ) (size : Option ℕ) → session < 2 ^ 64 → read < 2 ^ 64 → messages < 2 ^ 64 → IfSome size (λ octets. octets < 2 ^ 64)
    → length (progress_line session read messages size) ≤ 160
each_line session read messages None s r m z =
    let ds = digits session s in
    let dr = digits read r in
    let dm = digits messages m in
    omega (arith, read_line-length session read messages, ds, dr, dm)
each_line session read messages (Some size) s r m z =
    let ds = digits session s in
    let dr = digits read r in
    let dm = digits messages m in
    let dz = digits size z in
    let dp = percent_digits read size in
    omega (arith, share_line-length session read size (percent_of read size) messages, ds, dr, dm, dz, dp)
