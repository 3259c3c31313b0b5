-- A key that was projected to its prefixes is the same when it is projected again.
use Rattle.std.proofs.Common.{◌≡◌, ℕ, zero, suc, ◌+◌, ◌-◌, ◌*◌, ◌/◌, ◌%◌, ◌^◌, ◌<◌, List, [], ◌∷◌, length, Option, Some, None, refl, sym, ap, subst, ◌∙◌, option_map, option_and_then, add-zero, arith}
use Rattle.std.specs.Int.{byte_at, bytes_high_first}
use Rattle.std.proofs.Math.Nat.{div-add-mod', div-one, mul-add-div_right, mul-add-mod_self_right, mul-div_cancel, mul-mod_left, mul_assoc, one-le-pow, pow-succ'}
use Rattle.std.proofs.lemmas.Nat.{mod-pow-add}
use Rattle.std.proofs.lemmas.Option.{option_and_then_some}
use Rattle.byteorder.specs.Endian.{big_bytes, big_number}
use Rattle.byteorder.specs.Numbers.{big_from-bytes}
use Rattle.ipfix_elements.proofs.Lookups.{mapped}
use Rattle.ipfix_elements.specs.declared.kind.Kind.{Kind}
use Rattle.ipfix_elements.specs.Prefixes.{masked}
use Rattle.ipfix_elements.specs.Values.{cell_in}
use Rattle.ipfix_elements.specs.declared.cell.Cell.{Cell}
use Rattle.ipfix_elements.specs.declared.cell.Cell.TheVariants.{Number, Ipv4, Ipv6, Mac}
use Rattle.ipfix_message.specs.Fields.{octets_of}
use Rattle.ipfix_message.specs.declared.record.DataRecord.{DataRecord}
use Rattle.flow_table.specs.declared.key.Key.{Key}
use Rattle.flow_table.specs.Networks.{masked_ipv6}
use Rattle.flow_table.specs.Reading.{projected, cell_of, cells_of}
use Rattle.flow_merge.specs.RowRecords.{AreProjected}

-- ---- an address

byte_is : (k x : ℕ) → byte_at k x ≡ x / 256 ^ k % 256
byte_is zero x = ap (λ (y : ℕ). y % 256) (sym (div-one x))
byte_is (suc k) x = refl

-- the lowest octets of a number are those of what is below their place
bytes_below : (n q x : ℕ) → bytes_high_first n (q * 256 ^ n + x) ≡ bytes_high_first n x
bytes_below zero q x = refl
bytes_below (suc n) q x =
    let positive : 0 < 256 ^ n = one-le-pow n 256 (omega arith) in
    let moved : q * 256 ^ suc n + x ≡ q * 256 * 256 ^ n + x = ap (λ (p : ℕ). q * p + x) (pow-succ' 256 n) ∙ ap (λ (m : ℕ). m + x) (sym (mul_assoc q 256 (256 ^ n))) in
    let first : byte_at n (q * 256 * 256 ^ n + x) ≡ byte_at n x =
    byte_is n (q * 256 * 256 ^ n + x) ∙ ap (λ (m : ℕ). m % 256) (mul-add-div_right positive (q * 256) x) ∙ mul-add-mod_self_right q 256 (x / 256 ^ n) ∙ sym (byte_is n x) in
    rw (moved, first, bytes_below n (q * 256) x) refl

-- a multiple of a power of 2 is one below a higher power, too
cut_multiple : (m k j : ℕ) → m * 2 ^ k % 2 ^ (j + k) / 2 ^ k * 2 ^ k ≡ m * 2 ^ k % 2 ^ (j + k)
cut_multiple m k j =
    let p = 2 ^ k in
    let positive : 0 < p = one-le-pow k 2 (omega arith) in
    let times = m * p / p % 2 ^ j in
    let is : m * p % 2 ^ (j + k) ≡ times * p = mod-pow-add (m * p) j k ∙ ap (λ (r : ℕ). times * p + r) (mul-mod_left m p) ∙ add-zero (times * p) in
    ap (λ (n : ℕ). n / p * p) is ∙ ap (λ (n : ℕ). n * p) (mul-div_cancel times positive) ∙ sym is

masked_kept : (w x k j : ℕ) → 2 ^ (j + k) ≡ 256 ^ w → big_bytes w (x / 2 ^ k * 2 ^ k % 256 ^ w / 2 ^ k * 2 ^ k) ≡ big_bytes w (x / 2 ^ k * 2 ^ k)
masked_kept w x k j square =
    let n = x / 2 ^ k * 2 ^ k in
    let cut : n % 256 ^ w / 2 ^ k * 2 ^ k ≡ n % 256 ^ w = subst (λ (s : ℕ). n % s / 2 ^ k * 2 ^ k ≡ n % s) square (cut_multiple (x / 2 ^ k) k j) in
    ap (big_bytes w) cut ∙ sym (bytes_below w (n / 256 ^ w) (n % 256 ^ w)) ∙ ap (big_bytes w) (div-add-mod' n (256 ^ w))

masked_again : (address : List ℕ) (bits : ℕ) → masked (masked address bits) bits ≡ masked address bits
masked_again address bits =
    let k = 32 - bits in
    let n = big_number 4 address in
    let sum : 32 - k + k ≡ 32 = omega arith in
    ap (λ (m : ℕ). big_bytes 4 (m / 2 ^ k * 2 ^ k)) (big_from-bytes 4 (n / 2 ^ k * 2 ^ k) []) ∙ masked_kept 4 n k (32 - k) (ap (λ (w : ℕ). 2 ^ w) sum)

masked_ipv6_again : (address : List ℕ) (bits : ℕ) → masked_ipv6 (masked_ipv6 address bits) bits ≡ masked_ipv6 address bits
masked_ipv6_again address bits =
    let k = 128 - bits in
    let n = big_number 16 address in
    let sum : 128 - k + k ≡ 128 = omega arith in
    ap (λ (m : ℕ). big_bytes 16 (m / 2 ^ k * 2 ^ k)) (big_from-bytes 16 (n / 2 ^ k * 2 ^ k) []) ∙ masked_kept 16 n k (128 - k) (ap (λ (w : ℕ). 2 ^ w) sum)

projected_again : (prefix : Option ℕ) (cell : Cell) → projected prefix (projected prefix cell) ≡ projected prefix cell
projected_again None cell = refl
projected_again (Some bits) (Number n) = refl
projected_again (Some bits) (Ipv4 address) = ap (λ (a : List ℕ). Ipv4 a) (masked_again address bits)
projected_again (Some bits) (Ipv6 address) = ap (λ (a : List ℕ). Ipv6 a) (masked_ipv6_again address bits)
projected_again (Some bits) (Mac address) = refl

-- ---- a key

cell_projected : (key : Key) (kind : Kind) (r : DataRecord) (cell : Cell) → cell_of key kind r ≡ Some cell → projected key.prefix cell ≡ cell
unfolding cell_of
cell_projected key kind r cell is =
    let whole = mapped (projected key.prefix) (option_and_then (cell_in kind) (octets_of key.element r.fields)) cell is in
    subst (λ (c : Cell). projected key.prefix c ≡ c) whole.2 (projected_again key.prefix whole.0)

pub cells_projected : (keys : List Key) (kinds : List Kind) (r : DataRecord) (cells : List Cell) → length kinds ≡ length keys → cells_of keys kinds r ≡ Some cells → AreProjected keys cells
cells_projected [] kinds r cells beside is = let none : [] ≡ cells = cc in subst (AreProjected []) none tt
cells_projected (key ∷ keys) [] r cells beside is = absurd (omega (arith, beside))
cells_projected (key ∷ keys) (kind ∷ kinds) r cells beside is =
    option_and_then_some (λ cell. option_map (λ others. cell ∷ others) (cells_of keys kinds r)) (cell_of key kind r) cells is (λ cell first rest.
    let others = mapped (λ (cs : List Cell). cell ∷ cs) (cells_of keys kinds r) cells rest in
    subst (AreProjected (key ∷ keys)) others.2 (cell_projected key kind r cell first, cells_projected keys kinds r others.0 (omega (arith, beside)) others.1))
