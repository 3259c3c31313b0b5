use Rattle.std.proofs.Common.{◌≡◌, List, ℕ, length, subst, arith, w64, rules}
use Rattle.std.specs.Int.{from_be_bytes}
use Rattle.std.proofs.lemmas.Nat.{be_bytes_8}
use Rattle.flow_merge.proofs.field_reading.read_full_number.Goals as goal

pub returns-clause-some : goal.returns-clause-some
returns-clause-some c =
    let same : c.in_ok-octets.octets ≡ c.args.octets.now = search rules in
    let eight : length c.args.octets.now ≡ 8 = search rules in
    let is : c.from_be_bytes.result ≡ from_be_bytes w64 c.args.octets.now = subst (λ (bs : List ℕ). c.from_be_bytes.result ≡ from_be_bytes w64 bs) same c.from_be_bytes.ensures in
    be_bytes_8 c.args.octets.now c.from_be_bytes.result eight (λ i. omega (arith, c.type_inv.octets i)) is
