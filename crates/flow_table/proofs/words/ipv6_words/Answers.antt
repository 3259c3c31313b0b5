use Rattle.std.proofs.Common.{◌≡◌, ◌<◌, ℕ, length, get_or, refl, rules}
use Rattle.flow_table.proofs.WordSteps.{sixteen}
use Rattle.flow_table.proofs.words.ipv6_words.Goals as goal

pub returns : goal.returns
returns c =
    let small : (i : ℕ) → get_or c.args.address.now i 0 < 256 = search rules in
    let long : length c.args.address.now ≡ 16 = search rules in
    record {
      are = rw c.from_be_bytes-number.ensures (sixteen c.args.address.now long small);
      short = refl;
    }
