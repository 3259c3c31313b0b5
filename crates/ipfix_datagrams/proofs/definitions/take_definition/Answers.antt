use Rattle.std.proofs.Common.{◌≡◌, ℕ, Some, None, cond, eqb, refl, rules}
use Rattle.std.specs.Option.{option_or}
use Rattle.std.specs.Ordering.{nat_cmp}
use Rattle.std.specs.BTreeMap.{get}
use Rattle.ipfix_datagrams.proofs.FirstAndLast.{defines_one}
use Rattle.ipfix_datagrams.proofs.definitions.take_definition.Goals as goal

pub returns-clause-defines : goal.returns-clause-defines
returns-clause-defines c = λ es before.
    let t = c.args.definition in
    let d = c.args.all.now in
    let firsts : (q : ℕ) → get nat_cmp c.put_first.new.first q ≡ option_or (get nat_cmp d.first q) (cond (eqb q t.id) (Some t) None) = λ q. search rules in
    let lasts : (q : ℕ) → get nat_cmp c.insert.new.self q ≡ cond (eqb q t.id) (Some t) (get nat_cmp d.last q) = λ q. search rules in
    defines_one d _ es t before firsts lasts refl
