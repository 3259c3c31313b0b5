use Rattle.std.proofs.Common.{sym, ◌∙◌, arith, refl}
use Rattle.network_prefixes.proofs.Words.{length_read, number_read, only_one, same_bits}
use Rattle.std.proofs.lemmas.Bool.{false≢true}
use Rattle.network_prefixes.proofs.prefix.cut_address.Goals as goal

pub returns-in_default-clause-parsed : goal.returns-in_default-clause-parsed
returns-in_default-clause-parsed c p spelled = c.in_default.ensures p.address spelled.address

pub returns-in_default-clause-bits_after : goal.returns-in_default-clause-bits_after
returns-in_default-clause-bits_after c = ((λ same. cc), (λ h. absurd (c.in_default.ensures h.address h.spelled)))

pub returns-in_default-length_in-clause-parsed : goal.returns-in_default-length_in-clause-parsed
returns-in_default-length_in-clause-parsed c p spelled = length_read _ _ p c.in_default-length_in.ensures spelled

pub returns-in_default-length_in-clause-bits_after : goal.returns-in_default-length_in-clause-bits_after
returns-in_default-length_in-clause-bits_after c = ((λ same. cc), (λ h. absurd (number_read _ _ c.in_default-length_in.ensures h)))

pub returns-then-length-address-clause-parsed : goal.returns-then-length-address-clause-parsed
returns-then-length-address-clause-parsed c p spelled =
    let one = only_one _ _ c.in-Ok.address c.in-Some.length p c.in-Ok.ensures c.in-Some.ensures (omega arith) spelled in
    omega (arith, one.0)

pub returns-then-length-address-clause-bits_after : goal.returns-then-length-address-clause-bits_after
returns-then-length-address-clause-bits_after c = (
  (λ same. cc),
  (λ h. let one = same_bits _ _ c.in-Ok.address c.in-Some.length c.in-Ok.ensures c.in-Some.ensures (omega arith) h in absurd (omega (arith, one.0))),
)

pub returns-then-not-ends_behind-clause-parsed : goal.returns-then-not-ends_behind-clause-parsed
returns-then-not-ends_behind-clause-parsed c p spelled =
    let one = only_one _ _ c.in-Ok.address c.in-Some.length p c.in-Ok.ensures c.in-Some.ensures (omega arith) spelled in
    false≢true (sym c.if-not-ends_behind.true ∙ c.ends_behind.ensures.1 one.1)

pub returns-then-not-ends_behind-clause-bits_after : goal.returns-then-not-ends_behind-clause-bits_after
returns-then-not-ends_behind-clause-bits_after c = (
  (λ same. record {
    address = c.in-Ok.address;
    length = c.in-Some.length;
    spelled = c.in-Ok.ensures;
    number = c.in-Some.ensures;
    within = omega arith;
    others = λ ends. false≢true (sym c.if-not-ends_behind.true ∙ c.ends_behind.ensures.1 ends);
  }),
  (λ h. refl),
)

pub returns-clause-bits_after : goal.returns-clause-bits_after
returns-clause-bits_after c = (
  (λ same. cc),
  (λ h. let one = same_bits _ _ c.in-Ok.address c.in-Some.length c.in-Ok.ensures c.in-Some.ensures (omega arith) h in
      absurd (one.1 (c.ends_behind.ensures.0 c.if-not-ends_behind.false))),
)
