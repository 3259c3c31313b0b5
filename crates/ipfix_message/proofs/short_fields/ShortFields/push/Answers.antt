use Rattle.std.proofs.Common.{ℕ, ◌+◌, ◌-◌, ◌++◌, take, length, refl, ap, ◌∙◌, arith, inl, List}
use Rattle.std.proofs.lemmas.List.{take_more_set}
use Rattle.std.proofs.lemmas.Slice.{take-put_mid}
use Rattle.ipfix_wire.specs.declared.specifier.Spec.{Spec}
use Rattle.ipfix_message.proofs.SpelledFields.{pushed}
use Rattle.ipfix_message.proofs.short_fields.ShortFields.push.Goals as goal

pub invariant_of-self : goal.invariant_of-self
invariant_of-self c =
    let s = c.self.inside in
    let v = c.args.octets.now in
    let spec : Spec = record { element = c.args.element; width = length v } in
    let specs = take_more_set s.specs s.fields spec (omega arith) in
    let octets = take-put_mid s.used (s.used + length v - s.used) s.octets c.copy_from_slice.new.self (s.used + length v) (omega arith) (omega arith) ∙ ap (λ (t : List ℕ). take s.used s.octets ++ t) c.copy_from_slice.ensures.after in
    let both = pushed (take s.fields s.specs) (take s.used s.octets) c.args.element v v c.self.invariant.2 (inl (omega arith, refl, refl)) in
    (omega arith, omega arith, rw (specs, octets) both.spelled)

pub returns-clause-room : goal.returns-clause-room
returns-clause-room c = λ _.
    let s = c.self.inside in
    let v = c.args.octets.now in
    let spec : Spec = record { element = c.args.element; width = length v } in
    let specs = take_more_set s.specs s.fields spec (omega arith) in
    let octets = take-put_mid s.used (s.used + length v - s.used) s.octets c.copy_from_slice.new.self (s.used + length v) (omega arith) (omega arith) ∙ ap (λ (t : List ℕ). take s.used s.octets ++ t) c.copy_from_slice.ensures.after in
    let both = pushed (take s.fields s.specs) (take s.used s.octets) c.args.element v v c.self.invariant.2 (inl (omega arith, refl, refl)) in
    rw (specs, octets, ← c.self.view_is) both.is
