use Rattle.std.proofs.Common.{◌≡◌, [], ◌∷◌, List, length, sym, ap, ◌∙◌, subst, rules}
use Rattle.ipfix_wire.specs.declared.specifier.Spec.{Spec}
use Rattle.ipfix_message.specs.SpelledFields.{BeginsWithFields, fields_in}
use Rattle.ipfix_message.specs.declared.fault.MessageFault.TheVariants.{RecordCut}
use Rattle.ipfix_message.proofs.SpelledFields.{no_specs, no_fields, first_field, not_cut}
use Rattle.ipfix_message.proofs.field_run.FieldRunIterator.next.Goals as goal

pub returns-in_err-spec-clause-steps : goal.returns-in_err-spec-clause-steps
returns-in_err-spec-clause-steps c =
    let zero : length c.self.inside.specs.now ≡ 0 = search rules in
    let none : c.self.inside.specs.now ≡ [] = no_specs c.self.inside.specs.now zero in
    let empty : c.args.self.now ≡ [] = sym c.self.view_is ∙ ap (λ (ss : List Spec). fields_in ss c.self.inside.octets.now) none ∙ (no_fields c.self.inside.octets.now).1 in
    rw c.from_residual.ensures (empty, empty)

pub returns-in_err-octets-clause-steps : goal.returns-in_err-octets-clause-steps
returns-in_err-octets-clause-steps c =
    let split : c.self.inside.specs.now ≡ c.in_ok-spec.spec.now ∷ c.in_ok-spec.specs.now = search rules in
    let begins = subst (λ (ss : List Spec). BeginsWithFields ss c.self.inside.octets.now) split c.self.invariant in
    absurd (not_cut c.in_ok-spec.spec.now c.in_ok-spec.specs.now c.self.inside.octets.now RecordCut begins c.in_err-octets.ensures.gives)

pub invariant_of-self : goal.invariant_of-self
invariant_of-self c =
    let split : c.self.inside.specs.now ≡ c.in_ok-spec.spec.now ∷ c.in_ok-spec.specs.now = search rules in
    let begins = subst (λ (ss : List Spec). BeginsWithFields ss c.self.inside.octets.now) split c.self.invariant in
    (first_field c.in_ok-spec.spec.now c.in_ok-spec.specs.now c.self.inside.octets.now c.in_ok-octets.octets.now c.in_ok-octets.rest.now begins c.in_ok-octets.ensures.gives).others

pub returns-clause-steps : goal.returns-clause-steps
returns-clause-steps c =
    let split : c.self.inside.specs.now ≡ c.in_ok-spec.spec.now ∷ c.in_ok-spec.specs.now = search rules in
    let begins = subst (λ (ss : List Spec). BeginsWithFields ss c.self.inside.octets.now) split c.self.invariant in
    sym c.self.view_is ∙ ap (λ (ss : List Spec). fields_in ss c.self.inside.octets.now) split
    ∙ (first_field c.in_ok-spec.spec.now c.in_ok-spec.specs.now c.self.inside.octets.now c.in_ok-octets.octets.now c.in_ok-octets.rest.now begins c.in_ok-octets.ensures.gives).is

pub returns-clause-goes : goal.returns-clause-goes
returns-clause-goes c =
    let split : c.self.inside.specs.now ≡ c.in_ok-spec.spec.now ∷ c.in_ok-spec.specs.now = search rules in
    let begins = subst (λ (ss : List Spec). BeginsWithFields ss c.self.inside.octets.now) split c.self.invariant in
    let steps : c.args.self.now ≡ record { element = c.in_ok-spec.spec.now.element; octets = c.in_ok-octets.octets.now } ∷ fields_in c.in_ok-spec.specs.now c.in_ok-octets.rest.now =
    sym c.self.view_is ∙ ap (λ (ss : List Spec). fields_in ss c.self.inside.octets.now) split
    ∙ (first_field c.in_ok-spec.spec.now c.in_ok-spec.specs.now c.self.inside.octets.now c.in_ok-octets.octets.now c.in_ok-octets.rest.now begins c.in_ok-octets.ensures.gives).is in
    search (rules, steps)
