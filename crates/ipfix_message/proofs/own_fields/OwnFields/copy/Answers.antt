use Rattle.std.proofs.Common.{◌≡◌, [], ◌∷◌, ◌++◌, List, sym, ap, subst, ◌∙◌, append_assoc}
use Rattle.std.specs.Prelude.{All}
use Rattle.std.proofs.lemmas.List.Elements.{All-tail}
use Rattle.ipfix_message.specs.Fields.{Field}
use Rattle.ipfix_message.specs.FieldViews.{field_of}
use Rattle.ipfix_message.specs.SpelledFields.{IsShort}
use Rattle.ipfix_message.proofs.own_fields.OwnFields.copy.Goals as goal

pub loop-field-preserved : goal.loop-field-preserved
loop-field-preserved c =
    let own = c.loop-field.own in
    let field = field_of c.in-Some.field in
    let rest = c.next.new.self in
    let steps : c.loop-field.field-iterator ≡ field ∷ rest = c.in-Some.ensures.steps in
    record {
      copied = ap (λ (fs : List Field). fs ++ rest) c.in_ok-push.ensures.ok ∙ append_assoc own (field ∷ []) rest ∙ ap (λ (fs : List Field). own ++ fs) (sym steps) ∙ c.loop-field.invariant.copied;
      short = All-tail IsShort field rest (subst (λ (fs : List Field). All IsShort fs) steps c.loop-field.invariant.short);
    }
