use Rattle.std.proofs.Common.{ap, sym, ◌∙◌}
use Rattle.std.specs.Prelude.{option_map}
use Rattle.csv.specs.Records.{fields_of}
use Rattle.element_registry.proofs.Fields.{place_at, place_past}
use Rattle.element_registry.proofs.columns.place_of.Goals as goal

pub returns-then-eq : goal.returns-then-eq
returns-then-eq c =
    sym (place_at c.args.text.now c.loop-field.place (fields_of c.args.row.now) c.loop-field.place c.in-Some.field.now (sym c.get.ensures.value ∙ ap (option_map (λ s. s.now)) c.in-Some.is) (sym c.eq.ensures ∙ c.if-eq.true))
    ∙ c.loop-field.invariant

pub loop-field-preserved : goal.loop-field-preserved
loop-field-preserved c =
    sym (place_past c.args.text.now c.loop-field.place (fields_of c.args.row.now) c.loop-field.place c.in-Some.field.now (sym c.get.ensures.value ∙ ap (option_map (λ s. s.now)) c.in-Some.is) (sym c.eq.ensures ∙ c.if-eq.false))
    ∙ c.loop-field.invariant
