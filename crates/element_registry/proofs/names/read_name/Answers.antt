use Rattle.std.proofs.Common.{Some, None, ap, sym, ◌∙◌}
use Rattle.std.specs.Prelude.{option_map}
use Rattle.std.proofs.lemmas.Bool.{cond-false}
use Rattle.element_registry.specs.Rows.{is_name}
use Rattle.element_registry.proofs.Fields.{no_name, refused_text}
use Rattle.element_registry.proofs.names.read_name.Goals as goal

pub returns-in_err-name : goal.returns-in_err-name
returns-in_err-name c =
    ap (option_map (λ n. n.now)) c.from_residual.ensures
    ∙ sym (cond-false (is_name c.args.field.now) (Some c.args.field.now) None (no_name c.args.field.now (refused_text c.args.field.now _ c.from_utf8.result c.ok.result c.from_utf8.ensures.cases c.ok.ensures.value c.in_err-name.was)))
