use Rattle.std.proofs.Common.{List, ℕ, [], ◌∷◌, ◌++◌, ◌+◌, ◌*◌, get_or, ap, ◌∙◌, arith}
use Rattle.std.proofs.lemmas.Grind.{common_steps}
use Rattle.ipfix_elements.specs.Texts.{octet_text}
use Rattle.ipfix_elements.proofs.Written.{ipv6_first, ipv6_more}
use Rattle.ipfix_elements.proofs.text.ipv6_text.Goals as goal

pub loop-group-init : goal.loop-group-init
loop-group-init c =
    let address = c.args.address.now in
    record {
      written = c.push_octet-2.ensures.items
          ∙ ap (λ (t : List ℕ). t ++ octet_text (get_or address 1 0)) (c.push_octet.ensures.items ∙ ap (λ (t : List ℕ). t ++ octet_text (get_or address 0 0)) c.new-text.ensures)
          ∙ ipv6_first address (omega arith);
      long = grind (arith, common_steps);
    }

pub loop-group-preserved : goal.loop-group-preserved
loop-group-preserved c =
    let address = c.args.address.now in
    let i = c.loop-group.group in
    record {
      written = c.push_octet-in-loop-group-2.ensures.items
          ∙ ap (λ (t : List ℕ). t ++ octet_text (get_or address (2 * i + 1) 0))
          (c.push_octet-in-loop-group.ensures.items ∙ ap (λ (t : List ℕ). t ++ octet_text (get_or address (2 * i) 0)) (c.push.ensures.items ∙ ap (λ (t : List ℕ). t ++ 58 ∷ []) c.loop-group.invariant.written))
          ∙ ipv6_more address i (omega arith) (omega arith);
      long = omega arith;
    }
