use Rattle.std.proofs.Common.{◌≡◌, ◌++◌, List, ℕ, length, ap, sym, ◌∙◌, append_assoc, arith}
use Rattle.std.proofs.lemmas.Bool.Decides.{nat_tests}
use Rattle.hex.specs.Hex.{encode_lower}
use Rattle.ipfix_elements.proofs.Written.{appends_both, appends_all, encode-append}
use Rattle.ipfix_elements.proofs.text.write_hex.Goals as goal

pub loop-rest-preserved : goal.loop-rest-preserved
loop-rest-preserved g c =
    let kept = c.loop-rest.invariant in
    let piece = c.split_at.result.0.now in
    let more = c.split_at.result.1.now in (
      kept.0 ++ encode_lower piece,
      appends_both _ _ _ kept.0 (encode_lower piece) kept.1 c.in_ok-write_piece.ensures,
      append_assoc kept.0 (encode_lower piece) (encode_lower more)
          ∙ ap (λ (t : List ℕ). kept.0 ++ t) (sym (encode-append piece more) ∙ ap encode_lower (sym c.split_at.ensures.by_index.0))
          ∙ kept.2,
    )

pub returns : goal.returns
returns g c =
    let kept = c.loop-rest.invariant in
    let empty : length c.loop-rest.rest.now ≡ 0 = grind (arith, nat_tests) in
    appends_all _ _ kept.0 c.loop-rest.rest.now _ empty kept.1 kept.2
