use Rattle.std.proofs.Common.{◌∙◌, ◌-◌, ap, List, ℕ, take, drop}
use Rattle.byteorder.proofs.Bytes.{between-bytes_high_first}
use Rattle.ipfix_elements.proofs.Places.{placed_as}
use Rattle.flow_export.proofs.ipfix_text.placing.place_lowest.Goals as goal

pub returns : goal.returns
returns c =
    let width = c.args.width in
    placed_as (ap (λ (t : List ℕ). take (8 - (8 - width)) (drop (8 - width) t)) c.to_be_bytes-all.ensures ∙ between-bytes_high_first 8 width c.args.number c.requires.narrow) c.place.ensures
