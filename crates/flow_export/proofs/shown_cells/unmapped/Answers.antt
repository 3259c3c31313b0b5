use Rattle.std.proofs.Common.{◌≡◌, true, length, refl, rules}
use Rattle.flow_export.specs.Shown.{is_mapped}
use Rattle.flow_export.proofs.ShownKeys.{last_four}
use Rattle.flow_export.proofs.shown_cells.unmapped.Goals as goal

pub returns-then-starts_with : goal.returns-then-starts_with
returns-then-starts_with c =
    let long : length c.args.address ≡ 16 = search rules in
    let mapped : is_mapped c.args.address ≡ true = search rules in
    rw (mapped, last_four c.args.address long) refl
