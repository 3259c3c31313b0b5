use Rattle.std.proofs.Common.{◌∙◌, ℕ, ◌+◌, ◌<◌, ◌^◌, ap, arith, subst, sym}
use Rattle.std.proofs.lemmas.Result.{on_err_weaker, on_ok_weaker}
use Rattle.flow_rows.specs.Rows.{part}
use Rattle.flow_rows.proofs.Totals.{seen, total_all}
use Rattle.flow_rows.proofs.table.FlatRows.add.Goals as goal

pub returns-clause-total : goal.returns-clause-total
returns-clause-total g c =
    on_ok_weaker c.add_row.result
    (λ h q i. total_all c.add_row.new.pile c.add_row.new.apart.items q i ∙ h q i ∙ ap (λ (n : ℕ). n + part q i c.args.piece.now) (seen c.self.inside.pile c.self.inside.apart.items c.args.self.now q i c.self.view_is))
    c.add_row.ensures.total

pub returns-clause-small : goal.returns-clause-small
returns-clause-small g c = λ q i.
    subst (λ (m : ℕ). m < 2 ^ 64) (sym (total_all c.add_row.new.pile c.add_row.new.apart.items q i)) (c.add_row.ensures.small q i)

pub returns-clause-err : goal.returns-clause-err
returns-clause-err g c =
    on_err_weaker c.add_row.result
    (λ h q i. total_all c.add_row.new.pile c.add_row.new.apart.items q i ∙ h q i ∙ seen c.self.inside.pile c.self.inside.apart.items c.args.self.now q i c.self.view_is)
    c.add_row.ensures.err

pub returns-clause-too_large : goal.returns-clause-too_large
returns-clause-too_large g c = λ e.
    let h = c.add_row.ensures.too_large e in
    (h.0, omega (arith, h.1, seen c.self.inside.pile c.self.inside.apart.items c.args.self.now c.args.piece.now.key h.0 c.self.view_is))
