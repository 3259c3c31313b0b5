use Rattle.std.proofs.Common.{◌≡◌, ◌∙◌, ℕ, inl, inr, subst, sym}
use Rattle.std.specs.Prelude.{◌==◌, false, true}
use Rattle.command_verify.proofs.Empty.{empty_of, filled_of}
use Rattle.command_verify.proofs.comparing.compare_loaded.Goals as goal

pub returns-then-is_empty-clause-compares : goal.returns-then-is_empty-clause-compares
returns-then-is_empty-clause-compares g c =
    let maps = c.args.loaded.maps.maps in
    let none = empty_of maps.items (subst (λ (n : ℕ). (n == 0) ≡ true) maps.ok.0 (sym c.is_empty.ensures ∙ c.if-is_empty.true)) in
    inl (none, c.open_with.ensures.opens)

pub returns-else-is_empty-clause-compares : goal.returns-else-is_empty-clause-compares
returns-else-is_empty-clause-compares g c =
    let maps = c.args.loaded.maps.maps in
    inr (filled_of maps.items (subst (λ (n : ℕ). (n == 0) ≡ false) maps.ok.0 (sym c.is_empty.ensures ∙ c.if-is_empty.false)), c.compare_mapped.ensures.compares)
