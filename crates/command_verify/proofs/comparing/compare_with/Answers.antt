use Rattle.std.proofs.Common.{◌≡◌, ◌∙◌, ℕ, List, inl, inr, subst, sym}
use Rattle.std.specs.Prelude.{◌==◌, false, true}
use Rattle.report_writing.specs.Told.{AreToldTo}
use Rattle.command_verify.specs.Again.{ComparesAlone, there_value}
use Rattle.command_verify.proofs.Empty.{empty_of, filled_of}
use Rattle.command_verify.proofs.comparing.compare_with.Goals as goal

pub returns-in_default-clause-compares : goal.returns-in_default-clause-compares
returns-in_default-clause-compares g c = inr (inl (c.tell_fault.ensures.status, c.tell_fault.ensures.told))

pub returns-then-not-is_empty-clause-compares : goal.returns-then-not-is_empty-clause-compares
returns-then-not-is_empty-clause-compares g c =
    let told = AreToldTo g.E.WriteLines.lines c.args.err.now c.compare_alone.new.err in
    let compares = subst (λ (l : List ℕ). ComparesAlone (there_value c.args.there.now) c.compare_alone.result l told) (c.deref.ensures.value ∙ c.in-Ok.ensures) c.compare_alone.ensures.compares in
    let filled = filled_of c.in-Ok.others.items (subst (λ (n : ℕ). (n == 0) ≡ false) c.in-Ok.others.ok.0 (sym c.is_empty.ensures ∙ c.if-not-is_empty.true)) in
    inl (λ none. filled (c.in-Ok.ensures ∙ none), compares)

pub returns-clause-compares : goal.returns-clause-compares
returns-clause-compares g c =
    let none = empty_of c.in-Ok.others.items (subst (λ (n : ℕ). (n == 0) ≡ true) c.in-Ok.others.ok.0 (sym c.is_empty.ensures ∙ c.if-not-is_empty.false)) in
    inr (inr (sym c.in-Ok.ensures ∙ none, c.open_with.ensures.opens))
