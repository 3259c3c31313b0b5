use Rattle.std.proofs.Common.{◌≡◌, ◌∙◌, ℕ, List, inl, inr, refl, subst, sym}
use Rattle.std.specs.Prelude.{◌==◌, false, true}
use Rattle.report_writing.specs.Told.{AreToldTo}
use Rattle.input_sources.specs.PlansTold.{IsLoaded, TellsNoText, table_of}
use Rattle.command_verify.specs.Again.{ComparesAlone, there_value}
use Rattle.command_verify.proofs.Empty.{empty_of, filled_of}
use Rattle.command_verify.proofs.comparing.compare_given.Goals as goal

pub returns-in_default-clause-compares : goal.returns-in_default-clause-compares
returns-in_default-clause-compares g c = inr (inl (c.tell_fault.ensures.status, c.tell_fault.ensures.told))

pub returns-then-not-is_empty-clause-compares : goal.returns-then-not-is_empty-clause-compares
returns-then-not-is_empty-clause-compares g c =
    let told = AreToldTo g.E.WriteLines.lines c.args.err.now c.compare_alone.new.err in
    let compares = subst (λ (l : List ℕ). ComparesAlone (there_value c.args.there.now) c.compare_alone.result l told) (c.deref.ensures.value ∙ c.in-Ok.ensures) c.compare_alone.ensures.compares in
    let filled = filled_of c.in-Ok.lines.items (subst (λ (n : ℕ). (n == 0) ≡ false) c.in-Ok.lines.ok.0 (sym c.is_empty.ensures ∙ c.if-not-is_empty.true)) in
    inl (λ none. filled (c.in-Ok.ensures ∙ none), compares)

pub returns-in-Some-clause-compares : goal.returns-in-Some-clause-compares
returns-in-Some-clause-compares g c =
    let none = empty_of c.in-Ok.lines.items (subst (λ (n : ℕ). (n == 0) ≡ true) c.in-Ok.lines.ok.0 (sym c.is_empty.ensures ∙ c.if-not-is_empty.false)) in
    let loaded = c.in-Some.loaded in
    let is_loaded = subst (λ (octets : List ℕ). IsLoaded c.args.elements octets loaded.maps (table_of loaded)) c.as_bytes.ensures.value (c.load_plan_text.ensures.text loaded c.in-Some.is) in
    inr (inr (sym c.in-Ok.ensures ∙ none, inr (record { loaded = loaded; is_loaded = is_loaded; compares = rw c.in-Some.ensures.silent at c.compare_loaded.ensures.compares })))

pub returns-clause-compares : goal.returns-clause-compares
returns-clause-compares g c =
    let told = AreToldTo g.E.WriteLines.lines c.args.err.now c.load_plan_text.new.err in
    let none = empty_of c.in-Ok.lines.items (subst (λ (n : ℕ). (n == 0) ≡ true) c.in-Ok.lines.ok.0 (sym c.is_empty.ensures ∙ c.if-not-is_empty.false)) in
    let why = subst (λ (octets : List ℕ). TellsNoText c.args.elements octets told) c.as_bytes.ensures.value c.in-None.ensures.told in
    inr (inr (sym c.in-Ok.ensures ∙ none, inl (record { told = why; not_opened = refl })))
