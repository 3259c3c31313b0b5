use Rattle.std.proofs.Common.{◌≡◌, ◌∙◌, Ok, Option, subst, sym}
use Rattle.toml.specs.Data.{Data, Members}
use Rattle.toml.specs.View.{table_view}
use Rattle.flow_plan.specs.Faults.{Fails}
use Rattle.flow_plan.specs.Places.{fault_of, TellsKey}
use Rattle.flow_plan.specs.PlanTexts.{plan_of_document}
use Rattle.flow_plan_fields.specs.FilteredErrors.{IsNoFilter}
use Rattle.flow_plan_fields.specs.FilteredPlans.{IsFilterOf}
use Rattle.flow_plan_fields.proofs.Members.{left, removed}
use Rattle.flow_plan_fields.proofs.Told.{of_document, of_filter, of_members, of_sampling}
use Rattle.flow_plan_fields.proofs.filtered_reading.read_filtered_plan.Goals as goal

pub returns-in-Err-clause-err : goal.returns-in-Err-clause-err
returns-in-Err-clause-err c = of_document c.args.elements.now c.args.octets.now c.in-Err.error c.in-Err.ensures.err

pub returns-in-Err-read_members-clause-err : goal.returns-in-Err-read_members-clause-err
returns-in-Err-read_members-clause-err c =
    let known = c.args.elements.now in
    let e = c.in-Err-read_members.error in
    let rest = left c.in-Ok.table.entries c.remove-value.new.self.entries c.remove-maps.new.self.entries c.remove-sampling.new.self.entries c.remove-value.ensures.entries c.remove-maps.ensures.entries c.remove-sampling.ensures.entries in
    let told = c.in-Err-read_members.ensures.reads in
    of_members known c.args.octets.now (table_view c.in-Ok.table) e c.in-Ok.ensures.ok
    (subst (λ (d : Members). Fails (fault_of e) (plan_of_document known d)) rest told.0) (subst (λ (d : Members). TellsKey known d e) rest told.1)

pub returns-in-Err-read_filter-clause-err : goal.returns-in-Err-read_filter-clause-err
returns-in-Err-read_filter-clause-err c =
    let known = c.args.elements.now in
    let rest = left c.in-Ok.table.entries c.remove-value.new.self.entries c.remove-maps.new.self.entries c.remove-sampling.new.self.entries c.remove-value.ensures.entries c.remove-maps.ensures.entries c.remove-sampling.ensures.entries in
    of_filter known c.args.octets.now (table_view c.in-Ok.table) c.in-Ok-read_members.plan c.in-Err-read_filter.error c.in-Ok.ensures.ok
    (subst (λ (d : Members). plan_of_document known d ≡ Ok c.in-Ok-read_members.plan) rest c.in-Ok-read_members.ensures.reads)
    (subst (λ (v : Option Data). IsNoFilter known v c.in-Err-read_filter.error) (removed c.in-Ok.table.entries c.remove-value.result c.remove-value.ensures.value) c.in-Err-read_filter.ensures)

pub returns-in-Some-clause-ok : goal.returns-in-Some-clause-ok
returns-in-Some-clause-ok c =
    let known = c.args.elements.now in
    let rest = left c.in-Ok.table.entries c.remove-value.new.self.entries c.remove-maps.new.self.entries c.remove-sampling.new.self.entries c.remove-value.ensures.entries c.remove-maps.ensures.entries c.remove-sampling.ensures.entries in
    record {
      d = table_view c.in-Ok.table;
      document = c.in-Ok.ensures.ok;
      plan = subst (λ (d : Members). plan_of_document known d ≡ Ok c.in-Ok-read_members.plan) rest c.in-Ok-read_members.ensures.reads;
      filter = subst (λ (v : Option Data). IsFilterOf known v c.in-Ok-read_filter.filter) (removed c.in-Ok.table.entries c.remove-value.result c.remove-value.ensures.value) c.in-Ok-read_filter.ensures;
      sampling = sym c.sampling_in-sampling.ensures ∙ c.in-Some.is;
    }

pub returns-clause-err : goal.returns-clause-err
returns-clause-err c =
    let known = c.args.elements.now in
    let rest = left c.in-Ok.table.entries c.remove-value.new.self.entries c.remove-maps.new.self.entries c.remove-sampling.new.self.entries c.remove-value.ensures.entries c.remove-maps.ensures.entries c.remove-sampling.ensures.entries in
    of_sampling known c.args.octets.now (table_view c.in-Ok.table) c.in-Ok-read_members.plan c.in-Ok-read_filter.filter c.in-Ok.ensures.ok
    (subst (λ (d : Members). plan_of_document known d ≡ Ok c.in-Ok-read_members.plan) rest c.in-Ok-read_members.ensures.reads)
    (subst (λ (v : Option Data). IsFilterOf known v c.in-Ok-read_filter.filter) (removed c.in-Ok.table.entries c.remove-value.result c.remove-value.ensures.value) c.in-Ok-read_filter.ensures)
    (sym c.sampling_in-sampling.ensures ∙ c.in-None.is)
