use Rattle.std.proofs.Common.{◌++◌, List, Option, Some, refl, sym, ap, ◌∙◌, subst}
use Rattle.std.specs.Result.{result_err}
use Rattle.ipfix_message.specs.declared.record.DataRecord.{DataRecord}
use Rattle.flow_table.specs.declared.table_fault.TableFault.{TableFault}
use Rattle.ipfix_message.specs.Outcome.{unless}
use Rattle.flow_table.specs.Missing.{missing_of}
use Rattle.flow_table.specs.Plans.{PlanValue}
use Rattle.flow_table.specs.Partials.{plan_of, fault_of, NamesRow, StandsFor, StandsBy}
use Rattle.flow_table.proofs.Bags.{too_large_more}
use Rattle.flow_table.proofs.Holding.{merged_missing, missing_after, on_ok, large_of, small_on_ok, large_if_err, stands_on, stands_taken, holds_of, no_fault, one_fault, answers_unit}
use Rattle.flow_table.proofs.Named.{names_on, names_taken}
use Rattle.flow_table.proofs.partial.Partial.merge.Goals.{After-join-result}
use Rattle.flow_table.proofs.partial.Partial.merge.Goals as goal

pub returns-in-Some-clause-answer : goal.returns-in-Some-clause-answer
unfolding fault_of
returns-in-Some-clause-answer c = sym (ap (λ (o : Option TableFault). unless o tt) c.in-Some.is)

pub returns-in-Some-clause-takes_over : goal.returns-in-Some-clause-takes_over
unfolding fault_of
returns-in-Some-clause-takes_over c = λ none some. absurd (one_fault c.args.self.now.fault c.in-Some.fault c.in-Some.is none)

pub returns-in-Some-clause-merges : goal.returns-in-Some-clause-merges
unfolding StandsFor
returns-in-Some-clause-merges c = λ rs qs stands others. (
  stands_on c.args.self.now.plan c.args.self.now.rows c.args.self.now.tally rs qs c.args.self.now.fault c.in-Some.fault c.in-Some.is stands.0,
  λ none. absurd (one_fault c.args.self.now.fault c.in-Some.fault c.in-Some.is none),
  names_on c.args.self.now.fault c.args.self.now.plan c.args.self.now.room rs qs stands.2,
)

pub returns-in-Some-clause-large : goal.returns-in-Some-clause-large
unfolding StandsFor plan_of
returns-in-Some-clause-large c = λ rs qs stands others large.
    too_large_more c.args.self.now.plan rs qs
    (large_of c.args.self.now.plan c.args.self.now.rows c.args.self.now.tally rs c.args.self.now.fault c.in-Some.fault c.in-Some.is large stands.0)

pub returns-in-Some-fault-clause-plan : goal.returns-in-Some-fault-clause-plan
unfolding plan_of
returns-in-Some-fault-clause-plan c = refl

pub returns-in-Some-fault-clause-answer : goal.returns-in-Some-fault-clause-answer
unfolding fault_of
returns-in-Some-fault-clause-answer c = refl

pub returns-in-Some-fault-clause-sticky : goal.returns-in-Some-fault-clause-sticky
unfolding fault_of
returns-in-Some-fault-clause-sticky c = λ some. absurd (no_fault c.args.self.now.fault c.in_default.is some)

pub returns-in-Some-fault-clause-takes_over : goal.returns-in-Some-fault-clause-takes_over
unfolding fault_of
returns-in-Some-fault-clause-takes_over c = λ none some. sym c.in-Some-fault.is

pub returns-in-Some-fault-clause-merges : goal.returns-in-Some-fault-clause-merges
unfolding StandsFor plan_of
returns-in-Some-fault-clause-merges c = λ rs qs stands others. (
  stands_taken c.args.self.now.plan c.args.other.plan c.args.self.now.rows c.args.other.rows c.args.self.now.tally c.args.other.tally rs qs c.args.other.fault c.in-Some-fault.fault c.requires c.in-Some-fault.is others.0,
  λ none. cc none,
  names_taken c.args.self.now.plan c.args.other.plan c.args.other.room rs qs c.args.other.fault c.in-Some-fault.fault c.requires c.in-Some-fault.is others.2,
)

pub returns-in-Some-fault-clause-large : goal.returns-in-Some-fault-clause-large
unfolding StandsFor plan_of
returns-in-Some-fault-clause-large c = λ rs qs stands others large.
    large_of c.args.self.now.plan c.args.self.now.rows c.args.self.now.tally (rs ++ qs) (Some c.in-Some-fault.fault) c.in-Some-fault.fault refl large
    (stands_taken c.args.self.now.plan c.args.other.plan c.args.self.now.rows c.args.other.rows c.args.self.now.tally c.args.other.tally rs qs c.args.other.fault c.in-Some-fault.fault c.requires c.in-Some-fault.is others.0)

pub returns-clause-plan : goal.returns-clause-plan
unfolding plan_of
returns-clause-plan c = refl

pub returns-clause-answer : goal.returns-clause-answer
unfolding fault_of
returns-clause-answer c = answers_unit c.join-result.result c.err-self.result c.err-self.ensures.value

pub returns-clause-sticky : goal.returns-clause-sticky
unfolding fault_of
returns-clause-sticky c = λ some. absurd (no_fault c.args.self.now.fault c.in_default.is some)

pub returns-clause-takes_over : goal.returns-clause-takes_over
unfolding fault_of
returns-clause-takes_over c = λ none some. absurd (no_fault c.args.other.fault c.in_default-fault.is some)

-- the rows and the tally stand for the records of both
joined : (c : After-join-result) (rs qs : List DataRecord) → StandsFor c.args.self.now rs → StandsFor c.args.other qs
    → StandsBy (result_err c.join-result.result) c.args.self.now.plan c.join-result.new.rows c.join-result.new.tally (rs ++ qs)
unfolding StandsFor plan_of
joined c rs qs stands others =
    c.join-result.ensures.stands rs qs
    (subst (λ (o : Option TableFault). StandsBy o c.args.self.now.plan c.args.self.now.rows c.args.self.now.tally rs) c.in_default.is stands.0)
    (holds_of c.args.self.now.plan c.args.other.plan c.args.other.rows c.args.other.tally qs c.args.other.fault c.requires c.in_default-fault.is others.0)

pub returns-clause-merges : goal.returns-clause-merges
unfolding StandsFor plan_of
returns-clause-merges c = λ rs qs stands others.
    let both = joined (goal.at.returns-clause-merges c).After-join-result rs qs stands others in
    let more = others.1 c.in_default-fault.is ∙ ap (λ (p : PlanValue). missing_of p qs) c.requires in (
      subst (λ (o : Option TableFault). StandsBy o c.args.self.now.plan c.join-result.new.rows c.join-result.new.tally (rs ++ qs)) (sym c.err-self.ensures.value) both,
      λ none. missing_after c.args.self.now.plan c.join-result.new.rows c.join-result.new.tally rs qs c.args.self.now.missing c.missing_together-self.result c.join-result.result
          (stands.1 c.in_default.is) (on_ok c.join-result.result (merged_missing c.args.self.now.plan qs c.args.self.now.missing c.args.other.missing c.missing_together-self.result more c.missing_together-self.ensures)) (sym c.err-self.ensures.value ∙ none) both,
      subst (λ (o : Option TableFault). NamesRow o c.args.self.now.plan c.join-result.new.room (rs ++ qs)) (sym c.err-self.ensures.value)
          (c.join-result.ensures.names rs qs
          (subst (λ (o : Option TableFault). StandsBy o c.args.self.now.plan c.args.self.now.rows c.args.self.now.tally rs) c.in_default.is stands.0)
          (holds_of c.args.self.now.plan c.args.other.plan c.args.other.rows c.args.other.tally qs c.args.other.fault c.requires c.in_default-fault.is others.0)),
    )

pub returns-clause-small : goal.returns-clause-small
unfolding plan_of
returns-clause-small c = λ rs qs stands others.
    small_on_ok c.join-result.result c.args.self.now.plan c.join-result.new.rows c.join-result.new.tally (rs ++ qs)
    (joined (goal.at.returns-clause-small c).After-join-result rs qs stands others)

pub returns-clause-large : goal.returns-clause-large
unfolding plan_of
returns-clause-large c = λ rs qs stands others.
    large_if_err c.join-result.result c.args.self.now.plan c.join-result.new.rows c.join-result.new.tally (rs ++ qs)
    (joined (goal.at.returns-clause-large c).After-join-result rs qs stands others)
