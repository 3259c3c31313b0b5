use Rattle.std.proofs.Common.{◌∷◌, ◌++◌, [], List, Option, refl, sym, ap, ◌∙◌, subst}
use Rattle.std.specs.Result.{result_err}
use Rattle.ipfix_message.specs.declared.record.DataRecord.{DataRecord}
use Rattle.flow_table.specs.declared.table_fault.TableFault.{TableFault}
use Rattle.ipfix_message.specs.Outcome.{unless}
use Rattle.flow_table.specs.Partials.{plan_of, fault_of, NamesRow, StandsFor, StandsBy}
use Rattle.flow_table.specs.Reading.{class_of}
use Rattle.flow_table.proofs.Bags.{too_large_more}
use Rattle.flow_table.proofs.Holding.{missing_after, stands_on, answers, no_fault, one_fault, large_of, small_on_ok, large_if_err}
use Rattle.flow_table.proofs.Named.{names_on}
use Rattle.flow_table.proofs.partial.Partial.add.Goals.{After-take-result}
use Rattle.flow_table.proofs.partial.Partial.add.Goals as goal

pub returns-in-Some-clause-answer : goal.returns-in-Some-clause-answer
unfolding fault_of
returns-in-Some-clause-answer c = sym (ap (λ (o : Option TableFault). unless o (class_of (plan_of c.args.self.now) c.args.data_record.now)) c.in-Some.is)

pub returns-in-Some-clause-adds : goal.returns-in-Some-clause-adds
unfolding StandsFor
returns-in-Some-clause-adds c = λ rs stands. (
  stands_on c.args.self.now.plan c.args.self.now.rows c.args.self.now.tally rs (c.args.data_record.now ∷ []) c.args.self.now.fault c.in-Some.fault c.in-Some.is stands.0,
  λ none. absurd (one_fault c.args.self.now.fault c.in-Some.fault c.in-Some.is none),
  names_on c.args.self.now.fault c.args.self.now.plan c.args.self.now.room rs (c.args.data_record.now ∷ []) stands.2,
)

pub returns-in-Some-clause-large : goal.returns-in-Some-clause-large
unfolding StandsFor plan_of
returns-in-Some-clause-large c = λ rs stands large.
    too_large_more c.args.self.now.plan rs (c.args.data_record.now ∷ [])
    (large_of c.args.self.now.plan c.args.self.now.rows c.args.self.now.tally rs c.args.self.now.fault c.in-Some.fault c.in-Some.is large stands.0)

pub returns-clause-plan : goal.returns-clause-plan
unfolding plan_of
returns-clause-plan c = refl

pub returns-clause-answer : goal.returns-clause-answer
unfolding fault_of plan_of
returns-clause-answer c = answers c.take-result.result c.err-self.result (class_of c.args.self.now.plan c.args.data_record.now) c.err-self.ensures.value c.take-result.ensures.class

pub returns-clause-sticky : goal.returns-clause-sticky
unfolding fault_of
returns-clause-sticky c = λ some. absurd (no_fault c.args.self.now.fault c.in_default.is some)

-- the rows and the tally stand for the record, too
taken : (c : After-take-result) (rs : List DataRecord) → StandsFor c.args.self.now rs → StandsBy (result_err c.take-result.result) c.args.self.now.plan c.take-result.new.rows c.take-result.new.tally (rs ++ c.args.data_record.now ∷ [])
unfolding StandsFor
taken c rs stands =
    c.take-result.ensures.stands rs (subst (λ (o : Option TableFault). StandsBy o c.args.self.now.plan c.args.self.now.rows c.args.self.now.tally rs) c.in_default.is stands.0)

pub returns-clause-adds : goal.returns-clause-adds
unfolding StandsFor
returns-clause-adds c = λ rs stands.
    let more = taken (goal.at.returns-clause-adds c).After-take-result rs stands in (
      subst (λ (o : Option TableFault). StandsBy o c.args.self.now.plan c.take-result.new.rows c.take-result.new.tally (rs ++ c.args.data_record.now ∷ [])) (sym c.err-self.ensures.value) more,
      λ none. missing_after c.args.self.now.plan c.take-result.new.rows c.take-result.new.tally rs (c.args.data_record.now ∷ []) c.args.self.now.missing c.take-result.new.missing c.take-result.result
          (stands.1 c.in_default.is) c.take-result.ensures.missing (sym c.err-self.ensures.value ∙ none) more,
      subst (λ (o : Option TableFault). NamesRow o c.args.self.now.plan c.take-result.new.room (rs ++ c.args.data_record.now ∷ [])) (sym c.err-self.ensures.value)
          (c.take-result.ensures.names rs (subst (λ (o : Option TableFault). StandsBy o c.args.self.now.plan c.args.self.now.rows c.args.self.now.tally rs) c.in_default.is stands.0)),
    )

pub returns-clause-small : goal.returns-clause-small
unfolding plan_of
returns-clause-small c = λ rs stands.
    small_on_ok c.take-result.result c.args.self.now.plan c.take-result.new.rows c.take-result.new.tally (rs ++ c.args.data_record.now ∷ [])
    (taken (goal.at.returns-clause-small c).After-take-result rs stands)

pub returns-clause-large : goal.returns-clause-large
unfolding plan_of
returns-clause-large c = λ rs stands.
    large_if_err c.take-result.result c.args.self.now.plan c.take-result.new.rows c.take-result.new.tally (rs ++ c.args.data_record.now ∷ [])
    (taken (goal.at.returns-clause-large c).After-take-result rs stands)
