use Rattle.std.proofs.Common.{None, ◌∷◌, ◌++◌, [], Err, sym, ap, ◌∙◌, subst, inr}
use Rattle.std.proofs.lemmas.Result.{err_from_is_err_and}
use Rattle.flow_table.specs.declared.reading.Reading.{Reading}
use Rattle.flow_table.specs.declared.table_fault.TableFault.{TableFault}
use Rattle.flow_table.specs.declared.class.Class.{Class}
use Rattle.flow_table.specs.declared.class.Class.TheVariants.{Used}
use Rattle.flow_table.specs.declared.reading.Reading.TheVariants as readings
use Rattle.flow_table.proofs.Fits.{read_keys_fit}
use Rattle.flow_table.specs.LeftOut.{missing_in}
use Rattle.flow_table.specs.Partials.{one_of, tally_sum}
use Rattle.flow_table.specs.Readings.{ReadsAs}
use Rattle.flow_table.proofs.Holding.{left_taken, merged_missing, used_taken, one_too_many, stands_err}
use Rattle.flow_table.proofs.Named.{large_named, large_there, names_err}
use Rattle.flow_table.proofs.Lacking.{left_missing}
use Rattle.flow_table.proofs.taking.take.Goals as goal

pub returns-in_err-count-in-Left-clause-stands : goal.returns-in_err-count-in-Left-clause-stands
returns-in_err-count-in-Left-clause-stands c =
    let p = err_from_is_err_and c.from_residual-in_err-count-in-Left.result c.from_residual-in_err-count-in-Left.ensures.1 in
    let r = c.args.data_record.now in
    let reads = subst (λ (x : Reading). ReadsAs c.args.plan.now r c.read.new.words.items x) c.in-Left.is c.in_ok-left_out.ensures in
    λ rs holds. stands_err c.args.plan.now c.args.rows.now _ (rs ++ r ∷ []) c.from_residual-in_err-count-in-Left.result p.0 p.1
    (λ same. inr (inr (one_too_many c.args.plan.now c.args.rows.now c.args.tally.now rs r c.class-class.result (reads.class ∙ sym c.class-class.ensures) holds c.in_err-count-in-Left.ensures.large.1)))

pub returns-in_err-count-in-Left-clause-names : goal.returns-in_err-count-in-Left-clause-names
returns-in_err-count-in-Left-clause-names c =
    let p = err_from_is_err_and c.from_residual-in_err-count-in-Left.result c.from_residual-in_err-count-in-Left.ensures.1 in
    let r = c.args.data_record.now in
    let reads = subst (λ (x : Reading). ReadsAs c.args.plan.now r c.read.new.words.items x) c.in-Left.is c.in_ok-left_out.ensures in
    λ rs holds. names_err c.args.plan.now (record c.args.room.now { words = c.read.new.words; last = None }) (rs ++ r ∷ []) c.from_residual-in_err-count-in-Left.result p.0 p.1
    (λ same. one_too_many c.args.plan.now c.args.rows.now c.args.tally.now rs r c.class-class.result (reads.class ∙ sym c.class-class.ensures) holds c.in_err-count-in-Left.ensures.large.1)

pub returns-in_err-count-in-Used-clause-stands : goal.returns-in_err-count-in-Used-clause-stands
returns-in_err-count-in-Used-clause-stands c =
    let p = err_from_is_err_and c.from_residual-in_err-count-in-Used.result c.from_residual-in_err-count-in-Used.ensures.1 in
    let r = c.args.data_record.now in
    let reads = subst (λ (x : Reading). ReadsAs c.args.plan.now r c.read.new.words.items x) c.in-Used.is c.in_ok-left_out.ensures in
    λ rs holds. stands_err c.args.plan.now c.args.rows.now _ (rs ++ r ∷ []) c.from_residual-in_err-count-in-Used.result p.0 p.1
    (λ same. inr (inr (one_too_many c.args.plan.now c.args.rows.now c.args.tally.now rs r Used reads.is.used holds c.in_err-count-in-Used.ensures.large.1)))

pub returns-in_err-count-in-Used-clause-names : goal.returns-in_err-count-in-Used-clause-names
returns-in_err-count-in-Used-clause-names c =
    let p = err_from_is_err_and c.from_residual-in_err-count-in-Used.result c.from_residual-in_err-count-in-Used.ensures.1 in
    let r = c.args.data_record.now in
    let reads = subst (λ (x : Reading). ReadsAs c.args.plan.now r c.read.new.words.items x) c.in-Used.is c.in_ok-left_out.ensures in
    λ rs holds. names_err c.args.plan.now (record c.args.room.now { words = c.read.new.words; last = None }) (rs ++ r ∷ []) c.from_residual-in_err-count-in-Used.result p.0 p.1
    (λ same. one_too_many c.args.plan.now c.args.rows.now c.args.tally.now rs r Used reads.is.used holds c.in_err-count-in-Used.ensures.large.1)

pub returns-in_err-take_flow-in-Used-clause-stands : goal.returns-in_err-take_flow-in-Used-clause-stands
returns-in_err-take_flow-in-Used-clause-stands c =
    let p = err_from_is_err_and c.from_residual-in_err-take_flow-in-Used.result c.from_residual-in_err-take_flow-in-Used.ensures.1 in
    let r = c.args.data_record.now in
    λ rs holds. stands_err c.args.plan.now c.take_flow.new.rows _ (rs ++ r ∷ []) c.from_residual-in_err-take_flow-in-Used.result c.in_err-take_flow-in-Used.field-0.0 (p.1 ∙ ap (λ (e : TableFault). Err e) p.2)
    (λ same. large_there c.args.plan.now c.args.rows.now c.args.tally.now c.take_flow.new.room rs (r ∷ []) holds (c.in_err-take_flow-in-Used.ensures.large holds.of_plan same))

pub returns-in_err-take_flow-in-Used-clause-names : goal.returns-in_err-take_flow-in-Used-clause-names
returns-in_err-take_flow-in-Used-clause-names c =
    let p = err_from_is_err_and c.from_residual-in_err-take_flow-in-Used.result c.from_residual-in_err-take_flow-in-Used.ensures.1 in
    let r = c.args.data_record.now in
    λ rs holds. names_err c.args.plan.now c.take_flow.new.room (rs ++ r ∷ []) c.from_residual-in_err-take_flow-in-Used.result c.in_err-take_flow-in-Used.field-0.0 (p.1 ∙ ap (λ (e : TableFault). Err e) p.2)
    (λ same. large_named c.args.plan.now c.args.rows.now c.args.tally.now c.take_flow.new.room rs (r ∷ []) holds (c.in_err-take_flow-in-Used.ensures.large holds.of_plan same))

pub returns-in_ok-count-in-Left-clause-stands : goal.returns-in_ok-count-in-Left-clause-stands
returns-in_ok-count-in-Left-clause-stands c =
    let r = c.args.data_record.now in
    let reads = subst (λ (x : Reading). ReadsAs c.args.plan.now r c.read.new.words.items x) c.in-Left.is c.in_ok-left_out.ensures in
    let own = c.in_ok-count-in-Left.ensures.ok in
    λ rs holds. left_taken c.args.plan.now c.args.rows.now c.args.tally.now c.count.new.self rs r c.in-Left.left_out reads
    (own.0 ∙ ap (λ (class : Class). tally_sum c.args.tally.now (one_of class)) c.class-class.ensures) own.1 holds

pub returns-in_ok-count-in-Left-clause-missing : goal.returns-in_ok-count-in-Left-clause-missing
returns-in_ok-count-in-Left-clause-missing c =
    let r = c.args.data_record.now in
    let reads = subst (λ (x : Reading). ReadsAs c.args.plan.now r c.read.new.words.items x) c.in-Left.is c.in_ok-left_out.ensures in
    merged_missing c.args.plan.now (r ∷ []) c.args.missing.now (missing_in c.in-Left.left_out) c.note.new.self (sym (left_missing c.args.plan.now r c.in-Left.left_out reads)) c.note.ensures

pub returns-in_ok-take_flow-in-Used-clause-stands : goal.returns-in_ok-take_flow-in-Used-clause-stands
returns-in_ok-take_flow-in-Used-clause-stands c =
    let r = c.args.data_record.now in
    let reads = subst (λ (x : Reading). ReadsAs c.args.plan.now r c.read.new.words.items x) c.in-Used.is c.in_ok-left_out.ensures in
    let own = c.in_ok-count-in-Used.ensures.ok in
    λ rs holds. used_taken c.args.plan.now c.args.rows.now c.take_flow.new.rows c.args.tally.now c.count-in-Used.new.self rs r
    (read_keys_fit c.args.plan.now r c.read.new.words.items (readings.Used c.in-Used.flow) reads) reads.is.used own.0 own.1 c.in_ok-take_flow-in-Used.ensures.rows
    c.in_ok-take_flow-in-Used.ensures.ok c.in_ok-take_flow-in-Used.ensures.fits holds
