use Rattle.std.proofs.Common.{ℕ, List, length, map, arith, ap, ◌∙◌, subst}
use Rattle.std.proofs.lemmas.List.{length-map}
use Rattle.ipfix_wire.specs.declared.specifier.ElementId.{ElementId}
use Rattle.flow_table.specs.Reading.{counter_of}
use Rattle.flow_table.specs.Readings.{Notes}
use Rattle.flow_table.specs.Rows.{kept_at}
use Rattle.flow_table.specs.Words.{key_from}
use Rattle.flow_table.proofs.Holding.{flow_ok, flow_large, on_ok}
use Rattle.flow_table.proofs.Lacking.{used_noted}
use Rattle.flow_table.proofs.Named.{key_in_room}
use Rattle.flow_table.proofs.taking.take_flow.Goals as goal

pub add_flow-requires : goal.add_flow-requires
add_flow-requires c =
    record {
      sound = c.counters.ensures.sound;
      intervals = c.requires.intervals;
      counters = ap length (c.in_ok-read_counters.ensures.counters ∙ ap (λ (cs : List ElementId). map (λ e. counter_of e c.args.data_record.now) cs) c.counters.ensures.value) ∙ length-map c.args.plan.now.counters (λ e. counter_of e c.args.data_record.now);
    }

pub returns-clause-rows : goal.returns-clause-rows
returns-clause-rows c = c.add_flow.ensures.rows c.requires.key c.requires.are

pub returns-clause-ok : goal.returns-clause-ok
returns-clause-ok c = λ of.
    flow_ok c.args.plan.now c.args.data_record.now c.args.flow.span.start c.args.flow.span.end c.requires.key c.read_counters.new.counters.items (kept_at c.args.plan.now c.args.rows.now) (kept_at c.args.plan.now c.add_flow.new.rows) c.add_flow.result
    c.requires.is (c.in_ok-read_counters.ensures.counters ∙ ap (λ (cs : List ElementId). map (λ e. counter_of e c.args.data_record.now) cs) c.counters.ensures.value) (c.add_flow.ensures.ok c.requires.key c.requires.are of)

pub returns-clause-large : goal.returns-clause-large
returns-clause-large c = λ of.
    flow_large c.args.plan.now c.args.data_record.now c.args.flow.span.start c.args.flow.span.end c.requires.key c.read_counters.new.counters.items c.args.rows.now c.add_flow.new.room c.add_flow.result
    c.requires.is (c.in_ok-read_counters.ensures.counters ∙ ap (λ (cs : List ElementId). map (λ e. counter_of e c.args.data_record.now) cs) c.counters.ensures.value)
    (ap (λ (ws : List ℕ). key_from c.args.plan.now.kinds ws) c.add_flow.ensures.words ∙ key_in_room c.args.plan.now c.requires.key c.args.room.now.words.items c.requires.are)
    (c.add_flow.ensures.large c.requires.key c.requires.are of)

pub returns-clause-missing : goal.returns-clause-missing
returns-clause-missing c =
    let elements = c.counters.ensures.value in
    let notes = subst (λ (es : List ElementId). Notes c.args.missing.now.counters es c.args.data_record.now c.read_counters.new.missing) elements c.in_ok-read_counters.ensures.missing in
    on_ok c.add_flow.result (used_noted c.args.plan.now c.args.data_record.now c.args.missing.now c.read_counters.new.missing c.requires.is.used (omega arith) notes)
