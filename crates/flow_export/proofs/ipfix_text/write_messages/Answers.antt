use Rattle.std.proofs.Common.{◌≡◌, ◌*◌, ℕ, List, refl, sym, subst, arith, rules, All}
use Rattle.std.specs.Io.KnownBytes.{Appends}
use Rattle.std.specs.List.{flat_map, range_with_len}
use Rattle.std.proofs.KnownBytes.{Appends-trans}
use Rattle.std.proofs.lemmas.List.Elements.{All-drop}
use Rattle.flow_table.specs.SameTables.{RowValue}
use Rattle.flow_export.specs.declared.ipfix_text.rows.TheConstants.{ROWS_A_MESSAGE}
use Rattle.flow_export.specs.Fitting.{IsExportable}
use Rattle.flow_export.specs.IpfixText.{message_count, message_of_rows_in, template_message}
use Rattle.flow_export.proofs.MessageParts.{hundred_more, message_more}
use Rattle.flow_export.proofs.ipfix_text.write_messages.Goals as goal

pub place_message-requires-clause-fit : goal.place_message-requires-clause-fit
place_message-requires-clause-fit g c =
    subst (λ (rows : List RowValue). All (IsExportable c.args.plan.now) rows) (sym c.loop-index.invariant.left) (All-drop (IsExportable c.args.plan.now) (ROWS_A_MESSAGE * c.loop-index.index) c.args.rows.now c.requires.fit)

pub loop-index-preserved : goal.loop-index-preserved
loop-index-preserved g c = record {
  written = message_more c.args.intervals c.args.plan.now c.args.export_time c.args.rows.now c.loop-index.rows c.loop-index.index (ROWS_A_MESSAGE * c.loop-index.index) _ _ _ _ refl c.loop-index.invariant.left (search rules) c.loop-index.invariant.written c.in_ok-write_all.ensures.bytes;
  room = c.in_ok-end.ensures.room;
  left = hundred_more c.args.rows.now c.loop-index.rows _ c.loop-index.index c.loop-index.invariant.left c.in_ok-end.ensures.passes;
}

pub returns-clause-ok : goal.returns-clause-ok
returns-clause-ok g c =
    let plan = c.args.plan.now in
    let message = message_of_rows_in c.args.intervals plan c.args.export_time c.args.rows.now in
    let all : c.loop-index.index ≡ message_count c.args.rows.now = omega arith in
    let written = subst (λ (n : ℕ). Appends (g.W.Write.contents c.write_template.new.out) (g.W.Write.contents c.loop-index.out) (flat_map message (range_with_len 0 n))) all c.loop-index.invariant.written in
    Appends-trans _ _ _ (template_message plan c.args.export_time) _ c.in_ok-write_template.ensures.ok written
