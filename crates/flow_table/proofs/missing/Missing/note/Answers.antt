use Rattle.std.proofs.Common.{set, ap, arith}
use Rattle.flow_table.proofs.Lacking.{start_noted, end_noted, key_noted, far_key_noted, other_noted}
use Rattle.flow_table.proofs.missing.Missing.note.Goals as goal

pub returns-in-WithoutStart : goal.returns-in-WithoutStart
returns-in-WithoutStart c = start_noted c.args.self.now c.args.left_out c.saturating_add-self.result c.in-WithoutStart.is c.saturating_add-self.ensures

pub returns-in-WithoutEnd : goal.returns-in-WithoutEnd
returns-in-WithoutEnd c = end_noted c.args.self.now c.args.left_out c.saturating_add-self-in-WithoutEnd.result c.in-WithoutEnd.is c.saturating_add-self-in-WithoutEnd.ensures

pub returns-then-place-lt-MAX_KEYS : goal.returns-then-place-lt-MAX_KEYS
returns-then-place-lt-MAX_KEYS c =
    key_noted c.args.self.now c.args.left_out c.in-WithoutKey.place _ c.in-WithoutKey.is (omega arith) c.if-place-lt-MAX_KEYS.true (ap (λ n. set c.args.self.now.keys c.in-WithoutKey.place n) c.saturating_add.ensures)

pub returns-else-place-lt-MAX_KEYS : goal.returns-else-place-lt-MAX_KEYS
returns-else-place-lt-MAX_KEYS c = λ small. far_key_noted c.args.self.now c.args.left_out c.in-WithoutKey.place c.in-WithoutKey.is c.if-place-lt-MAX_KEYS.false

pub returns-in-Options : goal.returns-in-Options
returns-in-Options c = λ small. other_noted c.args.self.now c.args.left_out c.in-Options.is
