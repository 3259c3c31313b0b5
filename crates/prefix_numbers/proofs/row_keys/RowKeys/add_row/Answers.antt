use Rattle.std.proofs.Common.{arith}
use Rattle.prefix_numbers.proofs.KnownKeys.{again, is_new, keys_more}
use Rattle.prefix_numbers.proofs.row_keys.RowKeys.add_row.Goals as goal

pub returns-then-not-branch-clause-rows : goal.returns-then-not-branch-clause-rows
returns-then-not-branch-clause-rows c =
    again c.args.self.now.rows.items c.args.self.now.keys.keys c.args.row.prefix c.key_of.result c.in_ok-insert.field-0 c.key_of.ensures c.requires c.in_ok-insert.ensures.added c.if-not-branch.true

pub returns-then-len-ge-MAX_ROWS-clause-rows : goal.returns-then-len-ge-MAX_ROWS-clause-rows
returns-then-len-ge-MAX_ROWS-clause-rows c = (
  is_new c.args.self.now.rows.items c.args.self.now.keys.keys c.args.row.prefix c.key_of.result c.in_ok-insert.field-0 c.key_of.ensures c.requires c.in_ok-insert.ensures.added c.if-not-branch.false,
  omega arith,
)

pub returns-clause-keys : goal.returns-clause-keys
returns-clause-keys c =
    keys_more c.args.self.now.rows.items c.push.new.self.items c.args.row c.args.self.now.keys.keys c.insert.new.self.keys c.key_of.result c.in_ok-insert.field-0 _ c.key_of.ensures c.if-not-branch.false c.in_ok-push.ensures.items c.requires c.in_ok-insert.ensures.keys

pub returns-clause-rows : goal.returns-clause-rows
returns-clause-rows c = record {
  items = c.in_ok-push.ensures.items;
  new = is_new c.args.self.now.rows.items c.args.self.now.keys.keys c.args.row.prefix c.key_of.result c.in_ok-insert.field-0 c.key_of.ensures c.requires c.in_ok-insert.ensures.added c.if-not-branch.false;
  place = omega arith;
}
