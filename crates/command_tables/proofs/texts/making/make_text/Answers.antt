use Rattle.std.proofs.Common.{rules}
use Rattle.output_tables.proofs.NotWritten.{not_written}
use Rattle.command_tables.proofs.texts.making.make_text.Goals as goal

pub returns-in-Err-text_of-clause-fault : goal.returns-in-Err-text_of-clause-fault
returns-in-Err-text_of-clause-fault c = (search rules, search rules, (c.in-Ok.table, c.in-Ok.ensures.ok, not_written c.args.job.now.output _ (Unit {0}) c.in-Err-text_of.fault c.in-Err-text_of.ensures.many (λ many. tt)))

pub returns-in-Ok-receipt_of-clause-ok : goal.returns-in-Ok-receipt_of-clause-ok
returns-in-Ok-receipt_of-clause-ok c = record {
  of_plan = search rules;
  said = search rules;
  table = c.in-Ok.table;
  is_table = c.in-Ok.ensures.ok;
  text_is = c.in-Ok-text_of.ensures.ok;
  receipt_is = rw c.deref.ensures.value at c.in-Ok-receipt_of.ensures;
}
