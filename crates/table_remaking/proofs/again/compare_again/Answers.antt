use Rattle.std.proofs.Common.{◌∙◌, sym}
use Rattle.table_receipts.specs.Values.{receipt_value}
use Rattle.table_remaking.proofs.Verified.{verified_of}
use Rattle.table_remaking.proofs.again.compare_again.Goals as goal

pub returns-in-Ok-lines_of-clause-compared : goal.returns-in-Ok-lines_of-clause-compared
returns-in-Ok-lines_of-clause-compared g c =
    let remade = c.in-Ok.remade in
    let said = receipt_value c.args.there.now.receipt.now in
    let made = c.made_with_nothing.result in
    record {
      job = c.collect_job-job.result;
      is_job = c.collect_job-job.ensures;
      made = made;
      remade = remade;
      is_remade = c.in-Ok.ensures.remade;
      lines_are = c.in-Ok-lines_of.ensures;
      verified = λ none. verified_of g.S.Source.seen c.collect_job-job.result made said c.args.there.now.table.now c.args.sources.items c.args.origins.now remade c.in-Ok.ensures.remade (sym c.in-Ok-lines_of.ensures ∙ none);
    }

pub returns-clause-fault : goal.returns-clause-fault
returns-clause-fault g c = record { job = c.collect_job-job.result; is_job = c.collect_job-job.ensures; not_remade = c.in-Err.ensures.fault }
