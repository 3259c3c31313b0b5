use Rattle.std.proofs.Common.{◌≡◌, [], length, rules}
use Rattle.std.specs.Prelude.{Some, vec_len}
use Rattle.command_collect.specs.Exporters.{in_noting_context}
use Rattle.command_collect.proofs.Ran.{of_gathered}
use Rattle.command_collect.proofs.Refused.{job_fault}
use Rattle.flow_collect.proofs.Contexts.{first_in_context}
use Rattle.command_collect.specs.Digests.{AreDigestsOf}
use Rattle.command_collect.specs.ReceiptedRuns.{IsMade}
use Rattle.table_receipts.specs.Values.{receipt_value}
use Rattle.output_tables.specs.TableTexts.{export_text}
use Rattle.command_collect.proofs.ReceiptsCollected.{not_put_of}
use Rattle.command_collect.proofs.receipts.remaking.remake.Goals as goal

pub returns-in-Err-clause-fault : goal.returns-in-Err-clause-fault
returns-in-Err-clause-fault g c =
    let same : vec_len c.args.sources ≡ length c.args.sources.items = search rules in
    job_fault _ _ _ _ c.args.job.now.engine c.in-Err.failure.fault same c.in-Err.ensures.faults

pub returns-in-Ok-remake_run-clause-remade : goal.returns-in-Ok-remake_run-clause-remade
returns-in-Ok-remake_run-clause-remade g c =
    let by = c.in-Ok.ensures.ok in
    let run = c.in-Ok.run' in
    let job = c.args.job.now in
    let given = in_noting_context job c.args.sources.items c.args.origins.now in
    let digests = run.digests.items in
    let remade = c.in-Ok-remake_run.remade in
    record {
      collected = by.collected;
      collects = by.collects;
      first = λ texts t. first_in_context g.S.Source.seen given by.collected.sources.items by.collected.sessions.items by.collects.headline.records texts by.collects.headline.given t;
      text_is = of_gathered (λ sources fulls samplings times table n. remade.text.items ≡ export_text job.elements.now job.output job.plan.now table) by.collected run.gathered by.gathered c.in-Ok-remake_run.ensures.text;
      digests = digests;
      are_digests = of_gathered (λ sources fulls samplings times table n. AreDigestsOf g.S.Source.seen c.args.sources.items fulls digests) by.collected run.gathered by.gathered c.in-Ok.ensures.digests;
      is_made = of_gathered (λ sources fulls samplings times table n. IsMade c.args.made job c.args.origins.now fulls samplings digests (Some []) table (receipt_value remade.receipt)) by.collected run.gathered by.gathered c.in-Ok-remake_run.ensures.made;
    }

pub returns-clause-fault : goal.returns-clause-fault
returns-clause-fault g c =
    let by = c.in-Ok.ensures.ok in
    let run = c.in-Ok.run' in
    let digests = run.digests.items in
    record {
      collected = by.collected;
      collects = by.collects;
      not_put = record {
        digests = digests;
        are_digests = of_gathered (λ sources fulls samplings times table n. AreDigestsOf g.S.Source.seen c.args.sources.items fulls digests) by.collected run.gathered by.gathered c.in-Ok.ensures.digests;
        ends = not_put_of c.args.job.now c.args.origins.now digests (Unit {0}) c.in-Err-remake_run.fault by.collected run.gathered by.gathered c.in-Err-remake_run.ensures.not_made;
      };
    }
