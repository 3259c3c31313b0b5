use Rattle.std.proofs.Common.{◌∙◌, ℕ, List, inr, subst, sym}
use Rattle.report_writing.specs.Told.{AreToldTo}
use Rattle.table_receipts.specs.Values.{receipt_value}
use Rattle.command_verify.specs.Again.{ComparesFiles}
use Rattle.command_verify.proofs.verify.run_verify.Goals as goal

pub returns-clause-verifies : goal.returns-clause-verifies
returns-clause-verifies g c =
    let said = receipt_value c.in-Ok-receipt_in.receipt in
    let told = AreToldTo g.E.WriteLines.lines c.args.err.now c.compare_files.new.err in
    inr (inr (inr (record {
      receipt = said;
      has = subst (λ (t : List ℕ). g.T.ReadText.has c.args.texts.now c.args.job.now.receipt.now t) (sym (c.in-Ok-receipt_in.ensures.ok ∙ c.deref.ensures.value)) c.in-Ok.ensures.text;
      table = c.in-Ok-read_text.table.items;
      has_table = c.in-Ok-read_text.ensures.text;
      compares = subst (λ (octets : List ℕ). ComparesFiles g.S.Source.seen c.args.job.now (record { said = said; table = octets }) c.compare_files.result g.O.OpenSource.opens g.O.OpenSource.sizes g.O.OpenSource.refuses g.O.OpenSource.coming
          c.args.files.now c.compare_files.new.files told (g.T.ReadText.has c.args.texts.now) (g.T.ReadText.refuses c.args.texts.now) c.args.elements) c.deref-2.ensures.value c.compare_files.ensures.compares;
    })))
