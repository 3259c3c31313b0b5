use Rattle.std.proofs.Common.{sym, subst, ◌∙◌}
use Rattle.std.specs.Net.Grammar.{IsIpText}
use Rattle.exporter_names.proofs.Cuts.{no_seam, one_cut}
use Rattle.exporter_names.proofs.told_exporter.ToldExporter.parse.Goals as goal

pub returns-in_err-file : goal.returns-in_err-file
returns-in_err-file c = rw c.from_residual.ensures (λ told is. no_seam 61 _ told.file.now is.text c.in_err-file.ensures is.word_is)

pub returns-in_err-address : goal.returns-in_err-address
returns-in_err-address c = rw c.from_residual-in_err-address.ensures (λ told is.
    let parts = c.in_ok-file.ensures in
    let same = one_cut 61 told.file.now _ is.text _ is.last parts.1 (sym is.word_is ∙ parts.0) in
    c.in_err-address.ensures told.address (subst (λ t. IsIpText t told.address) same.1 is.address))

pub returns : goal.returns
returns c =
    let parts = c.in_ok-file.ensures in
    record { text = c.in_ok-file.text.now; word_is = parts.0; last = parts.1; address = c.in_ok-address.ensures }
