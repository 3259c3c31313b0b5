use Rattle.command_collect.proofs.receipts.hashed_table.export_hashed.Given as goal

abbrev pub ghosts-export_from : goal.ghosts-export_from
ghosts-export_from g a = record { contents = g.W.Write.contents a.out }
