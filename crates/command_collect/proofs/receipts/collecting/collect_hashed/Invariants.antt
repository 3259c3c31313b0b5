use Rattle.command_collect.proofs.Placed.{texts_of}
use Rattle.command_collect.proofs.receipts.collecting.collect_hashed.Given as goal

abbrev pub ghosts-collect_from : goal.ghosts-collect_from
ghosts-collect_from g a = record { texts = texts_of g.S.Source.seen a.sources.items }
