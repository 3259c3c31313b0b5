use Rattle.input_digests_tests.proofs.tests.drive_hashed.Given as goal

abbrev pub ghosts-drive_from : goal.ghosts-drive_from
ghosts-drive_from g a = record { texts = λ place. (g.S.Source.seen a.source).text }
