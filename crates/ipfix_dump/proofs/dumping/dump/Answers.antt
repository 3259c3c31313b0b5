use Rattle.ipfix_dump.proofs.dumping.dump.Goals as goal

pub returns : goal.returns
returns g c = let full = rw c.built_in-elements.ensures at c.in_ok-full.ensures in full.dumps
