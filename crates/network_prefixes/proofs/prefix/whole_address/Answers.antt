use Rattle.network_prefixes.proofs.prefix.whole_address.Goals as goal

pub returns-in-Err-clause-parsed : goal.returns-in-Err-clause-parsed
returns-in-Err-clause-parsed c p whole = c.in-Err.ensures p.address whole.address
