use Rattle.ipfix_datagrams.specs.Datagrams.{basis_of, preparation_of}
use Rattle.ipfix_datagrams.proofs.Kept.{record_domain}
use Rattle.ipfix_datagrams.proofs.reading.read_datagram.Goals as goal

pub returns-clause-reads : goal.returns-clause-reads
returns-clause-reads c = λ ds represents keeps.
    let m = c.args.datagram.now in
    let h = c.args.header.now in
    let basis = basis_of c.args.resumed.now c.args.barred.now in
    let r = c.in_ok-reading.reading in
    let x = c.in_ok-reading.ensures.reads ds represents keeps in
    c.in_ok-answer.ensures.answers (record {
      basis = basis;
      history = ds;
      datagram = m;
      given = x.0;
      represents = represents;
      reading = x.1;
      of_domain = record_domain basis ds m x.0 (preparation_of r) h c.requires x.1.taken;
    }) keeps
