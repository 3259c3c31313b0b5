use Rattle.std.proofs.lemmas.Result.{err_from_is_err_and}
use Rattle.ipfix_message.specs.Domains.{alone}
use Rattle.ipfix_datagrams.specs.Datagrams.{preparation_by, prepared}
use Rattle.ipfix_datagrams.proofs.Attempted.{attempt_fails, attempt_reads}
use Rattle.ipfix_datagrams.proofs.attempt.attempt.Goals as goal

pub returns-in_err-decode_with_header : goal.returns-in_err-decode_with_header
returns-in_err-decode_with_header c = λ ds ready.
    let h = c.args.header.now in
    let p = preparation_by c.args.withdrawn.now c.args.defined.now in
    let f = c.in_ok-alone.ensures ds ready in
    let e = err_from_is_err_and c.from_residual-in_err-decode_with_header.result c.from_residual-in_err-decode_with_header.ensures.1 in
    rw (e.1, e.2) (attempt_fails ds c.args.datagram.now h p c.in_err-decode_with_header.field-0.0 c.requires.header ready.room ready.can (c.in_err-decode_with_header.ensures.gives f.fresh (prepared (alone ds h.domain) h.domain p) f.stands))

pub returns : goal.returns
returns c = λ ds ready.
    let h = c.args.header.now in
    let p = preparation_by c.args.withdrawn.now c.args.defined.now in
    let f = c.in_ok-alone.ensures ds ready in
    let r = c.in_ok-decode_with_header.ensures.gives f.fresh (prepared (alone ds h.domain) h.domain p) f.stands in
    attempt_reads ds c.args.datagram.now h p r.0 c.decode_with_header.new.self c.requires.header ready.room ready.can r.1 (record { fresh = c.in_ok-decode_with_header.ensures.ok; stands = r.3 })
