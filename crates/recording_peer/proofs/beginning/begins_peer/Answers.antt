use Rattle.std.proofs.Common.{◌≡◌, List, [], Some, None, subst, rules}
use Rattle.std.specs.Prelude.{IfOk}
use Rattle.std.specs.Ordering.{nat_cmp}
use Rattle.std.specs.BTreeMap.{get, values}
use Rattle.ipfix_message.specs.declared.record.Template.{Template}
use Rattle.ipfix_datagrams.proofs.Answered.{bad_header_refused, no_values}
use Rattle.recording_resumption.specs.Resumption.{resumed_by}
use Rattle.recording_peer.specs.Beginnings.{BeginsAs, first_basis, resumed_first}
use Rattle.recording_peer.proofs.FirstDatagrams.{none_begun, with_resumed}
use Rattle.recording_peer.proofs.beginning.begins_peer.Goals as goal

pub returns-in-Err : goal.returns-in-Err
returns-in-Err c =
    let m = c.args.datagram.now in
    let ts = resumed_first c.args.earlier.now m in
    none_begun c.args.budget ts m c.in-Err.fault c.begins_none.result (bad_header_refused (first_basis ts) [] m _ c.in-Err.ensures.gives) c.begins_none.ensures

pub returns-in-Some : goal.returns-in-Some
returns-in-Some c =
    let h = c.in-Ok.header in
    let found : resumed_by (get nat_cmp c.args.earlier.now h.domain) h ≡ Some c.in-Some.domain.now = search rules in
    with_resumed c.args.earlier.now c.args.datagram.now h (Some c.in-Some.domain.now) c.begins_with.result c.args.budget c.in-Ok.ensures.gives found c.begins_with.ensures

pub returns-in-None : goal.returns-in-None
returns-in-None c =
    let h = c.in-Ok.header in
    let m = c.args.datagram.now in
    let found : resumed_by (get nat_cmp c.args.earlier.now h.domain) h ≡ None = search rules in
    let none : values c.new-none.result ≡ [] = no_values c.new-none.result c.new-none.ensures.len in
    with_resumed c.args.earlier.now m h None c.begins_with-in-None.result c.args.budget c.in-Ok.ensures.gives found
    (subst (λ (ts : List Template). IfOk c.begins_with-in-None.result (BeginsAs c.args.budget ts m)) none c.begins_with-in-None.ensures)
