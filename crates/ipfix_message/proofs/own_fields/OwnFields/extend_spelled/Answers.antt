use Rattle.std.proofs.Common.{◌≡◌, true, Result, Ok, Err, arith}
use Rattle.std.specs.Prelude.{OnOk}
use Rattle.std.specs.Result.{is_ok}
use Rattle.ipfix_message.proofs.Tails.{extended}
use Rattle.ipfix_message.proofs.own_fields.OwnFields.extend_spelled.Goals as goal

on_ok : {X E : Type 0} {P : Type 0} (r : Result X E) → P → OnOk r P
on_ok (Ok x) p = p
on_ok (Err e) p = tt

pub invariant_of-self-2 : goal.invariant_of-self-2
invariant_of-self-2 c =
    let fits : is_ok c.extend_from_slice-2.result ≡ true = c.extend_from_slice-2.ensures.succeeds (omega (arith, c.in_ok-reserve.ensures.ok)) in
    let items = rw fits at c.extend_from_slice-2.ensures.items in
    rw (items, c.reserve.ensures.items, c.in_ok-extend_from_slice.ensures.items)
    (extended c.self.inside.specs.items c.args.specs.now c.self.inside.octets.items c.args.octets.now c.self.invariant c.requires).spelled

pub returns-clause-ok : goal.returns-clause-ok
returns-clause-ok c =
    let fits : is_ok c.extend_from_slice-2.result ≡ true = c.extend_from_slice-2.ensures.succeeds (omega (arith, c.in_ok-reserve.ensures.ok)) in
    let items = rw fits at c.extend_from_slice-2.ensures.items in
    on_ok c.extend_from_slice-2.result (rw (items, c.reserve.ensures.items, c.in_ok-extend_from_slice.ensures.items, ← c.self.view_is)
    (extended c.self.inside.specs.items c.args.specs.now c.self.inside.octets.items c.args.octets.now c.self.invariant c.requires).is)
