use Rattle.std.proofs.Common.{◌≡◌, ◌+◌, ◌*◌, ◌-◌, length, refl, sym, ap, ◌∙◌, arith, drop}
use Rattle.std.specs.Ordering.{nat_cmp, ordering_then}
use Rattle.std.specs.declared.cmp.Ordering.{Ordering}
use Rattle.flow_rows.specs.Rows.{words_cmp}
use Rattle.flow_rows.proofs.Joined.{pair, two_on, none_on, last_on, then_assoc}
use Rattle.flow_rows.proofs.numbers.order_words.Goals as goal

pub loop-i-init : goal.loop-i-init
loop-i-init c = refl

pub loop-i-preserved : goal.loop-i-preserved
loop-i-preserved c =
    let xs = c.args.a.now in
    let ys = c.args.b.now in
    let n = 2 * c.loop-i.i in
    let on = two_on xs ys n (omega arith) c.requires (omega (arith, c.type_inv.a (n + 1))) (omega (arith, c.type_inv.b (n + 1))) in
    let next : n + 1 + 1 ≡ 2 * (c.loop-i.i + 1) = omega arith in
    let on = rw next at on in
    let rest = words_cmp (drop (2 * (c.loop-i.i + 1)) xs) (drop (2 * (c.loop-i.i + 1)) ys) in
    let order : c.then-order.result ≡ ordering_then c.loop-i.order (nat_cmp (pair xs n) (pair ys n)) = rw (c.then-order.ensures, c.cmp.ensures, c.join.ensures, c.join-in-loop-i.ensures) refl in
    c.loop-i.invariant ∙ ap (ordering_then c.loop-i.order) on ∙ sym (then_assoc c.loop-i.order (nat_cmp (pair xs n) (pair ys n)) rest) ∙ ap (λ (o : Ordering). ordering_then o rest) (sym order)

pub returns-then-a-eq1 : goal.returns-then-a-eq1
returns-then-a-eq1 c =
    let xs = c.args.a.now in
    let last : 2 * c.loop-i.i ≡ length xs - 1 = omega arith in
    let on = last_on c.loop-i.order xs c.args.b.now (2 * c.loop-i.i) (omega arith) c.requires c.loop-i.invariant in
    rw (c.then-order-then-a-eq1.ensures, c.cmp-then-a-eq1.ensures) (rw last at on)

pub returns-else-a-eq1 : goal.returns-else-a-eq1
returns-else-a-eq1 c = none_on c.loop-i.order c.args.a.now c.args.b.now (2 * c.loop-i.i) (omega arith) c.requires c.loop-i.invariant
