use Rattle.std.proofs.Common.{◌≡◌, ◌+◌, ◌*◌, ◌++◌, ℕ, Ok, length, refl, ap, subst, ◌∙◌, arith}
use Rattle.ipfix_wire.specs.declared.header.Header.{Header}
use Rattle.ipfix_wire.specs.MessageHeader.{header_octets, header_at}
use Rattle.ipfix_datagrams.specs.Withdrawals.{withdrawal_header, withdrawal_sets}
use Rattle.ipfix_datagrams.proofs.Withdrawn.{header_is, always, written, sized}
use Rattle.ipfix_datagrams.proofs.withdrawal.append_withdrawals.Goals as goal

-- a header with this length
abbrev with_length : Header → ℕ → Header
with_length h n = record h { length = n }

pub returns-clause-octets : goal.returns-clause-octets
returns-clause-octets c =
    let h = c.args.header.now in
    let ws = c.args.templates.now in
    let size : 16 + length ws * 8 ≡ 16 + length (withdrawal_sets ws) = omega (arith, sized ws) in
    written c.append_sets.result c.append_sets.new.out.items c.write_header.new.out.items c.args.out.now.items (header_octets (withdrawal_header h ws)) (withdrawal_sets ws) (withdrawal_sets ws)
    (c.in_ok-write_header.ensures.ok ∙ ap (λ (n : ℕ). c.args.out.now.items ++ header_octets (with_length h n)) size) refl c.append_sets.ensures

pub returns-clause-header : goal.returns-clause-header
returns-clause-header c =
    let h = c.args.header.now in
    let ws = c.args.templates.now in
    let size : 16 + length ws * 8 ≡ 16 + length (withdrawal_sets ws) = omega (arith, sized ws) in
    always c.append_sets.result
    (header_is h ws (subst (λ (n : ℕ). header_at (header_octets (with_length h n) ++ withdrawal_sets ws) ≡ Ok (with_length h n)) size (c.write_header.ensures.again (omega arith) (withdrawal_sets ws))))
