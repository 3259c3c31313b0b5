use Rattle.recording_names.proofs.Hyphens.{port_is}
use Rattle.recording_names.proofs.session_names.read_parts.Goals as goal

pub returns-in_err-transport-clause-none : goal.returns-in_err-transport-clause-none
returns-in_err-transport-clause-none c = rw c.from_residual.ensures (λ s range parts. c.in_err-transport.ensures.none s.transport s.number (range.1, parts.1))

pub returns-in_err-address-clause-none : goal.returns-in_err-address-clause-none
returns-in_err-address-clause-none c = rw c.from_residual-in_err-address.ensures (λ s range parts. c.in_err-address.ensures.none s.address _ parts.0)

pub returns-in_err-port-clause-none : goal.returns-in_err-port-clause-none
returns-in_err-port-clause-none c = rw c.from_residual-in_err-port.ensures (λ s range parts.
    c.in_err-port.ensures.none s.port range.0 (port_is c.args.peer.now c.in_ok-address.address.now c.in_ok-address.digits.now s.address s.port (c.in_ok-address.ensures.parts, c.in_ok-address.ensures.last) range.0 parts.0))
