use Rattle.std.proofs.Common.{◌≡◌, ℕ, ◌-◌, length, take, drop, ap, ◌∙◌}
use Rattle.std.proofs.lemmas.List.{take_rest}
use Rattle.ipfix_message.proofs.History.{header_has_length}
use Rattle.ipfix_message.proofs.message.after_header.Goals as goal

pub returns-clause-octets : goal.returns-clause-octets
returns-clause-octets c =
    let size : c.from-length.result ≡ length c.args.message.now = c.from-length.ensures ∙ header_has_length c.args.message.now c.args.header.now c.requires in
    ap (λ (n : ℕ). take (n - 16) (drop 16 c.args.message.now)) size ∙ take_rest c.args.message.now 16
