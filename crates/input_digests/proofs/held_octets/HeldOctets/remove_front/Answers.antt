use Rattle.std.proofs.Common.{ap, ◌≡◌, length, take, drop, ◌∙◌, ◌-◌, ◌≤◌, ℕ, List, arith, rules}
use Rattle.input_digests.proofs.Fronts.{moved_front}
use Rattle.input_digests.proofs.held_octets.HeldOctets.remove_front.Goals as goal

pub returns : goal.returns
returns c =
    let all : c.len-count.result ≡ length c.self.inside.octets.items = search rules in
    let within : c.args.due ≤ c.len-count.result = omega (arith, ap length c.self.view_is) in
    c.truncate.ensures.items
    ∙ ap (take (c.len-count.result - c.args.due)) c.copy_within.ensures.items
    ∙ moved_front c.self.inside.octets.items c.args.due c.len-count.result within all
    ∙ ap (λ (xs : List ℕ). drop c.args.due xs) c.self.view_is
