use Rattle.std.proofs.Common.{◌≡◌, ℕ, List, ◌++◌, take, sym, ap, ◌∙◌, arith}
use Rattle.sha2.specs.Sha256.{sha256}
use Rattle.input_digests.proofs.Fronts.{taken}
use Rattle.input_digests.proofs.front_digest.FrontDigest.finish.Goals as goal

pub returns-clause-found : goal.returns-clause-found
returns-clause-found c sure text read small =
    let rest = c.in_ok-rest.rest in
    let h = read.holds in
    let held : c.as_slice-held.result.now ≡ c.args.self.held = c.as_slice-held.ensures in
    c.finalize.ensures _ (c.update.ensures read.front h.hashed)
    ∙ ap (λ (octets : List ℕ). sha256 (read.front ++ take rest octets)) held
    ∙ ap sha256 (sym (taken read.front c.args.self.held text c.args.octets c.args.self.hashed rest h.text_is h.count small (omega (arith, c.in_ok-rest.ensures))))
