use Rattle.std.proofs.Common.{◌≡◌, true, false, length, is_some, sym, subst, rules}
use Rattle.std.specs.Prelude.{nat_eq}
use Rattle.indexmap.specs.IndexMap.{get}
use Rattle.ipfix_message.specs.Domains.{DomainsView, StandsFor}
use Rattle.ipfix_message.specs.Kept.{kept}
use Rattle.ipfix_message.proofs.History.{has_room-known, has_room-new}
use Rattle.ipfix_message.proofs.domains.Domains.has_room.Goals as goal

pub returns-then-contains_key : goal.returns-then-contains_key
returns-then-contains_key c = λ ds stands.
    let inside : StandsFor (kept c.self.inside.known.entries) ds = subst (λ (s : DomainsView). StandsFor s.domains ds) (sym c.self.view_is) stands in
    let there : is_some (get nat_eq c.self.inside.known c.args.domain) ≡ true = search rules in
    has_room-known c.self.inside.known.entries ds c.args.domain inside there

pub returns : goal.returns
returns c = λ ds stands.
    let inside : StandsFor (kept c.self.inside.known.entries) ds = subst (λ (s : DomainsView). StandsFor s.domains ds) (sym c.self.view_is) stands in
    let new : is_some (get nat_eq c.self.inside.known c.args.domain) ≡ false = search rules in
    let size : c.len.result ≡ length c.self.inside.known.entries = search rules in
    has_room-new c.self.inside.known.entries ds c.args.domain c.len.result inside new size
