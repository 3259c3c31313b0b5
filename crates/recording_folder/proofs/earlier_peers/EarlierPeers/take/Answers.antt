use Rattle.std.proofs.Common.{◌≡◌, List, ℕ, sym, ap, ap₂, subst, ◌∙◌}
use Rattle.std.specs.Prelude.{decimal}
use Rattle.std.specs.Map.{lookup}
use Rattle.std.specs.Option.{option_map_or}
use Rattle.std.specs.Ordering.{nat_cmp}
use Rattle.std.specs.BTreeMap.{BTreeMap, is_at}
use Rattle.recording_names.specs.SessionNames.{address_name, hyphened}
use Rattle.recording_resumption.specs.declared.earlier_domain.EarlierDomain.{EarlierDomain}
use Rattle.recording_folder.specs.EarlierPeers.{IsHandedOver, kept_of, name_of}
use Rattle.recording_folder.proofs.PeerFiles.{handed_over}
use Rattle.recording_folder.proofs.earlier_peers.EarlierPeers.take.Goals as goal

-- the text of a name, by what it is made of
named : (text name address : List ℕ) (n : ℕ) (address' : List ℕ) (n' : ℕ) → text ≡ name → name ≡ hyphened address (decimal n) → address ≡ address' → n ≡ n' → text ≡ hyphened address' (decimal n')
named text name address n address' n' is made a p = is ∙ made ∙ ap₂ (λ (b : List ℕ) (m : ℕ). hyphened b (decimal m)) a p

pub returns-clause-left : goal.returns-clause-left
returns-clause-left c = λ notes h.
    let name : c.as_str-2.result.now ≡ name_of c.args.peer = named _ _ _ _ _ _ c.as_str-2.ensures.value c.in_ok-name.ensures (c.as_str.ensures.value ∙ c.in_ok-address.ensures ∙ ap address_name c.ip.ensures) c.port.ensures in
    let left = c.replace_domains.ensures.before ∙ ap (λ (t : List ℕ). option_map_or (λ p. p.domains) (kept_of c.args.self.now t) c.new.result) name in
    subst (λ (d : BTreeMap ℕ EarlierDomain). IsHandedOver notes (name_of c.args.peer) d) (sym left)
    (handed_over c.args.self.now notes (name_of c.args.peer) c.new.result h (λ domain. ap (λ (es : List (ℕ × EarlierDomain)). lookup (is_at (nat_cmp domain)) es) c.new.ensures.empty))
