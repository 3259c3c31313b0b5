use Rattle.std.proofs.Common.{◌≡◌, ◌∷◌, ◌&&◌, ℕ, Bool, List, Option, eqb, sym, ap, subst, ◌∙◌, rules}
use Rattle.std.specs.Prelude.{◌||◌, option_copied}
use Rattle.std.specs.List.{list_any}
use Rattle.std.specs.Option.{option_or}
use Rattle.std.specs.Ordering.{nat_cmp}
use Rattle.std.specs.BTreeMap.{get, keys}
use Rattle.ipfix_message.specs.declared.record.Template.{Template}
use Rattle.ipfix_datagrams.specs.Datagrams.{is_changed_by, template_in}
use Rattle.ipfix_datagrams.proofs.Weighed.{Listing, listing_first, listing_more}
use Rattle.ipfix_datagrams.proofs.changes.changed.Goals as goal

pub loop-id-init : goal.loop-id-init
loop-id-init c =
    let all : c.into_iter-id-iterator.result ≡ keys c.args.last.now = search rules in
    let known : ℕ → Option Template = λ q. option_or (template_in (option_copied c.args.in_force) q) (template_in (option_copied c.args.withdrawn) q) in
    let f : ℕ → Bool = λ q. is_changed_by (get nat_cmp c.args.last.now q) (known q) in
    subst (λ (ks : List ℕ). Listing f (λ q. list_any (λ b. eqb b q) c.new-ids.result.items) ks) (sym all)
    (subst (λ (xs : List ℕ). Listing f (λ q. list_any (λ b. eqb b q) xs) (keys c.args.last.now)) (sym c.new-ids.ensures.items) (listing_first c.args.last.now known))

pub loop-id-preserved : goal.loop-id-preserved
loop-id-preserved c =
    let step : c.loop-id.id-iterator ≡ c.in-Some.id.now ∷ c.next.new.self = search rules in
    let known : ℕ → Option Template = λ q. option_or (template_in (option_copied c.args.in_force) q) (template_in (option_copied c.args.withdrawn) q) in
    let f : ℕ → Bool = λ q. is_changed_by (get nat_cmp c.args.last.now q) (known q) in
    let old : ℕ → Bool = λ q. list_any (λ b. eqb b q) c.loop-id.ids.items in
    let new : ℕ → Bool = λ q. list_any (λ b. eqb b q) c.push_if.new.ids.items in
    let id = c.in-Some.id.now in
    listing_more f old new id c.next.new.self (subst (λ (ks : List ℕ). Listing f old ks) step c.loop-id.invariant)
    (λ q. c.in_ok-push_if.ensures q ∙ ap (λ (b : Bool). old q || (b && eqb id q)) (c.is_changed.ensures ∙ ap (is_changed_by (get nat_cmp c.args.last.now id)) c.known_of-known.ensures))
