-- The templates of a map are those in force.
use Rattle.std.proofs.Common.{◌≡◌, ℕ, List, length, map, Some, sym, ap, ◌∙◌, arith}
use Rattle.std.specs.Prelude.{Contains}
use Rattle.std.specs.Ordering.{nat_cmp}
use Rattle.std.specs.BTreeMap.{BTreeMap, get, values, IsOrdered}
use Rattle.std.proofs.lemmas.Cmp.{nat_cmp_total}
use Rattle.std.proofs.lemmas.Map.Lookups.{exact_unsigned}
use Rattle.std.proofs.lemmas.Map.Views.{All-found, btree_map_get_iff}
use Rattle.std.proofs.lemmas.List.{length-map, get_or-map}
use Rattle.std.proofs.lemmas.List.Elements.{All-map, All-weaker}
use Rattle.ipfix_message.proofs.LastDefinition.{in_force-found}
use Rattle.ipfix_message.specs.TemplatesInForce.{in_force}
use Rattle.ipfix_message.specs.declared.record.Template.{Template}
use Rattle.ipfix_message.specs.declared.template_record.Event.{Event}
use Rattle.ipfix_session.specs.TemplateLists.{AreInForce}

abbrev Stands : List Event → Template → Type 0
Stands es t = in_force es t.id ≡ Some t

abbrev Found : BTreeMap ℕ Template → ℕ × Template → Type 0
Found m e = get nat_cmp m e.0 ≡ Some e.1

-- a map in order, which has the template in force for each id
contains_map : {X Y : Type 0} (f : X → Y) (xs : List X) (x : X) → Contains xs x → Contains (map f xs) (f x)
contains_map f xs x c = let size : length (map f xs) ≡ length xs = length-map _ _ in (c.0, omega (arith, c.1, size), get_or-map f xs c.0 x (f x) c.1 ∙ ap f c.2)

pub map_in_force : (m : BTreeMap ℕ Template) (es : List Event) → IsOrdered nat_cmp m → ((id : ℕ) → get nat_cmp m id ≡ in_force es id) → AreInForce (values m) es
map_in_force m es ordered same = record {
  each = All-map (Stands es) (λ (e : ℕ × Template). e.1) m.entries (All-weaker (Found m) (λ e. Stands es e.1) (λ e found.
      let there : in_force es e.0 ≡ Some e.1 = sym (same e.0) ∙ found in
      let id : e.1.id ≡ e.0 = (in_force-found es e.0 e.1 there).0 in
      ap (in_force es) id ∙ there) m.entries (All-found nat_cmp_total m ordered));
  all = λ t there. contains_map (λ (e : ℕ × Template). e.1) m.entries (t.id, t) ((btree_map_get_iff nat_cmp_total exact_unsigned m ordered t.id t).0 (same t.id ∙ there));
}
