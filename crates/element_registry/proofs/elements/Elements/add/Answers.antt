use Rattle.std.proofs.Common.{◌≡◌, [], ◌∷◌, ◌++◌, false, ap, map, sym, ◌∙◌, subst}
use Rattle.std.specs.Prelude.{find, is_some}
use Rattle.std.proofs.lemmas.List.{map-append}
use Rattle.element_registry.specs.Places.{AreNoted}
use Rattle.element_registry.specs.Registries.{IsRegistry, element_by_name, is_of, shown}
use Rattle.element_registry.proofs.Adding.{added, none_seen}
use Rattle.element_registry.proofs.elements.Elements.add.Goals as goal

pub invariant_of-self-2 : goal.invariant_of-self-2
invariant_of-self-2 c =
    let known = map shown c.self.inside.entries.items in
    let number : is_some (find (is_of c.args.entry.element) known) ≡ false =
    none_seen (λ k. shown k.now) c.find_entry.result _ (rw (← c.self.view_is) at c.find_entry.ensures.found) (sym c.is_some.ensures ∙ c.if-is_some.false) in
    let name : is_some (element_by_name known (shown c.args.entry).name) ≡ false =
    ap is_some (sym (rw (c.as_str.ensures.value, ← c.self.view_is) at c.by_name.ensures)) ∙ sym c.is_some-2.ensures ∙ c.if-is_some-2.false in
    let noted : AreNoted c.note.new.self (known ++ shown c.args.entry ∷ []) = rw c.deref.ensures.value at c.in_ok-note.ensures.ok in
    let more : map shown c.push.new.self.items ≡ known ++ shown c.args.entry ∷ [] = ap (map shown) c.in_ok-push.ensures.items ∙ map-append shown c.self.inside.entries.items (c.args.entry ∷ []) in
    (subst IsRegistry (sym more) (added known (shown c.args.entry) c.self.invariant.0 c.requires number name), subst (AreNoted c.note.new.self) (sym more) noted)
