use Rattle.std.proofs.Common.{◌≡◌, ◌&&◌, ℕ, Bool, Option, List, refl, eqb, ap, ap₂, ◌∙◌, inr, sym, true, false}
use Rattle.std.specs.Prelude.{◌||◌, option_copied, flat_map, reverse}
use Rattle.std.specs.List.{list_any}
use Rattle.std.specs.Ordering.{nat_cmp}
use Rattle.std.specs.BTreeMap.{BTreeMap, get}
use Rattle.ipfix_message.specs.declared.record.Template.{Template}
use Rattle.ipfix_message.specs.Sets.{sets_of}
use Rattle.ipfix_datagrams.specs.Datagrams.{barred_in, definition_of, events_of_set, has_data_set, is_changed, last_definition, template_in}
use Rattle.ipfix_datagrams.specs.Late.{Withheld, is_later, later_in, moment_of, time_at, time_in}
use Rattle.ipfix_datagrams.specs.declared.moment.Moment.{Moment}
use Rattle.ipfix_datagrams.proofs.DataSets.{ids_of}
use Rattle.ipfix_datagrams.proofs.LateIds.{any_mapped, changes_none, changes_one}
use Rattle.ipfix_datagrams.proofs.Weighed.{is_changed_here}
use Rattle.ipfix_datagrams.proofs.withholding.barred_late.Goals as goal

pub returns-then-has_later-clause-refused : goal.returns-then-has_later-clause-refused
returns-then-has_later-clause-refused c = λ ds represents keeps.
    let m = c.args.datagram.now in
    let h = c.args.header.now in
    let d = h.domain in
    let k = c.args.known.now in
    let at : Moment = moment_of h c.args.second in
    let withheld : Withheld = later_in k.reorder at (time_at k.times d) in
    let last : (id : ℕ) → get nat_cmp c.in_ok-definitions.definitions.last id ≡ last_definition m id = λ id.
    c.in_ok-definitions.ensures.defines.last id ∙ ap (λ (w : List ℕ). definition_of (reverse (flat_map events_of_set (sets_of w).items)) id) c.after_header-sets.ensures.octets in
    let are : (id : ℕ) → list_any (λ b. eqb b id) c.in_ok-changed.changed.items ≡ is_changed ds m d id = λ id.
    c.in_ok-changed.ensures id
    ∙ is_changed_here ds m d d id (get nat_cmp c.in_ok-definitions.definitions.last id) (template_in (option_copied c.templates.result) id) (template_in (option_copied c.get.result) id) (last id) (c.templates.ensures.found represents.fresh ds represents.stands id)
    (ap (λ (o : Option (BTreeMap ℕ Template)). template_in o id) c.get.ensures.value ∙ keeps.withdrawn.at d id) refl in
    let any : list_any withheld c.in_ok-changed.changed.items ≡ true =
    sym (c.has_later.ensures ∙ ap₂ (λ (o : Option (BTreeMap ℕ Moment)) (xs : List ℕ). list_any (λ id. is_later k.reorder at (time_in o id)) xs) c.get-times.ensures.value c.deref.ensures.value) ∙ c.if-has_later.true in
    inr (changes_one withheld ds m d c.in_ok-changed.changed.items are any, refl)

pub returns-clause-read : goal.returns-clause-read
returns-clause-read c = λ ds represents keeps.
    let m = c.args.datagram.now in
    let h = c.args.header.now in
    let d = h.domain in
    let k = c.args.known.now in
    let at : Moment = moment_of h c.args.second in
    let withheld : Withheld = later_in k.reorder at (time_at k.times d) in
    let last : (id : ℕ) → get nat_cmp c.in_ok-definitions.definitions.last id ≡ last_definition m id = λ id.
    c.in_ok-definitions.ensures.defines.last id ∙ ap (λ (w : List ℕ). definition_of (reverse (flat_map events_of_set (sets_of w).items)) id) c.after_header-sets.ensures.octets in
    let are : (id : ℕ) → list_any (λ b. eqb b id) c.in_ok-changed.changed.items ≡ is_changed ds m d id = λ id.
    c.in_ok-changed.ensures id
    ∙ is_changed_here ds m d d id (get nat_cmp c.in_ok-definitions.definitions.last id) (template_in (option_copied c.templates.result) id) (template_in (option_copied c.get.result) id) (last id) (c.templates.ensures.found represents.fresh ds represents.stands id)
    (ap (λ (o : Option (BTreeMap ℕ Template)). template_in o id) c.get.ensures.value ∙ keeps.withdrawn.at d id) refl in
    let none : list_any withheld c.in_ok-changed.changed.items ≡ false =
    sym (c.has_later.ensures ∙ ap₂ (λ (o : Option (BTreeMap ℕ Moment)) (xs : List ℕ). list_any (λ id. is_later k.reorder at (time_in o id)) xs) c.get-times.ensures.value c.deref.ensures.value) ∙ c.if-has_later.false in
    let ids : (q : ℕ) → list_any (λ id. eqb q id) c.deref-2.result.now ≡ has_data_set m q = λ q.
    ap (λ (xs : List ℕ). list_any (λ id. eqb q id) xs) (c.deref-2.ensures.value ∙ c.in_ok-ids.ensures ∙ ap ids_of c.after_header-sets.ensures.octets) ∙ any_mapped q m in
    record {
      none = changes_none withheld ds m d c.in_ok-changed.changed.items are none;
      ids = λ q. c.in_ok-all.ensures q
          ∙ ap₂ (λ (xs : List ℕ) (b : Bool). list_any (λ b. eqb b q) xs || (b && is_later k.reorder at (time_in (option_copied c.get-times.result) q))) c.barred_in-barred.ensures (ids q)
          ∙ ap (λ (o : Option (BTreeMap ℕ Moment)). list_any (λ b. eqb b q) (barred_in k.barred d) || (has_data_set m q && is_later k.reorder at (time_in o q))) c.get-times.ensures.value;
    }
