use Rattle.std.proofs.Common.{◌≡◌, ◌+◌, ◌++◌, ◌∷◌, [], length, length-append, get_or, subst, None, rules}
use Rattle.std.specs.Slice.Iter.{iter_rest}
use Rattle.std.specs.Iterator.Adapters.{zip_first, zip_second}
use Rattle.std.proofs.lemmas.Slice.Zip.{zip_turn}
use Rattle.ipfix_elements.specs.Elements.{iana}
use Rattle.ipfix_elements.specs.declared.kind.Kind.{Kind}
use Rattle.ipfix_elements.specs.declared.kind.Kind.TheVariants.{Unsigned}
use Rattle.ipfix_elements.specs.declared.kind.Width.TheVariants.{One}
use Rattle.flow_table.specs.declared.key.Key.{Key}
use Rattle.flow_export.specs.SpecOctets.{key_octets}
use Rattle.flow_export.proofs.TemplateParts.{specs_more}
use Rattle.flow_export.proofs.ipfix_text.template.append_key_specs.Goals as goal

-- where there is no key, and no kind
abbrev no_key : Key
no_key = record { element = iana 0; prefix = None }

abbrev no_kind : Kind
no_kind = Unsigned One

pub loop-key-preserved : goal.loop-key-preserved
loop-key-preserved c =
    let keys = c.args.keys.now in
    let kinds = c.args.kinds.now in
    let i = length c.loop-key.yielded in
    let before = c.loop-key.out.items in
    let after = c.write_spec.new.out.items in
    let first : iter_rest (zip_first c.into_iter-key-iterator.result) ≡ keys = search in
    let second : iter_rest (zip_second c.into_iter-key-iterator.result) ≡ kinds = search in
    let turn = zip_turn keys kinds c.loop-key.yielded _ _ c.next.new.self _ first second c.loop-key.yielded_by (c.in-Some.key, c.in-Some.kind) c.in-Some.is c.next.ensures.steps in
    let pushed : after ≡ before ++ key_octets (c.in-Some.key.now, c.in-Some.kind.now) = search rules in
    let of_key : after ≡ before ++ key_octets (get_or keys i no_key, c.in-Some.kind.now) =
    subst (λ (k : Key). after ≡ before ++ key_octets (k, c.in-Some.kind.now)) (turn.2 no_key) pushed in
    let here : after ≡ before ++ key_octets (get_or keys i no_key, get_or kinds i no_kind) =
    subst (λ (k : Kind). after ≡ before ++ key_octets (get_or keys i no_key, k)) (turn.3 no_kind) of_key in
    let next : length (c.loop-key.yielded ++ (c.in-Some.key, c.in-Some.kind) ∷ []) ≡ i + 1 = length-append c.loop-key.yielded ((c.in-Some.key, c.in-Some.kind) ∷ []) in
    rw next (specs_more keys kinds i no_key no_kind c.args.out.now.items before after turn.0 turn.1 c.loop-key.invariant here)
