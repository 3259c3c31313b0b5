use Rattle.std.proofs.Common.{◌≡◌, ◌+◌, ◌∷◌, [], ◌++◌, List, length, length-append, get_or, None, subst, sym}
use Rattle.std.specs.List.{zip}
use Rattle.std.proofs.lemmas.Slice.Zip.{zip_turn}
use Rattle.std.specs.Slice.Iter.{iter_rest}
use Rattle.std.specs.Iterator.Adapters.{zip_first, zip_second}
use Rattle.ipfix_elements.specs.declared.cell.Cell.{Cell}
use Rattle.ipfix_message.specs.Fields.{Field}
use Rattle.ipfix_elements.specs.declared.kind.Kind.{Kind}
use Rattle.ipfix_elements.specs.declared.kind.Kind.TheVariants.{Unsigned}
use Rattle.ipfix_elements.specs.declared.kind.Width.TheVariants.{One}
use Rattle.flow_table.specs.declared.key.Key.{Key}
use Rattle.ipfix_elements.specs.Elements.{iana}
use Rattle.flow_export.specs.IpfixText.{key_field}
use Rattle.flow_merge.specs.InnerReading.{Begin, BeginEach, FitsKey}
use Rattle.flow_merge.proofs.Beginnings.{one_more, one_less, none_left}
use Rattle.flow_merge.proofs.Zipped.{take-zip, zip_at, zip_inside}
use Rattle.flow_merge.proofs.field_reading.next_cells.Goals as goal

-- where there is no key, and no kind
abbrev no_key : Key
no_key = record { element = iana 0; prefix = None }

abbrev no_kind : Kind
no_kind = Unsigned One

pub returns-in_default-clause-fault : goal.returns-in_default-clause-fault
returns-in_default-clause-fault c =
    let keys = c.args.keys.now in
    let kinds = c.args.kinds.now in
    let i = length c.loop-key.yielded in
    let first : iter_rest (zip_first c.into_iter-key-iterator.result) ≡ keys = search in
    let second : iter_rest (zip_second c.into_iter-key-iterator.result) ≡ kinds = search in
    let turn = zip_turn keys kinds c.loop-key.yielded _ _ c.next.new.self _ first second c.loop-key.yielded_by (c.in-Some.key, c.in-Some.kind) c.in-Some.is c.next.ensures.steps in
    let at = zip_at keys kinds i no_key no_kind turn.0 turn.1 in
    let none : (cell : Cell) (rest : List Field) → Begin key_field FitsKey (get_or keys i no_key, get_or kinds i no_kind) c.loop-key.fields cell rest → ⊥ =
    subst (λ (k : Kind). (cell : Cell) (rest : List Field) → Begin key_field FitsKey (get_or keys i no_key, k) c.loop-key.fields cell rest → ⊥) (turn.3 no_kind)
    (subst (λ (k : Key). (cell : Cell) (rest : List Field) → Begin key_field FitsKey (k, c.in-Some.kind.now) c.loop-key.fields cell rest → ⊥) (turn.2 no_key) (c.next_cell.ensures.none c.in_default.is)) in
    none_left key_field FitsKey (zip keys kinds) i (no_key, no_kind) c.args.fields.now c.loop-key.fields (zip_inside keys kinds i turn.0 turn.1) c.loop-key.invariant.left
    (subst (λ (p : Key × Kind). (cell : Cell) (rest : List Field) → Begin key_field FitsKey p c.loop-key.fields cell rest → ⊥) (sym at) none)

pub loop-key-preserved : goal.loop-key-preserved
loop-key-preserved c =
    let keys = c.args.keys.now in
    let kinds = c.args.kinds.now in
    let i = length c.loop-key.yielded in
    let cell = c.in-Some-next_cell.cell in
    let first : iter_rest (zip_first c.into_iter-key-iterator.result) ≡ keys = search in
    let second : iter_rest (zip_second c.into_iter-key-iterator.result) ≡ kinds = search in
    let turn = zip_turn keys kinds c.loop-key.yielded _ _ c.next.new.self _ first second c.loop-key.yielded_by (c.in-Some.key, c.in-Some.kind) c.in-Some.is c.next.ensures.steps in
    let at = zip_at keys kinds i no_key no_kind turn.0 turn.1 in
    let inside = zip_inside keys kinds i turn.0 turn.1 in
    let beside : Begin key_field FitsKey (get_or keys i no_key, get_or kinds i no_kind) c.loop-key.fields cell c.next_cell.new.fields =
    subst (λ (k : Kind). Begin key_field FitsKey (get_or keys i no_key, k) c.loop-key.fields cell c.next_cell.new.fields) (turn.3 no_kind)
    (subst (λ (k : Key). Begin key_field FitsKey (k, c.in-Some.kind.now) c.loop-key.fields cell c.next_cell.new.fields) (turn.2 no_key) c.in-Some-next_cell.ensures.some) in
    let here = subst (λ (p : Key × Kind). Begin key_field FitsKey p c.loop-key.fields cell c.next_cell.new.fields) (sym at) beside in
    let next : length (c.loop-key.yielded ++ (c.in-Some.key, c.in-Some.kind) ∷ []) ≡ i + 1 = length-append c.loop-key.yielded ((c.in-Some.key, c.in-Some.kind) ∷ []) in
    let so_far = subst (λ (ps : List (Key × Kind)). BeginEach key_field FitsKey ps c.args.fields.now c.loop-key.cells.items c.loop-key.fields) (sym (take-zip keys kinds i)) c.loop-key.invariant.found in
    let more = one_more key_field FitsKey (zip keys kinds) i (no_key, no_kind) c.loop-key.cells.items c.push.new.self.items cell c.args.fields.now c.loop-key.fields c.next_cell.new.fields inside so_far here c.in_ok-push.ensures.items in
    record {
      found = rw next (subst (λ (ps : List (Key × Kind)). BeginEach key_field FitsKey ps c.args.fields.now c.push.new.self.items c.next_cell.new.fields) (take-zip keys kinds (i + 1)) more);
      left = rw next (one_less key_field FitsKey (zip keys kinds) i (no_key, no_kind) cell c.args.fields.now c.loop-key.fields c.next_cell.new.fields inside c.loop-key.invariant.left here);
    }
