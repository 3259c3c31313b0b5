use Rattle.std.proofs.Common.{◌<◌, length, sym, arith}
use Rattle.ipfix_elements.specs.declared.kind.Kind.TheVariants.{Unsigned}
use Rattle.ipfix_elements.specs.declared.kind.Width.TheVariants.{One}
use Rattle.flow_table.specs.Missing.{first_without}
use Rattle.flow_table.proofs.KeyCells.{all_keys, all_left, here_none, no_key, no_keys, none_left, nowhere, one_key_more, place_more}
use Rattle.flow_table.proofs.key_words.read_key.Goals as goal

pub loop-place-init : goal.loop-place-init
loop-place-init c = record {
  place = all_left (first_without c.args.keys.now c.args.kinds.now c.args.data_record.now);
  words = no_keys c.args.keys.now c.args.kinds.now c.args.data_record.now c.clear.new.self.items c.clear.ensures.items;
}

pub loop-place-preserved : goal.loop-place-preserved
loop-place-preserved c =
    let keys = c.args.keys.now in
    let kinds = c.args.kinds.now in
    let r = c.args.data_record.now in
    let i = c.loop-place.place in
    let inside : i < length keys = omega arith in
    let beside : i < length kinds = omega (arith, c.requires.beside) in
    let has = c.in-Some.ensures in
    record {
      place = place_more keys kinds r i nowhere (Unsigned One) has.cell _ inside beside (sym has.is) c.loop-place.invariant.place;
      words = one_key_more keys kinds r c.loop-place.half _ c.loop-place.words.items c.push_words.new.words.items c.in-Some.found i nowhere (Unsigned One) inside beside has c.in_ok-half.ensures c.loop-place.invariant.words;
    }

pub returns-in_default : goal.returns-in_default
returns-in_default c =
    let keys = c.args.keys.now in
    let kinds = c.args.kinds.now in
    let r = c.args.data_record.now in
    let i = c.loop-place.place in
    let inside : i < length keys = omega arith in
    let beside : i < length kinds = omega (arith, c.requires.beside) in
    record {
      place = sym (here_none keys kinds r i nowhere (Unsigned One) (first_without keys kinds r) inside beside c.in_default.ensures c.loop-place.invariant.place);
      words = no_key keys kinds r c.loop-place.half c.loop-place.words.items i nowhere (Unsigned One) inside beside c.in_default.ensures c.loop-place.invariant.words;
    }

pub returns : goal.returns
returns c =
    let keys = c.args.keys.now in
    let kinds = c.args.kinds.now in
    let r = c.args.data_record.now in
    let i = c.loop-place.place in
    record {
      place = sym (none_left keys kinds r i (first_without keys kinds r) (omega arith) c.loop-place.invariant.place);
      words = all_keys keys kinds r c.loop-place.half c.loop-place.words.items c.push_half.new.words.items i (omega arith) (omega (arith, c.requires.beside)) c.in_ok-push_half.ensures c.loop-place.invariant.words;
    }
