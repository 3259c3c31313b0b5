use Rattle.std.proofs.Common.{arith}
use Rattle.prefix_numbers.proofs.SpansOf.{end_is_within, painted}
use Rattle.prefix_numbers.proofs.painting.paint.Goals as goal

pub fill-requires : goal.fill-requires
fill-requires c = let inside = end_is_within c.args.starts.now c.args.row.now.prefix in omega (arith, inside)

pub returns : goal.returns
returns c = painted c.args.starts.now c.args.numbers.now _ c.args.row.now _ _ c.requires.ascending c.requires.beside c.places_below-first.ensures c.end_place_of-end.ensures c.fill.ensures
