use Rattle.std.proofs.Common.{rules}
use borrow.Author.Tests.{tests}
use Rattle.std.proofs.lemmas.Iterator.Search.{find_from_yields_List}
use Rattle.std.proofs.lemmas.Iterator.Splits.{YieldsList-from_lines}
use Rattle.recording_sockets.specs.Drops.{is_of}
use Rattle.recording_sockets.proofs.drops.line_of.Goals as goal

pub returns : goal.returns
returns c = find_from_yields_List (is_of c.args.inode.now) _ _ _ c.find.ensures.ran (YieldsList-from_lines c.args.text.now c.lines.ensures.rest) (λ x b q k. search (rules, tests))
