use Rattle.std.proofs.Common.{rules, lit<, ℕ, List, Bor}
use borrow.Author.Tests.{tests}
use Rattle.std.proofs.lemmas.Iterator.Consumers.{nth_from_yields_List, YieldsList-at, YieldsList-from_filter}
use Rattle.std.proofs.lemmas.Iterator.Splits.{YieldsList-from_str_split}
use Rattle.recording_sockets.specs.Drops.{is_word}
use Rattle.recording_sockets.proofs.drops.word_of.Goals as goal

pub returns : goal.returns
returns c = nth_from_yields_List {A = Bor (List ℕ)} {B = List ℕ} {v = λ x. x.now} {s = c.filter.result} c.nth.result _ c.args.place c.nth.ensures.ran
    (YieldsList-from_filter _ is_word (YieldsList-at c.filter.ensures.source (YieldsList-from_str_split 32 c.args.line.now (lit< tt) c.split.ensures.text c.split.ensures.has_more c.split.ensures.pattern))
    c.filter.ensures.closure (λ x b q k. search (rules, tests)))
