use Rattle.std.proofs.Common.{rules, ◌≡◌, ◌++◌, ◌∷◌, [], add-one}
use Rattle.command_record.proofs.PeerPrefixes.{one_more}
use Rattle.command_record.proofs.peer_prefixes.prefixes_in.Goals as goal

pub loop-word-preserved : goal.loop-word-preserved
loop-word-preserved c =
    let ok : c.push.new.self.items ≡ c.loop-word.prefixes.items ++ c.in-Ok.prefix ∷ [] = search rules in
    rw (ok, add-one)
    (one_more c.args.words.now c.loop-word.word-index _ c.loop-word.prefixes.items _ c.loop-word-test.true c.loop-word.invariant c.in-Ok.ensures.parsed)
