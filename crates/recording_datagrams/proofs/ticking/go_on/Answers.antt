use Rattle.std.proofs.Common.{inr}
use Rattle.recording_datagrams.proofs.ticking.go_on.Goals as goal

pub returns-in-Some-clause-turn : goal.returns-in-Some-clause-turn
returns-in-Some-clause-turn g c =
    inr (record { lines = c.tell_turn.ensures.lines; are = record { turn = c.in-Some.turn; goes_on = c.in-Some.ensures.goes_on; is_told = c.tell_turn.ensures.are }; told = c.tell_turn.ensures.told })
