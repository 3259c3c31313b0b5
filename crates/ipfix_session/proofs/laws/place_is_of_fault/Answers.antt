use Rattle.ipfix_session.proofs.Places.{place_is, stops_at_place}
use Rattle.ipfix_session.proofs.laws.place_is_of_fault.Goals as goal

pub returns-clause-place : goal.returns-clause-place
returns-clause-place c = place_is

pub returns-clause-begins : goal.returns-clause-begins
returns-clause-begins c = stops_at_place
