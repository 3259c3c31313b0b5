use Rattle.jiff.specs.ZoneView.{plain_zone}
use Rattle.local_days.proofs.Rising.{AreSome}
use Rattle.local_days.proofs.borders.local_borders.Given as goal

abbrev pub invariant-loop-day : goal.invariant-loop-day
invariant-loop-day l = AreSome l.interval (plain_zone l.zone) l.day l.borders.items
