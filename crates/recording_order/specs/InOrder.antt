-- Datagrams that come in their order.
use Rattle.std.specs.Prelude.{◌≡◌, false, List, [], ◌∷◌}
use Rattle.recording_order.specs.Arrivals.{Arrival}
use Rattle.recording_order.specs.Numbers.{standing_of}
use Rattle.recording_order.specs.Windows.{WindowView, numbering, is_doubled}
use Rattle.recording_order.specs.Releases.{Course, Event, Came, Tick, Says, Run, start, step}
use Rattle.recording_order.specs.declared.numbering.Standing.TheVariants.{AtOnce}

-- one comes at the due number or before that, or where none is due, and it didn't come already
pub record IsNext (w : WindowView) (a : Arrival) : Type 0 where
  pub stands : standing_of (numbering w a.header.domain) a.header.sequence ≡ AtOnce
  pub new : is_doubled w a.header.domain a.octets ≡ false

-- each does, after those before it
abbrev pub AreNext : Says → Run → List Event → Type 0
AreNext says r [] = Unit {0}
AreNext says r (Came a ∷ es) = IsNext r.window a × AreNext says (step says r (Came a)) es
AreNext says r (Tick second ∷ es) = AreNext says (step says r (Tick second)) es

-- so does each of a course
abbrev pub AreInOrder : Course → Type 0
AreInOrder c = AreNext c.says (start c.seconds) c.events
