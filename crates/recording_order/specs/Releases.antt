-- In which order a peer's datagrams are handed on to the recorder, over a whole run.
use Rattle.std.specs.Prelude.{◌≡◌, ◌<◌, ◌≤◌, ℕ, zero, suc, ◌+◌, Option, Some, None, List, [], ◌∷◌, ◌++◌, length, flat_map}
use Rattle.ipfix_session.specs.Given.{IsPrefix}
use Rattle.recording_order.specs.Arrivals.{Arrival}
use Rattle.recording_order.specs.Windows.{WindowView, Offered, offered, after_writing, next_of, late_domain, least_in, last_of}
use Rattle.recording_order.specs.declared.datagram_counts.DatagramCounts.{DatagramCounts}
use Rattle.recording_order.specs.declared.offer.Offer.TheVariants.{Write, Waits, Doubled, First, Anew}

-- a datagram came, or a second began
pub data Event : Type 0 where
  Came : Arrival → Event
  Tick : ℕ → Event

-- the datagrams that came
abbrev pub came_in : Event → List Arrival
came_in (Came a) = a ∷ []
came_in (Tick second) = []

abbrev pub came : List Event → List Arrival
came es = flat_map came_in es

-- what the recorder says of each datagram that is handed on to it, by how many were before: none where it refuses it
abbrev pub Says : Type 0
Says = ℕ → Option DatagramCounts

-- two recorders say the same of the datagrams from one number up to below another
abbrev pub Agree : Says → Says → ℕ → ℕ → Type 0
Agree says tells from to = (n : ℕ) → from ≤ n → n < to → says n ≡ tells n

-- what is kept, and the datagrams that were handed on and those that were doubled, each in turn
pub record Run : Type 0 where
  pub window : WindowView
  pub handed_on : List Arrival
  pub doubled : List Arrival

-- what is kept once the recorder has answered: one that it refuses isn't noted
abbrev pub answered : WindowView → Arrival → Option DatagramCounts → WindowView
answered w a None = w
answered w a (Some c) = after_writing w a c

-- this one is handed on, where this is kept
abbrev pub hand_on : Says → Arrival → WindowView → Run → Run
hand_on says a w r = record { window = answered w a (says (length r.handed_on)); handed_on = r.handed_on ++ a ∷ []; doubled = r.doubled }

-- one that waited is handed on, if there is one, and then others
abbrev pub go_on : (Run → Run) → Says → Run → Option (Arrival × WindowView) → Run
go_on again says r None = r
go_on again says r (Some x) = again (hand_on says x.0 x.1 r)

-- ---- a datagram that comes

-- all that wait of a domain are handed on, the least first
abbrev pub empty_with : Says → ℕ → ℕ → Run → Run
empty_with says domain zero r = r
empty_with says domain (suc fuel) r = go_on (empty_with says domain fuel) says r (least_in r.window domain)

abbrev pub empty : Says → ℕ → Run → Run
empty says domain r = empty_with says domain (length r.window.waiting) r

-- it is handed on after those of its domain that wait
abbrev pub begin_anew : Says → Arrival → Run → Run
begin_anew says a r = let s = empty says a.header.domain r in hand_on says a s.window s

-- it is offered; where another is first, it is offered again after that
abbrev pub take_offered : Says → Arrival → (Run → Run) → Run → Offered → Run
take_offered says a again r o = elim o.0 [
  | Write ↦ hand_on says a o.1 r
  | Waits ↦ record r { window = o.1 }
  | Doubled ↦ record r { window = o.1; doubled = r.doubled ++ a ∷ [] }
  | First b ↦ again (hand_on says b o.1 r)
  | Anew ↦ begin_anew says a (record r { window = o.1 })
]

-- at most so many are first
abbrev pub take_with : Says → Arrival → ℕ → Run → Run
take_with says a zero r = hand_on says a r.window r
take_with says a (suc fuel) r = take_offered says a (take_with says a fuel) r (offered r.window a)

-- those that wait are at most first
abbrev pub take_run : Says → Arrival → Run → Run
take_run says a r = take_with says a (suc (length r.window.waiting)) r

-- ---- those that waited

-- the next ones of a domain are handed on, at most so many
abbrev pub settle_with : Says → ℕ → ℕ → ℕ → Run → Run
settle_with says domain second zero r = r
settle_with says domain second (suc fuel) r = go_on (settle_with says domain second fuel) says r (next_of r.window domain second)

abbrev pub settle : Says → ℕ → ℕ → Run → Run
settle says domain second r = settle_with says domain second (length r.window.waiting) r

-- a second began: the domains where the time of one is over
abbrev pub settle_late : (Run → Run) → Says → ℕ → Run → Option ℕ → Run
settle_late again says second r None = r
settle_late again says second r (Some domain) = again (settle says domain second r)

abbrev pub tick_with : Says → ℕ → ℕ → Run → Run
tick_with says second zero r = r
tick_with says second (suc fuel) r = settle_late (tick_with says second fuel) says second r (late_domain r.window second)

abbrev pub tick : Says → ℕ → Run → Run
tick says second r = tick_with says second (length r.window.waiting) r

-- the end of the peer
abbrev pub finish_with : Says → ℕ → Run → Run
finish_with says zero r = r
finish_with says (suc fuel) r = go_on (finish_with says fuel) says r (last_of r.window r.window.waiting)

abbrev pub finish : Says → Run → Run
finish says r = finish_with says (length r.window.waiting) r

-- ---- a whole run

abbrev pub step : Says → Run → Event → Run
step says r (Came a) = settle says a.header.domain a.second (take_run says a r)
step says r (Tick second) = tick says second r

abbrev pub run_from : Says → Run → List Event → Run
run_from says r [] = r
run_from says r (e ∷ es) = run_from says (step says r e) es

abbrev pub start : ℕ → Run
start seconds = record { window = record { seconds = seconds; numbers = []; waiting = []; last = [] }; handed_on = []; doubled = [] }

abbrev pub run : Says → ℕ → List Event → Run
run says seconds es = run_from says (start seconds) es

-- what is handed on of all that came, where the peer ended after it
abbrev pub released : Says → ℕ → List Event → List Arrival
released says seconds es = (finish says (run says seconds es)).handed_on

-- all that were handed on, wait or were doubled
abbrev pub all_of : Run → List Arrival
all_of r = r.handed_on ++ (r.window.waiting ++ r.doubled)

-- what comes to a peer whose datagrams wait for so many seconds, and what the recorder says of it
pub record Course : Type 0 where
  pub says : Says
  pub seconds : ℕ
  pub events : List Event

abbrev pub run_of : Course → Run
run_of c = run c.says c.seconds c.events

abbrev pub released_of : Course → List Arrival
released_of c = released c.says c.seconds c.events

-- ---- what runs do

-- what was handed on stays
abbrev pub StaysHandedOn : Run → Run → Type 0
StaysHandedOn r s = IsPrefix r.handed_on s.handed_on

-- of what the recorder says, this asks only from one datagram's number on, and up to the last that it hands on
abbrev pub AsksOnlyFrom : ℕ → (Says → Run) → Type 0
AsksOnlyFrom from f = (says tells : Says) → Agree says tells from (length (f says).handed_on) → f says ≡ f tells

-- those that leave a window are handed on one by one: where one leaves, the rest is as from the run after that, and where none
-- does, all is done
abbrev pub HandsOnEach : (Says → Run → Run) → (WindowView → Option (Arrival × WindowView)) → Type 0
HandsOnEach f out = (says : Says) (r : Run) → f says r ≡ go_on (f says) says r (out r.window)
