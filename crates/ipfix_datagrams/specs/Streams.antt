-- The messages of a stream, as the exporter sent them, and those that came (RFC 7011, section 3.1).
use Rattle.std.specs.Prelude.{◌≡◌, ℕ, ◌+◌, ◌%◌, ◌^◌, ◌<◌, ◌≤◌, Bool, true, max, not, List, [], ◌∷◌, ◌++◌, map, filter, sum_by}
use Rattle.ipfix_message.specs.Domains.{Message}
use Rattle.ipfix_session.specs.Ledger.{count_in}
use Rattle.ipfix_datagrams.specs.Advances.{advance_of, came_of}

-- ---- messages that came

-- a message, and its place: how many data records were sent before it
pub record Placed : Type 0 where
  pub place : ℕ
  pub message : Message

abbrev pub messages : List Placed → List Message
messages ps = map (λ p. p.message) ps

-- its sequence number is that, modulo 2^32
abbrev pub IsNumbered : Placed → Type 0
IsNumbered p = p.message.header.sequence ≡ p.place % 2 ^ 32

-- the place after it
abbrev pub place_behind : Placed → ℕ
place_behind p = p.place + count_in p.message

-- the furthest place after any
abbrev pub furthest_place : ℕ → List Placed → ℕ
furthest_place n [] = n
furthest_place n (p ∷ ps) = furthest_place (max n (place_behind p)) ps

-- each is numbered, and ends less than half of all sequence numbers off the furthest before it
abbrev pub AreNear : ℕ → List Placed → Type 0
AreNear n [] = Unit {0}
AreNear n (p ∷ ps) = IsNumbered p × (place_behind p < n + 2 ^ 31) × (n < place_behind p + 2 ^ 31) × AreNear (max n (place_behind p)) ps

-- each is numbered, and they lie within half of all sequence numbers from a place on
abbrev pub AreWithin : ℕ → List Placed → Type 0
AreWithin low [] = Unit {0}
AreWithin low (p ∷ ps) = IsNumbered p × (low ≤ p.place) × (place_behind p < low + 2 ^ 31) × AreWithin low ps

-- and from some place on
abbrev pub AreClose : List Placed → Type 0
AreClose ps = (low : ℕ) × AreWithin low ps

-- how far they advance, and the data records of those that came
abbrev pub advance_in : List Placed → ℕ
advance_in ps = advance_of (messages ps)

abbrev pub came_in : List Placed → ℕ
came_in ps = came_of (messages ps)

-- the same messages, of which two, one next to the other after the first, stand the other way round
pub record IsSwapped (ps qs : List Placed) : Type 0 where
  pub first : Placed
  pub before : List Placed
  pub one : Placed
  pub other : Placed
  pub rest : List Placed
  pub here : ps ≡ first ∷ (before ++ one ∷ (other ∷ rest))
  pub there : qs ≡ first ∷ (before ++ other ∷ (one ∷ rest))

-- and they lie near each other
pub record Swapping : Type 0 where
  pub one : List Placed
  pub other : List Placed
  pub close : AreClose one
  pub swapped : IsSwapped one other

-- the same messages, of which one after the first comes twice
pub record IsDoubled (double : Placed) (twice once : List Placed) : Type 0 where
  pub first : Placed
  pub before : List Placed
  pub between : List Placed
  pub rest : List Placed
  pub here : twice ≡ first ∷ (before ++ double ∷ (between ++ double ∷ rest))
  pub there : once ≡ first ∷ (before ++ double ∷ (between ++ rest))

-- and these lie near each other
pub record Doubling : Type 0 where
  pub double : Placed
  pub twice : List Placed
  pub once : List Placed
  pub close : AreClose twice
  pub doubled : IsDoubled double twice once

-- ---- messages that were sent

-- each has the number of data records before it, where so many were sent before the first
abbrev pub AreNumbered : ℕ → List Message → Type 0
AreNumbered n [] = Unit {0}
AreNumbered n (m ∷ ms) = (m.header.sequence ≡ n % 2 ^ 32) × AreNumbered (n + count_in m) ms

-- none has half as many records as there are sequence numbers
abbrev pub AreFew : List Message → Type 0
AreFew [] = Unit {0}
AreFew (m ∷ ms) = (count_in m < 2 ^ 31) × AreFew ms

-- few messages in their order, of which all came
pub record AreInOrder (ms : List Message) : Type 0 where
  pub before : ℕ
  pub numbered : AreNumbered before ms
  pub few : AreFew ms

-- messages that were sent, each with whether it came
abbrev pub Sent : Type 0
Sent = List (Message × Bool)

abbrev pub sent : Sent → List Message
sent es = map (λ e. e.0) es

abbrev pub came : Sent → List Message
came es = map (λ e. e.0) (filter (λ e. e.1) es)

abbrev pub not_come : Sent → List Message
not_come es = map (λ e. e.0) (filter (λ e. not e.1) es)

-- the first came, and the last
pub record HaveEnds (es : Sent) : Type 0 where
  pub first : Message
  pub between : Sent
  pub last : Message
  pub are : es ≡ (first, true) ∷ (between ++ (last, true) ∷ [])

-- and all have fewer than half as many data records as there are sequence numbers
pub record AreSent (es : Sent) : Type 0 where
  pub before : ℕ
  pub ends : HaveEnds es
  pub numbered : AreNumbered before (sent es)
  pub few : sum_by count_in (sent es) < 2 ^ 31
