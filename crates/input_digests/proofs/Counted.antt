-- How many octets of a text count: at least all but those of a message and of a read.
use Rattle.std.proofs.Common.{◌≡◌, ℕ, ◌+◌, ◌<◌, ◌≤◌, List, [], ◌∷◌, ◌++◌, length, take, drop, get_or, refl, sym, ap, subst, ◌∙◌, arith, inl, inr}
use Rattle.std.specs.Prelude.{◌⊎◌, ◌^◌, All, Option, Some, None, sum_by}
use Rattle.std.proofs.lemmas.List.{length-append, length-drop, length-take-le, take_all}
use Rattle.std.proofs.lemmas.Bool.{cases_lt}
use Rattle.std.proofs.lemmas.List.{get_or_past}
use Rattle.std.proofs.lemmas.List.Concat.{length-flat_map}
use Rattle.std.proofs.lemmas.List.Sums.{sum_by-append, sum_by-take-le}
use Rattle.ipfix_wire.specs.Numbers.{IsOctets}
use Rattle.ipfix_wire.proofs.Octets.{IsOctets-drop, IsOctets-front}
use Rattle.ipfix_wire.proofs.Headers.{header_is_good}
use Rattle.ipfix_wire.proofs.Parts.{cases_read}
use Rattle.ipfix_message.specs.Domains.{History, Message}
use Rattle.ipfix_message.specs.TemplateLimits.{message_within}
use Rattle.ipfix_message.specs.declared.fault.MessageFault.{MessageFault}
use Rattle.ipfix_session.specs.declared.report.MessagePlace.{MessagePlace}
use Rattle.ipfix_session.specs.declared.stop.Stop.{Stop}
use Rattle.ipfix_session.specs.declared.driver.TheConstants.{READ_SIZE}
use Rattle.ipfix_session.specs.Buffers.{IsRest}
use Rattle.ipfix_session.specs.Given.{Given, given_within, gives_within, known_after, messages_within, octets_of, stop_after, stop_within, IsOpen, IsPrefix}
use Rattle.ipfix_session.specs.MessageStream.{cut, next_message, rest_stop}
use Rattle.ipfix_session.specs.Places.{length_of, messages_up_to, place_after}
use Rattle.ipfix_session.specs.WholeMessages.{whole_octets}
use Rattle.ipfix_session.proofs.Filling.{rest_is_short}
use Rattle.ipfix_session.proofs.Giving.{closed, give_within-none, give_within-next, give_within-fault, gives_within-is, gives_within-next, gives_within-fault, gives_within-stop}
use Rattle.ipfix_session.proofs.Places.{place_is_within, stops_at_place_within}

-- ---- which messages count

-- a place is that after messages, the old ones among them, and they among all
pub record Counted (old all : List Message) (place : MessagePlace) : Type 0 where
  pub messages : List Message
  pub from : IsPrefix old messages
  pub up_to : IsPrefix messages all
  pub is : place ≡ place_after messages

-- ---- how long they are

-- a text is its whole messages and the rest
abbrev pub IsCut : Type 0
IsCut = (text : List ℕ) → take (whole_octets text) text ≡ octets_of (cut text).items

-- ---- their rests

short_rest : (r : List ℕ) → IsOctets r → IsRest r → length r < 65536
short_rest r octets rest =
    elim (rest_is_short r rest) [
      | inl few ↦ omega (arith, few)
      | inr short ↦
          let two = IsOctets-drop 2 r octets in
          let size = (header_is_good r short.header short.is_header).size in
          omega (arith, two 0, two 1, size, short.less)
    ]

none_if_open : (o : Option MessageFault) (s : Stop) → IsOpen (stop_after o s) → o ≡ None
none_if_open None s is_open = refl
none_if_open (Some e) s is_open = absurd is_open

-- messages that go on from others are no shorter
longer : (xs ys : List Message) → IsPrefix xs ys → sum_by length_of xs ≤ sum_by length_of ys
longer xs ys p = omega (arith, ap (sum_by length_of) p.1, sum_by-append length_of xs p.0)

pub record CountsIn (octets : ℕ) (gave : List ℕ) : Type 0 where
  pub at_most : octets ≤ length gave
  pub at_least : length gave ≤ octets + 131071

-- ---- in a session whose templates may count so much, or anything

module _ (limit : Option ℕ) where
  -- the octets of the messages before a fault
  abbrev pub octets_before : List ℕ → ℕ
  octets_before text = sum_by length (messages_up_to limit text)

  pub octets_fit : IsCut → (text : List ℕ) → octets_before text ≤ length text
  octets_fit is_cut text =
      let items = (cut text).items in
      let first = sum_by-take-le length items (length (given_within limit text).messages) in
      let sum : length (octets_of items) ≡ sum_by length items = length-flat_map (λ (m : List ℕ). m) items in
      let whole = length-take-le (whole_octets text) text (omega arith) in
      let same : length (take (whole_octets text) text) ≡ length (octets_of items) = ap length (is_cut text) in
      omega (arith, first, sum, whole, same)

  -- what gives no message, and has no fault, may go on
  pub no_message : (ds : History) (r : List ℕ) (s : Stop) → gives_within limit ds r ≡ record { messages = []; stop = s } → IsOpen s → IsRest r
  no_message ds r s none is_open =
      elim (cases_read (next_message r)) [
        | inl message ↦
            let m = message.0.0 in
            let rest = message.0.1 in
            elim (cases_read (message_within limit ds m)) [
              | inl good ↦
                  let gave = ap (λ (g : Given). g.messages) (sym (gives_within-next limit ds r m rest good.0 message.1 good.1) ∙ none) in
                  absurd cc
              | inr bad ↦
                  let stop = ap (λ (g : Given). g.stop) (sym (gives_within-fault limit ds r m rest bad.0 message.1 bad.1) ∙ none) in
                  absurd (subst IsOpen (sym stop) is_open)
            ]
        | inr stop ↦
            let same = ap (λ (g : Given). g.stop) (sym (gives_within-stop limit ds r stop.0 stop.1) ∙ none) in
            record { stop = stop.0; none = stop.1; is_open = subst IsOpen (sym same) is_open }
      ]

  -- a text without a fault has at most a part of a message behind those
  at_least : (text : List ℕ) → IsOctets text → IsOpen (stop_within limit text) → length text ≤ octets_before text + 65535
  at_least text octets is_open =
      let rest = drop (octets_before text) text in
      let is_rest = no_message (known_after [] (given_within limit text).messages) rest (stop_within limit text) (stops_at_place_within limit text) is_open in
      let short = short_rest rest (IsOctets-drop (octets_before text) text octets) is_rest in
      omega (arith, short, length-drop {A = ℕ})

  -- messages without a fault are all given
  all_given : (ds : History) (ms : List (List ℕ)) → (messages_within limit ds ms).1 ≡ None → length (messages_within limit ds ms).0 ≡ length ms
  all_given ds [] none = ap (λ (r : List Message × Option MessageFault). length r.0) (give_within-none limit ds)
  all_given ds (m ∷ ms) none =
      elim (cases_read (message_within limit ds m)) [
        | inl good ↦
            let is = give_within-next limit ds m ms good.0 good.1 in
            let later = all_given good.0.domains ms (sym (ap (λ (r : List Message × Option MessageFault). r.1) is) ∙ none) in
            omega (arith, ap (λ (r : List Message × Option MessageFault). length r.0) is, later)
        | inr bad ↦
            let some = sym (ap (λ (r : List Message × Option MessageFault). r.1) (give_within-fault limit ds m ms bad.0 bad.1)) ∙ none in
            absurd cc
      ]

  -- all whole messages of a text without a fault are before it
  pub whole_before : IsCut → (text : List ℕ) → IsOpen (stop_within limit text) → whole_octets text ≤ octets_before text
  whole_before is_cut text is_open =
      let items = (cut text).items in
      let read = messages_within limit [] items in
      let is : given_within limit text ≡ closed read (cut text).rest = gives_within-is limit [] text (cut text) refl in
      let none = none_if_open read.1 (rest_stop (cut text).rest) (subst IsOpen (ap (λ (g : Given). g.stop) is) is_open) in
      let count : length (given_within limit text).messages ≡ length items = ap (λ (g : Given). length g.messages) is ∙ all_given [] items none in
      let all : messages_up_to limit text ≡ items = take_all (length (given_within limit text).messages) items (omega (arith, count)) in
      let sum : length (octets_of items) ≡ sum_by length items = length-flat_map (λ (m : List ℕ). m) items in
      let whole = length-take-le (whole_octets text) text (omega arith) in
      omega (arith, ap (sum_by length) all, sum, whole, ap length (is_cut text))

  pub counts_in : IsCut → (gave earlier last : List ℕ) (place : MessagePlace) → IsOctets gave → length gave < 2 ^ 64 → gave ≡ earlier ++ last → length last ≤ READ_SIZE → IsOpen (stop_within limit earlier)
      → Counted (given_within limit earlier).messages (given_within limit gave).messages place → CountsIn place.octet gave
  counts_in is_cut gave earlier last place octets small is size is_open c =
      let here = ap (λ (p : MessagePlace). p.octet) c.is in
      let all = ap (λ (p : MessagePlace). p.octet) (place_is_within limit gave) in
      let old = ap (λ (p : MessagePlace). p.octet) (place_is_within limit earlier) in
      let first : IsOctets earlier = IsOctets-front earlier last (subst IsOctets is octets) in
      let low = at_least earlier first is_open in
      let high = octets_fit is_cut gave in
      let before = octets_fit is_cut earlier in
      let above = longer (given_within limit earlier).messages c.messages c.from in
      let below = longer c.messages (given_within limit gave).messages c.up_to in
      let sum : length gave ≡ length earlier + length last = ap length is ∙ length-append earlier last in
      record {
        at_most = omega (arith, here, all, high, below, small);
        at_least = omega (arith, here, old, low, before, above, sum, size, small);
      }

-- ---- octets

pub are_octets : (xs : List ℕ) → All (λ (octet : ℕ). octet < 256) xs → IsOctets xs
are_octets xs all i = by_place (cases_lt i (length xs))
  where
    by_place : (i < length xs) ⊎ (length xs ≤ i) → get_or xs i 0 < 256
    by_place (inl within) = all i 0 within
    by_place (inr past) = rw (get_or_past xs i 0 past) (omega arith)
