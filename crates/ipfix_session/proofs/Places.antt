-- Where a message begins in its session.
use Rattle.std.proofs.Common.{◌≡◌, ℕ, suc, zero, ◌+◌, ◌<◌, ltb, eqb, cond, Option, None, List, [], ◌∷◌, length, take, drop, Result, Ok, Err, refl, sym, ap, subst, ◌∙◌, arith, inl, inr}
use Rattle.std.specs.Prelude.{sum_by, unwrap_or}
use Rattle.std.specs.Map.{lookup}
use Rattle.std.proofs.lemmas.Bool.{eqb-true}
use Rattle.std.proofs.lemmas.List.Sums.{sum_by-cons}
use Rattle.std.proofs.lemmas.List.{drop-drop, length-take-le}
use Rattle.ipfix_wire.specs.MessageHeader.{header_at}
use Rattle.ipfix_wire.specs.declared.header.Header.{Header}
use Rattle.ipfix_wire.proofs.Choices.{chosen}
use Rattle.ipfix_wire.proofs.Parts.{cases_read}
use Rattle.ipfix_message.specs.Domains.{History, Message, admit, message_header, message_gives, of_wire, with_events}
use Rattle.ipfix_message.specs.TemplateLimits.{message_within}
use Rattle.ipfix_message.specs.Messages.{before, sets_from}
use Rattle.ipfix_message.specs.Outcome.{◌>>=◌}
use Rattle.ipfix_message.specs.declared.fault.MessageFault.{MessageFault}
use Rattle.ipfix_message.specs.declared.fault.MessageFault.TheVariants.{MessageLength}
use Rattle.ipfix_message.proofs.History.{after_admit, after_sets}
use Rattle.ipfix_message.proofs.TemplateLimits.{left_within}
use Rattle.ipfix_message.proofs.Reading.{bind_ok, not_both, ok_is}
use Rattle.ipfix_session.specs.declared.report.MessagePlace.{MessagePlace}
use Rattle.ipfix_session.specs.MessageStream.{cut, next_message}
use Rattle.ipfix_session.specs.Given.{Given, gives, gives_after, given_within, gives_within, behind, known_after, messages_within, stop_of, stop_within}
use Rattle.ipfix_session.specs.Places.{length_of, messages_before_fault, messages_up_to, place_after, place_of_fault, place_within}
use Rattle.ipfix_session.proofs.Cut.{Begins, messages_shrink, next_begins}
use Rattle.ipfix_session.proofs.Giving.{stops, give_within-none, give_within-next, give_within-fault, gives_within-stop, gives_within-next, gives_within-fault}

abbrev place : ℕ → ℕ → MessagePlace
place message octet = record { message = message; octet = octet }

pub place-same : (a b c d : ℕ) → a ≡ c → b ≡ d → place a b ≡ place c d
place-same a b c d i j = rw (i, j) refl

-- ---- a message that was read is as long as its octets

header-length : (m : List ℕ) (h : Header) → message_header m ≡ Ok h → h.length ≡ length m
unfolding message_header
header-length m h is =
    elim (chosen (ltb (length m) 16) (Err MessageLength) (of_wire (header_at m) >>= λ k. cond (eqb k.length (length m)) (Ok k) (Err MessageLength)) (Ok h) is) [
      | inl t ↦ absurd (not_both h MessageLength (sym t.1))
      | inr f ↦
          let read = bind_ok (of_wire (header_at m)) (λ k. cond (eqb k.length (length m)) (Ok k) (Err MessageLength)) h f.1 in
          elim (chosen (eqb read.0.length (length m)) (Ok read.0) (Err MessageLength) (Ok h) read.2) [
            | inl t ↦ ap (λ (k : Header). k.length) (sym (ok_is read.0 h t.1)) ∙ eqb-true read.0.length (length m) t.0
            | inr g ↦ absurd (not_both h MessageLength (sym g.1))
          ]
    ]

gives-length : (ds : History) (m : List ℕ) (x : Message) → message_gives ds m ≡ Ok x → length_of x ≡ length m
unfolding message_gives
gives-length ds m x read =
    let h = bind_ok (message_header m) (λ h. admit ds h.domain >>= λ known. after_admit h m known) x read in
    let known = bind_ok (admit ds h.0.domain) (after_admit h.0 m) x h.2 in
    let d = bind_ok (sets_from h.0 (before (unwrap_or (lookup (eqb h.0.domain) known.0) [])) (drop 16 m)) (after_sets h.0 known.0) x known.2 in
    let same = ok_is (record { header = h.0; decoding = d.0; domains = with_events known.0 h.0.domain d.0.events }) x d.2 in
    let P : Message → Type 0 = λ y. length_of y ≡ length m in
    subst P same (header-length m h.0 h.1)

-- ---- messages of a text

-- as many octets as these messages, of which the first were read
abbrev AreAsLong : List Message → List (List ℕ) → Type 0
AreAsLong xs ms = (length (take (length xs) ms) ≡ length xs) × (sum_by length (take (length xs) ms) ≡ sum_by length_of xs)

one_more : (a b c d : ℕ) → a ≡ b → c ≡ d → a + c ≡ b + d
one_more a b c d i j = omega (arith, i, j)

module _ (limit : Option ℕ) where
  as_long : (ds : History) (ms : List (List ℕ)) → AreAsLong (messages_within limit ds ms).0 ms
  as_long ds [] = rw (give_within-none limit ds) (refl, refl)
  as_long ds (m ∷ ms) = by_read (λ (x : Message). as_long x.domains ms) (message_within limit ds m) refl
    where
      by_read : ((x : Message) → AreAsLong (messages_within limit x.domains ms).0 ms) → (r : Result Message MessageFault) → message_within limit ds m ≡ r → AreAsLong (messages_within limit ds (m ∷ ms)).0 (m ∷ ms)
      by_read later (Err e) is = rw (give_within-fault limit ds m ms e is) (refl, refl)
      by_read later (Ok x) is =
          let xs = (messages_within limit x.domains ms).0 in
          let more = later x in
          rw (give_within-next limit ds m ms x is) (
            omega (arith, more.0),
            sum_by-cons length m (take (length xs) ms) ∙ one_more (length m) (length_of x) _ _ (sym (gives-length ds m x (left_within limit ds m x is).0)) more.1 ∙ sym (sum_by-cons length_of x xs),
          )

  octets_before : (text : List ℕ) → sum_by length (messages_up_to limit text) ≡ sum_by length_of (given_within limit text).messages
  unfolding gives_within
  octets_before text = (as_long [] (cut text).items).1

  -- the place after the messages that were read, by the octets of the text
  pub place_is_within : (text : List ℕ) → place_after (given_within limit text).messages ≡ place_within limit text
  unfolding gives_within
  place_is_within text =
      let long = as_long [] (cut text).items in
      place-same _ _ _ _ (omega (arith, long.0)) (omega (arith, long.1))

  -- ---- what begins at a place

  -- what follows the messages that were read gives no message, and stops as the text does
  abbrev StopsAfter : History → List ℕ → Given → Type 0
  StopsAfter ds text g = gives_within limit (known_after ds g.messages) (drop (sum_by length_of g.messages) text) ≡ stops g.stop

  -- one message more before it
  one_before : (ds : History) (text m rest : List ℕ) (x : Message) (g : Given) → Begins text m rest → message_within limit ds m ≡ Ok x → StopsAfter x.domains rest g → StopsAfter ds text (behind (x ∷ []) g)
  one_before ds text m rest x g b is behind_rest =
      let own : length_of x ≡ b.header.length = gives-length ds m x (left_within limit ds m x is).0 ∙ ap length (sym b.message) ∙ length-take-le b.header.length text b.room in
      let k = sum_by length_of g.messages in
      let at : drop (sum_by length_of (x ∷ g.messages)) text ≡ drop k rest =
      ap (λ (n : ℕ). drop n text) (sum_by-cons length_of x g.messages ∙ ap (λ (n : ℕ). n + k) own)
      ∙ sym (drop-drop k b.header.length text) ∙ ap (drop k) b.rest in
      ap (gives_within limit (known_after x.domains g.messages)) at ∙ behind_rest

  stops_behind : (n : ℕ) (ds : History) (text : List ℕ) → length text < n → StopsAfter ds text (gives_within limit ds text)
  stops_behind zero ds text less = absurd (omega (arith, less))
  stops_behind (suc n) ds text less =
      elim (cases_read (next_message text)) [
        | inl message ↦
            let m = message.0.0 in
            let rest = message.0.1 in
            elim (cases_read (message_within limit ds m)) [
              | inl good ↦
                  let shorter = messages_shrink.less text m rest message.1 in
                  subst (StopsAfter ds text) (sym (gives_within-next limit ds text m rest good.0 message.1 good.1))
                  (one_before ds text m rest good.0 (gives_within limit good.0.domains rest) (next_begins text m rest message.1) good.1 (stops_behind n good.0.domains rest (omega (arith, less, shorter))))
              | inr bad ↦
                  let is = gives_within-fault limit ds text m rest bad.0 message.1 bad.1 in
                  subst (StopsAfter ds text) (sym is) is
            ]
        | inr stop ↦
            let is = gives_within-stop limit ds text stop.0 stop.1 in
            subst (StopsAfter ds text) (sym is) is
      ]

  -- the same by the octets of the text
  pub stops_at_place_within : (text : List ℕ) → gives_within limit (known_after [] (given_within limit text).messages) (drop (sum_by length (messages_up_to limit text)) text) ≡ record { messages = []; stop = stop_within limit text }
  stops_at_place_within text =
      ap (λ (n : ℕ). gives_within limit (known_after [] (given_within limit text).messages) (drop n text)) (octets_before text) ∙ stops_behind (suc (length text)) [] text (omega arith)

-- ---- without a limit

pub place_is : (text : List ℕ) → place_after (gives text).messages ≡ place_of_fault text
place_is text = place_is_within None text

pub stops_at_place : (text : List ℕ) → gives_after (known_after [] (gives text).messages) (drop (sum_by length (messages_before_fault text)) text) ≡ record { messages = []; stop = stop_of text }
stops_at_place text = stops_at_place_within None text
