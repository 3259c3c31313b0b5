-- What a text gives, message by message.
use Rattle.std.proofs.Common.{◌≡◌, ℕ, List, [], ◌∷◌, ◌++◌, length, Option, Some, None, Ok, Err, refl, sym, ap, subst, ◌∙◌, append_assoc, arith, inl, inr}
use Rattle.std.proofs.lemmas.List.{append-nil}
use Rattle.ipfix_wire.specs.InTurn.{Parts}
use Rattle.ipfix_wire.proofs.Parts.{cons, nothing, cases_read, parts_of-next, parts_of-none}
use Rattle.ipfix_wire.proofs.Streams.{join, parts_of-append}
use Rattle.ipfix_message.specs.Domains.{History, Message, message_gives}
use Rattle.ipfix_message.specs.TemplateLimits.{message_within}
use Rattle.ipfix_message.specs.declared.fault.MessageFault.{MessageFault}
use Rattle.ipfix_message.specs.declared.record.DataRecord.{DataRecord}
use Rattle.ipfix_session.specs.declared.stop.Stop.{Stop}
use Rattle.ipfix_session.specs.declared.stop.Stop.TheVariants.{Clean, Short, Fault}
use Rattle.ipfix_session.specs.MessageStream.{rest_stop, next_message, cut}
use Rattle.ipfix_session.specs.Given.{messages_give, messages_within, Given, stop_after, gives_after, gives_within, gives, given_within, behind, known_after, IsOpen, IsPrefix, records_in, records_of, records_within}
use Rattle.ipfix_session.proofs.Cut.{found, none_at, next_stop, messages_shrink, messages_stable, bad_goes_on}

abbrev pub stops : Stop → Given
stops s = record { messages = []; stop = s }

-- what messages that are read, and a rest, give
abbrev pub closed : List Message × Option MessageFault → List ℕ → Given
closed read rest = record { messages = read.0; stop = stop_after read.1 (rest_stop rest) }

pub behind-behind : (ms ns : List Message) (g : Given) → behind ms (behind ns g) ≡ behind (ms ++ ns) g
behind-behind ms ns g = ap (λ (xs : List Message). record { messages = xs; stop = g.stop }) (sym (append_assoc ms ns g.messages))

-- ---- decoding message by message

pub records_in-append : (ms ns : List Message) → records_in (ms ++ ns) ≡ records_in ms ++ records_in ns
records_in-append [] ns = refl
records_in-append (m ∷ ms) ns =
    ap (λ (rs : List DataRecord). m.decoding.records ++ rs) (records_in-append ms ns) ∙ sym (append_assoc m.decoding.records (records_in ms) (records_in ns))

abbrev with_one : Message → List Message × Option MessageFault → List Message × Option MessageFault
with_one x r = (x ∷ r.0, r.1)

open_is_rest : (o : Option MessageFault) (s : Stop) → IsOpen (stop_after o s) → stop_after o s ≡ s
open_is_rest None s is_open = refl
open_is_rest (Some e) s is_open = absurd is_open

module _ (limit : Option ℕ) where
  -- ---- messages

  pub give_within-none : (ds : History) → messages_within limit ds [] ≡ ([], None)
  unfolding messages_within
  give_within-none ds = refl

  pub give_within-next : (ds : History) (m : List ℕ) (ms : List (List ℕ)) (x : Message) → message_within limit ds m ≡ Ok x
      → messages_within limit ds (m ∷ ms) ≡ (x ∷ (messages_within limit x.domains ms).0, (messages_within limit x.domains ms).1)
  unfolding messages_within
  give_within-next ds m ms x e = rw (e, messages_within) refl

  pub give_within-fault : (ds : History) (m : List ℕ) (ms : List (List ℕ)) (e : MessageFault) → message_within limit ds m ≡ Err e
      → messages_within limit ds (m ∷ ms) ≡ ([], Some e)
  unfolding messages_within
  give_within-fault ds m ms e h = rw (h, messages_within) refl

  -- ---- a text

  pub gives_within-is : (ds : History) (text : List ℕ) (p : Parts (List ℕ)) → cut text ≡ p → gives_within limit ds text ≡ closed (messages_within limit ds p.items) p.rest
  unfolding gives_within
  gives_within-is ds text p e = ap (λ (q : Parts (List ℕ)). closed (messages_within limit ds q.items) q.rest) e

  -- a text that begins with no message
  pub gives_within-stop : (ds : History) (text : List ℕ) (s : Stop) → next_message text ≡ none_at s → gives_within limit ds text ≡ stops s
  gives_within-stop ds text s e =
      gives_within-is ds text (nothing text) (parts_of-none next_message text s e)
      ∙ ap (λ (r : List Message × Option MessageFault). closed r text) (give_within-none ds)
      ∙ ap stops (next_stop text s e)

  -- a text that begins with a message
  pub gives_within-next : (ds : History) (text m rest : List ℕ) (x : Message) → next_message text ≡ found m rest → message_within limit ds m ≡ Ok x
      → gives_within limit ds text ≡ behind (x ∷ []) (gives_within limit x.domains rest)
  gives_within-next ds text m rest x e h =
      gives_within-is ds text (cons m (cut rest)) (parts_of-next next_message messages_shrink text m rest e)
      ∙ ap (λ (r : List Message × Option MessageFault). closed r (cut rest).rest) (give_within-next ds m (cut rest).items x h)
      ∙ ap (behind (x ∷ [])) (sym (gives_within-is x.domains rest (cut rest) refl))

  -- a text that begins with a message that has a fault
  pub gives_within-fault : (ds : History) (text m rest : List ℕ) (e : MessageFault) → next_message text ≡ found m rest → message_within limit ds m ≡ Err e
      → gives_within limit ds text ≡ stops (Fault e)
  gives_within-fault ds text m rest e h f =
      gives_within-is ds text (cons m (cut rest)) (parts_of-next next_message messages_shrink text m rest h)
      ∙ ap (λ (r : List Message × Option MessageFault). closed r (cut rest).rest) (give_within-fault ds m (cut rest).items e f)

  -- ---- a text that goes on

  -- messages that were read, and more of them
  abbrev read_then : List Message → Option MessageFault → History → List (List ℕ) → List Message × Option MessageFault
  read_then xs None ds ms = let more = messages_within limit (known_after ds xs) ms in (xs ++ more.0, more.1)
  read_then xs (Some e) ds ms = (xs, Some e)

  one_before : (x : Message) (xs : List Message) (o : Option MessageFault) (ds : History) (ms : List (List ℕ))
      → (x ∷ (read_then xs o x.domains ms).0, (read_then xs o x.domains ms).1) ≡ read_then (x ∷ xs) o ds ms
  one_before x xs None ds ms = refl
  one_before x xs (Some e) ds ms = refl

  pub give_within-append : (ds : History) (ms ns : List (List ℕ)) → messages_within limit ds (ms ++ ns) ≡ read_then (messages_within limit ds ms).0 (messages_within limit ds ms).1 ds ns
  give_within-append ds [] ns = sym (ap (λ (r : List Message × Option MessageFault). read_then r.0 r.1 ds ns) (give_within-none ds))
  give_within-append ds (m ∷ ms) ns =
      elim (cases_read (message_within limit ds m)) [
        | inl ok ↦
            let x = ok.0 in
            give_within-next ds m (ms ++ ns) x ok.1 ∙ ap (with_one x) (give_within-append x.domains ms ns)
            ∙ one_before x (messages_within limit x.domains ms).0 (messages_within limit x.domains ms).1 ds ns
            ∙ sym (ap (λ (r : List Message × Option MessageFault). read_then r.0 r.1 ds ns) (give_within-next ds m ms x ok.1))
        | inr err ↦
            give_within-fault ds m (ms ++ ns) err.0 err.1
            ∙ sym (ap (λ (r : List Message × Option MessageFault). read_then r.0 r.1 ds ns) (give_within-fault ds m ms err.0 err.1))
      ]

  -- what a text gives when it goes on: its messages, and then what its rest gives, unless one of them has a fault
  abbrev pub going_on : List Message → Option MessageFault → History → List ℕ → Given
  going_on xs None ds text = behind xs (gives_within limit (known_after ds xs) text)
  going_on xs (Some e) ds text = record { messages = xs; stop = Fault e }

  closed_is : (xs : List Message) (o : Option MessageFault) (ds : History) (text : List ℕ) → closed (read_then xs o ds (cut text).items) (cut text).rest ≡ going_on xs o ds text
  closed_is xs None ds text = ap (behind xs) (sym (gives_within-is (known_after ds xs) text (cut text) refl))
  closed_is xs (Some e) ds text = refl

  pub goes_on : (ds : History) (text more : List ℕ)
      → gives_within limit ds (text ++ more) ≡ going_on (messages_within limit ds (cut text).items).0 (messages_within limit ds (cut text).items).1 ds ((cut text).rest ++ more)
  goes_on ds text more =
      let rest = (cut text).rest ++ more in
      gives_within-is ds (text ++ more) (join (cut text).items (cut rest)) (parts_of-append next_message messages_shrink messages_stable (length text) text more (omega arith))
      ∙ ap (λ (r : List Message × Option MessageFault). closed r (cut rest).rest) (give_within-append ds (cut text).items (cut rest).items)
      ∙ closed_is (messages_within limit ds (cut text).items).0 (messages_within limit ds (cut text).items).1 ds rest

  -- the same by what was read of the text
  read_goes_on : (ds : History) (text more : List ℕ) (xs : List Message) (o : Option MessageFault) → messages_within limit ds (cut text).items ≡ (xs, o)
      → gives_within limit ds (text ++ more) ≡ going_on xs o ds ((cut text).rest ++ more)
  read_goes_on ds text more xs o e = goes_on ds text more ∙ ap (λ (r : List Message × Option MessageFault). going_on r.0 r.1 ds ((cut text).rest ++ more)) e

  read_gives : (ds : History) (text : List ℕ) (xs : List Message) (o : Option MessageFault) → messages_within limit ds (cut text).items ≡ (xs, o)
      → gives_within limit ds text ≡ record { messages = xs; stop = stop_after o (rest_stop (cut text).rest) }
  read_gives ds text xs o e = gives_within-is ds text (cut text) refl ∙ ap (λ (r : List Message × Option MessageFault). closed r (cut text).rest) e

  -- ---- after a fault nothing changes

  fault_stays : (ds : History) (text more : List ℕ) (e : MessageFault) (xs : List Message) (o : Option MessageFault) → messages_within limit ds (cut text).items ≡ (xs, o)
      → stop_after o (rest_stop (cut text).rest) ≡ Fault e → gives_within limit ds (text ++ more) ≡ gives_within limit ds text
  fault_stays ds text more e xs None read stop =
      read_goes_on ds text more xs None read
      ∙ ap (behind xs) (gives_within-stop (known_after ds xs) ((cut text).rest ++ more) (Fault e) (bad_goes_on (cut text).rest more e stop))
      ∙ ap (λ (ms : List Message). record { messages = ms; stop = Fault e }) (append-nil xs)
      ∙ ap (λ (s : Stop). record { messages = xs; stop = s }) (sym stop)
      ∙ sym (read_gives ds text xs None read)
  fault_stays ds text more e xs (Some d) read stop = read_goes_on ds text more xs (Some d) read ∙ sym (read_gives ds text xs (Some d) read)

  pub gives_within-fault_stays : (ds : History) (text more : List ℕ) (e : MessageFault) → (gives_within limit ds text).stop ≡ Fault e → gives_within limit ds (text ++ more) ≡ gives_within limit ds text
  gives_within-fault_stays ds text more e stop =
      let read = messages_within limit ds (cut text).items in
      fault_stays ds text more e read.0 read.1 refl (sym (ap (λ (g : Given). g.stop) (read_gives ds text read.0 read.1 refl)) ∙ stop)

  -- ---- without a fault the text is read on from its rest

  open_goes_on : (ds : History) (text more : List ℕ) (xs : List Message) (o : Option MessageFault) → messages_within limit ds (cut text).items ≡ (xs, o)
      → IsOpen (stop_after o (rest_stop (cut text).rest)) → gives_within limit ds (text ++ more) ≡ behind xs (gives_within limit (known_after ds xs) ((cut text).rest ++ more))
  open_goes_on ds text more xs None read open_yet = read_goes_on ds text more xs None read
  open_goes_on ds text more xs (Some d) read open_yet = absurd open_yet

  pub gives_within-open : (ds : History) (text more : List ℕ) → IsOpen (gives_within limit ds text).stop
      → gives_within limit ds (text ++ more) ≡ behind (gives_within limit ds text).messages (gives_within limit (known_after ds (gives_within limit ds text).messages) ((cut text).rest ++ more))
  gives_within-open ds text more open_yet =
      let read = messages_within limit ds (cut text).items in
      let is = read_gives ds text read.0 read.1 refl in
      open_goes_on ds text more read.0 read.1 refl (subst (λ (g : Given). IsOpen g.stop) is open_yet)
      ∙ ap (λ (g : Given). behind g.messages (gives_within limit (known_after ds g.messages) ((cut text).rest ++ more))) (sym is)

  -- ---- the messages and the records of a text are the first of a longer one's

  prefix_on : (ds : History) (xs : List Message) (o : Option MessageFault) (text : List ℕ) → IsPrefix xs (going_on xs o ds text).messages
  prefix_on ds xs None text = ((gives_within limit (known_after ds xs) text).messages, refl)
  prefix_on ds xs (Some e) text = ([], sym (append-nil xs))

  pub given_within-prefix : (text more : List ℕ) → IsPrefix (given_within limit text).messages (given_within limit (text ++ more)).messages
  given_within-prefix text more =
      let read = messages_within limit [] (cut text).items in
      let is = ap (λ (g : Given). g.messages) (read_gives [] text read.0 read.1 refl) in
      let on = ap (λ (g : Given). g.messages) (goes_on [] text more) in
      let p = prefix_on [] read.0 read.1 ((cut text).rest ++ more) in
      (p.0, on ∙ p.1 ∙ ap (λ (ms : List Message). ms ++ p.0) (sym is))

  pub records_within-prefix : (text more : List ℕ) → IsPrefix (records_within limit text) (records_within limit (text ++ more))
  records_within-prefix text more =
      let p = given_within-prefix text more in
      (records_in p.0, ap records_in p.1 ∙ records_in-append (given_within limit text).messages p.0)

  -- ---- without a fault the text stops as its rest does

  pub stop_within-rest : (ds : History) (text : List ℕ) → IsOpen (gives_within limit ds text).stop → (gives_within limit ds text).stop ≡ rest_stop (cut text).rest
  stop_within-rest ds text is_open =
      let read = messages_within limit ds (cut text).items in
      let is = ap (λ (g : Given). g.stop) (read_gives ds text read.0 read.1 refl) in
      is ∙ open_is_rest read.1 (rest_stop (cut text).rest) (subst IsOpen is is_open)

-- ---- without a limit

pub give-none : (ds : History) → messages_give ds [] ≡ ([], None)
give-none ds = give_within-none None ds

pub give-next : (ds : History) (m : List ℕ) (ms : List (List ℕ)) (x : Message) → message_gives ds m ≡ Ok x → messages_give ds (m ∷ ms) ≡ (x ∷ (messages_give x.domains ms).0, (messages_give x.domains ms).1)
give-next ds m ms x e = give_within-next None ds m ms x e

pub give-fault : (ds : History) (m : List ℕ) (ms : List (List ℕ)) (e : MessageFault) → message_gives ds m ≡ Err e → messages_give ds (m ∷ ms) ≡ ([], Some e)
give-fault ds m ms e h = give_within-fault None ds m ms e h

pub gives_after-is : (ds : History) (text : List ℕ) (p : Parts (List ℕ)) → cut text ≡ p → gives_after ds text ≡ closed (messages_give ds p.items) p.rest
gives_after-is ds text p e = gives_within-is None ds text p e

pub gives_after-stop : (ds : History) (text : List ℕ) (s : Stop) → next_message text ≡ none_at s → gives_after ds text ≡ stops s
gives_after-stop ds text s e = gives_within-stop None ds text s e

pub gives_after-next : (ds : History) (text m rest : List ℕ) (x : Message) → next_message text ≡ found m rest → message_gives ds m ≡ Ok x → gives_after ds text ≡ behind (x ∷ []) (gives_after x.domains rest)
gives_after-next ds text m rest x e h = gives_within-next None ds text m rest x e h

pub gives_after-fault : (ds : History) (text m rest : List ℕ) (e : MessageFault) → next_message text ≡ found m rest → message_gives ds m ≡ Err e → gives_after ds text ≡ stops (Fault e)
gives_after-fault ds text m rest e h f = gives_within-fault None ds text m rest e h f

pub gives_after-fault_stays : (ds : History) (text more : List ℕ) (e : MessageFault) → (gives_after ds text).stop ≡ Fault e → gives_after ds (text ++ more) ≡ gives_after ds text
gives_after-fault_stays ds text more e stop = gives_within-fault_stays None ds text more e stop

-- the same of a text that has a fault
pub gives_after-closed_stays : (ds : History) (text more : List ℕ) → ¬ IsOpen (gives_after ds text).stop → gives_after ds (text ++ more) ≡ gives_after ds text
gives_after-closed_stays ds text more closed =
    let fault = fault_of_closed (gives_after ds text).stop closed in
    gives_after-fault_stays ds text more fault.0 fault.1
  where
    fault_of_closed : (s : Stop) → ¬ IsOpen s → (e : MessageFault) × (s ≡ Fault e)
    fault_of_closed Clean closed = absurd (closed tt)
    fault_of_closed Short closed = absurd (closed tt)
    fault_of_closed (Fault e) closed = (e, refl)

pub gives_after-open : (ds : History) (text more : List ℕ) → IsOpen (gives_after ds text).stop
    → gives_after ds (text ++ more) ≡ behind (gives_after ds text).messages (gives_after (known_after ds (gives_after ds text).messages) ((cut text).rest ++ more))
gives_after-open ds text more open_yet = gives_within-open None ds text more open_yet

pub gives-prefix : (text more : List ℕ) → IsPrefix (gives text).messages (gives (text ++ more)).messages
gives-prefix text more = given_within-prefix None text more

pub records_of-prefix : (text more : List ℕ) → IsPrefix (records_of text) (records_of (text ++ more))
records_of-prefix text more = records_within-prefix None text more
