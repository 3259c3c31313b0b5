-- Taking the messages of a text, one after another.
use Rattle.std.proofs.Common.{◌≡◌, ℕ, List, [], ◌∷◌, ◌++◌, Result, Ok, Err, refl, sym, ap, subst, ◌∙◌, append_assoc, arith, length}
use Rattle.std.proofs.lemmas.List.{append-nil, take-append-drop}
use Rattle.std.proofs.lemmas.Grind.{flat_map-append}
use Rattle.std.specs.Prelude.{drop}
use Rattle.ipfix_wire.specs.InTurn.{Parts}
use Rattle.ipfix_wire.proofs.Parts.{parts_of-next}
use Rattle.ipfix_message.specs.Domains.{History, Message}
use Rattle.ipfix_message.specs.declared.fault.MessageFault.{MessageFault}
use Rattle.ipfix_message.specs.declared.fault.MessageFault.TheVariants.{OutOfMemory}
use Rattle.ipfix_session.specs.declared.stop.Stop.{Stop}
use Rattle.ipfix_session.specs.declared.stop.Stop.TheVariants.{Fault}
use Rattle.ipfix_session.specs.declared.fault.SessionFault.{SessionFault}
use Rattle.ipfix_session.specs.declared.fault.SessionFault.TheVariants as faults
use Rattle.ipfix_session.specs.MessageStream.{next_message}
use Rattle.ipfix_session.specs.Given.{Given, gives_within, behind, octets_of, IsOpen}
use Rattle.ipfix_session.specs.Buffers.{IsFilled}
use Rattle.ipfix_session.specs.MessageSinks.{MessageSinkView, known_behind, HasTaken, TakesOne, IsBetween, IsAtRest, TookFirst, Stops}
use Rattle.ipfix_session.proofs.Chains.{known_after-push}
use Rattle.ipfix_session.proofs.Cut.{found, none_at, next_begins, messages_shrink}
use Rattle.ipfix_session.proofs.Giving.{stops, gives_within-stop, gives_within-next, gives_within-fault, behind-behind}

-- from one place in a text to a later one
abbrev pub GoesOver : {M T : Type 0} (view : MessageSinkView M T) (m n : M) (to later : T) (left rest : List ℕ) → Type 0
GoesOver view m n to later left rest = (before : view.Before) (text : List ℕ) → IsBetween view before text m to left → IsBetween view before text n later rest

pub none_left : (w : List ℕ) → length w ≡ 0 → w ≡ []
none_left [] e = refl
none_left (b ∷ w) e = absurd (omega (arith, e))

-- ---- octets of messages

pub octets-append : (ms ns : List (List ℕ)) → octets_of (ms ++ ns) ≡ octets_of ms ++ octets_of ns
octets-append ms ns = flat_map-append (λ (w : List ℕ). w) ms ns

pub octets-push : (ms : List (List ℕ)) (m : List ℕ) → octets_of (ms ++ m ∷ []) ≡ octets_of ms ++ m
octets-push ms m = octets-append ms (m ∷ []) ∙ ap (λ (w : List ℕ). octets_of ms ++ w) (append-nil m)

cut_at : (w m r : List ℕ) → next_message w ≡ found m r → w ≡ m ++ r
cut_at w m r e =
    let b = next_begins w m r e in
    sym (take-append-drop b.header.length w) ∙ ap (λ (x : List ℕ). x ++ drop b.header.length w) b.message ∙ ap (λ (y : List ℕ). m ++ y) b.rest

module _ {M T : Type 0} (view : MessageSinkView M T) (before : view.Before) (text : List ℕ) where
  -- ---- from one place to the next

  pub between_first : (m : M) (to : T) → HasTaken view before m to [] [] → IsBetween view before text m to text
  between_first m to taken = record { messages = []; given = []; taken = taken; octets = refl; is = refl; rest = refl }

  pub between_on : (m n : M) (to later : T) (left octets rest : List ℕ) (answer : Unit {0}) (b : IsBetween view before text m to left) → next_message left ≡ found octets rest
      → TakesOne view before (Ok answer) n later b.messages b.given octets → IsBetween view before text n later rest
  between_on m n to later left octets rest answer b begins t =
      let next = t.0 in
      let given = b.given ++ next ∷ [] in
      let now : known_behind view before given ≡ next.domains = known_after-push (view.known before) b.given next in
      record {
        messages = b.messages ++ octets ∷ [];
        given = given;
        taken = t.2;
        octets = b.octets ∙ ap (λ (w : List ℕ). octets_of b.messages ++ w) (cut_at left octets rest begins) ∙ sym (append_assoc (octets_of b.messages) octets rest)
            ∙ ap (λ (w : List ℕ). w ++ rest) (sym (octets-push b.messages octets));
        is = b.is ∙ ap (behind b.given) (gives_within-next (view.limit before) (known_behind view before b.given) left octets rest next begins t.1) ∙ behind-behind b.given (next ∷ []) (gives_within (view.limit before) next.domains rest)
            ∙ ap (λ (ds : History). behind given (gives_within (view.limit before) ds rest)) (sym now);
        rest = b.rest ∙ ap (λ (p : Parts (List ℕ)). p.rest) (parts_of-next next_message messages_shrink left octets rest begins);
      }

  -- ---- why no more of them are taken

  abbrev pub took_first : (m n : M) (to later : T) (left : List ℕ) (b : IsBetween view before text m to left) → view.took before n later b.messages b.given → TookFirst view before text n later
  took_first m n to later left b took = record {
    messages = b.messages;
    given = b.given;
    left = left;
    took = took;
    octets = b.octets;
    next = ((gives_within (view.limit before) (known_behind view before b.given) left).messages, ap (λ (g : Given). g.messages) b.is);
  }

  took_up_to : (m n : M) (to later : T) (left : List ℕ) (e : MessageFault) (b : IsBetween view before text m to left) → view.took before n later b.messages b.given
      → gives_within (view.limit before) (known_behind view before b.given) left ≡ stops (Fault e) → Stops view before (faults.Message e) text n later
  took_up_to m n to later left OutOfMemory b took stop = took_first m n to later left b took
  took_up_to m n to later left e b took stop = record {
    first = took_first m n to later left b took;
    all = b.is ∙ ap (behind b.given) stop ∙ ap (λ (ms : List Message). record { messages = ms; stop = Fault e }) (append-nil b.given);
  }

  -- memory ran out
  pub stops_out : (m : M) (to : T) (left : List ℕ) → IsBetween view before text m to left → Stops view before (faults.Message OutOfMemory) text m to
  stops_out m to left b = took_first m m to to left b b.taken.took

  -- a header is none of a message
  pub stops_at : (m : M) (to : T) (left : List ℕ) (e : MessageFault) → IsBetween view before text m to left → next_message left ≡ none_at (Fault e) → Stops view before (faults.Message e) text m to
  stops_at m to left e b none = took_up_to m m to to left e b b.taken.took (gives_within-stop (view.limit before) (known_behind view before b.given) left (Fault e) none)

  -- the next message wasn't taken
  pub stops_taking : (m n : M) (to later : T) (left octets rest : List ℕ) (f : SessionFault) (b : IsBetween view before text m to left) → next_message left ≡ found octets rest
      → TakesOne view before (Err f) n later b.messages b.given octets → Stops view before f text n later
  stops_taking m n to later left octets rest (faults.Message OutOfMemory) b begins t = took_first m n to later left b t.0
  stops_taking m n to later left octets rest (faults.Message e) b begins t =
      took_up_to m n to later left e b t.0 (gives_within-fault (view.limit before) (known_behind view before b.given) left octets rest e begins t.1)
  stops_taking m n to later left octets rest faults.SinkClosed b begins t = record {
    given = b.given;
    next = t.0;
    more = (gives_within (view.limit before) t.0.domains rest).messages;
    are = ap (λ (g : Given). g.messages) (b.is ∙ ap (behind b.given) (gives_within-next (view.limit before) (known_behind view before b.given) left octets rest t.0 begins t.1));
    part = t.2;
  }
  stops_taking m n to later left octets rest faults.Truncated b begins t = absurd t
  stops_taking m n to later left octets rest faults.ReadFailed b begins t = absurd t
  stops_taking m n to later left octets rest faults.TooManyReads b begins t = absurd t

  -- ---- the same place

  pub between_at : (m : M) (to : T) (left same : List ℕ) → left ≡ same → IsBetween view before text m to left → IsBetween view before text m to same
  between_at m to left same e b = subst (λ (w : List ℕ). IsBetween view before text m to w) e b

  pub at_rest : (m : M) (to : T) (left same : List ℕ) → left ≡ same → IsAtRest view before text m to left → IsAtRest view before text m to same
  at_rest m to left same e r = subst (λ (w : List ℕ). IsAtRest view before text m to w) e r

  -- the buffer keeps what begins a message
  pub kept_begun : (m : M) (to : T) (buffer left : List ℕ) (stop : Stop) → next_message buffer ≡ none_at stop → IsOpen stop → IsFilled (next_message buffer) left
      → IsBetween view before text m to (buffer ++ left) → IsAtRest view before text m to buffer
  kept_begun m to buffer left stop none is_open filled b =
      let nothing : left ≡ [] = subst (λ (r : Result (List ℕ × List ℕ) Stop). IsFilled r left) none filled is_open in
      record {
        between = between_at m to (buffer ++ left) buffer (ap (λ (w : List ℕ). buffer ++ w) nothing ∙ append-nil buffer) b;
        is_rest = record { stop = stop; none = none; is_open = is_open };
      }
