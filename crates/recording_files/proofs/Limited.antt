-- A session whose templates have a limit.
use Rattle.std.proofs.Common.{◌≡◌, ℕ, List, [], ◌∷◌, ◌++◌, Option, Some, None, Result, Ok, Err, refl, sym, ap, subst, ◌∙◌}
use Rattle.ipfix_message.specs.Domains.{History, Message}
use Rattle.ipfix_message.specs.TemplateLimits.{IsWithin, message_within}
use Rattle.ipfix_message.specs.declared.fault.MessageFault.{MessageFault}
use Rattle.ipfix_message.proofs.TemplateLimits.{left_within}
use Rattle.ipfix_session.specs.MessageStream.{cut, rest_stop}
use Rattle.ipfix_session.specs.Given.{Given, IsOpen, IsPrefix, given_within, gives, known_after, messages_give, messages_within, stop_after, stop_within}
use Rattle.ipfix_session.proofs.Giving.{closed, give-next, give-none, give_within-fault, give_within-next, give_within-none, gives_within-is}
use Rattle.recording_files.proofs.Keeping.{none_fit}

-- ---- where no message has a fault, the limit changes nothing

abbrev with_one : Message → List Message × Option MessageFault → List Message × Option MessageFault
with_one x r = (x ∷ r.0, r.1)

some_fault : (e : MessageFault) → Some e ≡ None → ⊥
some_fault e is = cc

same_messages : (limit : Option ℕ) (ds : History) (ms : List (List ℕ)) → (messages_within limit ds ms).1 ≡ None → messages_within limit ds ms ≡ messages_give ds ms
same_messages limit ds [] none = give_within-none limit ds ∙ sym (give-none ds)
same_messages limit ds (m ∷ ms) none = by_read (λ (x : Message). same_messages limit x.domains ms) (message_within limit ds m) refl
  where
    by_read : ((x : Message) → (messages_within limit x.domains ms).1 ≡ None → messages_within limit x.domains ms ≡ messages_give x.domains ms) → (r : Result Message MessageFault) → message_within limit ds m ≡ r
        → messages_within limit ds (m ∷ ms) ≡ messages_give ds (m ∷ ms)
    by_read later (Err e) is = absurd (some_fault e (sym (ap (λ (r : List Message × Option MessageFault). r.1) (give_within-fault limit ds m ms e is)) ∙ none))
    by_read later (Ok x) is =
        let now = give_within-next limit ds m ms x is in
        now ∙ ap (with_one x) (later x (sym (ap (λ (r : List Message × Option MessageFault). r.1) now) ∙ none)) ∙ sym (give-next ds m ms x (left_within limit ds m x is).0)

no_fault : (o : Option MessageFault) (rest : List ℕ) → IsOpen (stop_after o (rest_stop rest)) → o ≡ None
no_fault None rest is_open = refl
no_fault (Some e) rest is_open = absurd is_open

pub unlimited_open : (limit : Option ℕ) (text : List ℕ) → IsOpen (stop_within limit text) → given_within limit text ≡ gives text
unlimited_open limit text is_open =
    let read = messages_within limit [] (cut text).items in
    let is = gives_within-is limit [] text (cut text) refl in
    let none = no_fault read.1 (cut text).rest (subst (λ (g : Given). IsOpen g.stop) is is_open) in
    is ∙ ap (λ (r : List Message × Option MessageFault). closed r (cut text).rest) (same_messages limit [] (cut text).items none) ∙ sym (gives_within-is None [] text (cut text) refl)

-- ---- the first messages leave no more templates in force than the limit allows

first_fit : (limit : Option ℕ) (ds : History) (ms : List (List ℕ)) (xs more : List Message) → (messages_within limit ds ms).0 ≡ xs ++ more → IsWithin limit ds → IsWithin limit (known_after ds xs)
first_fit limit ds ms [] more are fits = fits
first_fit limit ds [] (x ∷ xs) more are fits = let no : [] ≡ x ∷ (xs ++ more) = sym (ap (λ (r : List Message × Option MessageFault). r.0) (give_within-none limit ds)) ∙ are in absurd cc
first_fit limit ds (m ∷ ms) (x ∷ xs) more are fits = by_read (λ (y : Message). first_fit limit y.domains ms xs more) (message_within limit ds m) refl
  where
    by_read : ((y : Message) → (messages_within limit y.domains ms).0 ≡ xs ++ more → IsWithin limit y.domains → IsWithin limit (known_after y.domains xs)) → (r : Result Message MessageFault)
        → message_within limit ds m ≡ r → IsWithin limit (known_after x.domains xs)
    by_read later (Err e) is = let no : [] ≡ x ∷ (xs ++ more) = sym (ap (λ (r : List Message × Option MessageFault). r.0) (give_within-fault limit ds m ms e is)) ∙ are in absurd cc
    by_read later (Ok y) is =
        let next : y ∷ (messages_within limit y.domains ms).0 ≡ x ∷ (xs ++ more) = sym (ap (λ (r : List Message × Option MessageFault). r.0) (give_within-next limit ds m ms y is)) ∙ are in
        let same : y ≡ x = cc in
        let rest : (messages_within limit y.domains ms).0 ≡ xs ++ more = cc in
        subst (λ (z : Message). IsWithin limit (known_after z.domains xs)) same (later y rest (left_within limit ds m y is).1)

pub prefix_fits : (limit : Option ℕ) (text : List ℕ) (xs : List Message) → IsPrefix xs (given_within limit text).messages → IsWithin limit (known_after [] xs)
prefix_fits limit text xs p =
    let is : (given_within limit text).messages ≡ (messages_within limit [] (cut text).items).0 = ap (λ (g : Given). g.messages) (gives_within-is limit [] text (cut text) refl) in
    first_fit limit [] (cut text).items xs p.0 (sym is ∙ p.1) (none_fit limit)
