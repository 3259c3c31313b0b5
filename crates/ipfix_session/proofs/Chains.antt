-- Messages that are read one after another.
use Rattle.std.proofs.Common.{◌≡◌, ℕ, List, [], ◌∷◌, ◌++◌, Ok, refl}
use Rattle.ipfix_message.specs.Domains.{History, Message, message_gives}
use Rattle.ipfix_session.specs.Given.{known_after}

-- these messages give these, with no fault
abbrev pub GivesAll : History → List (List ℕ) → List Message → Type 0
GivesAll ds [] [] = Unit {0}
GivesAll ds (m ∷ ms) (x ∷ xs) = (message_gives ds m ≡ Ok x) × GivesAll x.domains ms xs
GivesAll ds [] (x ∷ xs) = ⊥
GivesAll ds (m ∷ ms) [] = ⊥

pub gives-append : (ds : History) (ms ns : List (List ℕ)) (xs ys : List Message) → GivesAll ds ms xs → GivesAll (known_after ds xs) ns ys → GivesAll ds (ms ++ ns) (xs ++ ys)
gives-append ds [] ns [] ys h k = k
gives-append ds (m ∷ ms) ns (x ∷ xs) ys h k = (h.0, gives-append x.domains ms ns xs ys h.1 k)
gives-append ds [] ns (x ∷ xs) ys h k = absurd h
gives-append ds (m ∷ ms) ns [] ys h k = absurd h

pub known-append : (ds : History) (xs ys : List Message) → known_after ds (xs ++ ys) ≡ known_after (known_after ds xs) ys
known-append ds [] ys = refl
known-append ds (x ∷ xs) ys = known-append x.domains xs ys

pub known_after-push : (ds : History) (ms : List Message) (x : Message) → known_after ds (ms ++ x ∷ []) ≡ x.domains
known_after-push ds [] x = refl
known_after-push ds (m ∷ ms) x = known_after-push m.domains ms x
