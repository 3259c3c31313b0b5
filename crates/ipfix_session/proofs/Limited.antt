-- A session whose templates have a limit gives the first of the messages that it gives without one.
use Rattle.std.proofs.Common.{◌≡◌, ℕ, List, [], ◌∷◌, Option, None, Result, Ok, Err, refl, sym, ap, subst}
use Rattle.ipfix_message.specs.declared.fault.MessageFault.{MessageFault}
use Rattle.ipfix_message.specs.Domains.{History, Message}
use Rattle.ipfix_message.specs.TemplateLimits.{message_within}
use Rattle.ipfix_message.proofs.TemplateLimits.{left_within}
use Rattle.ipfix_session.specs.Given.{Given, IsPrefix, given_within, gives, messages_give, messages_within}
use Rattle.ipfix_session.specs.MessageStream.{cut}
use Rattle.ipfix_session.proofs.Giving.{give-next, give_within-fault, give_within-next, give_within-none, gives_within-is}

one_more : (x : Message) (xs ys : List Message) → IsPrefix xs ys → IsPrefix (x ∷ xs) (x ∷ ys)
one_more x xs ys p = (p.0, ap (λ (zs : List Message). x ∷ zs) p.1)

are_first : (limit : Option ℕ) (ds : History) (ms : List (List ℕ)) → IsPrefix (messages_within limit ds ms).0 (messages_give ds ms).0
are_first limit ds [] = subst (λ (r : List Message × Option MessageFault). IsPrefix r.0 (messages_give ds []).0) (sym (give_within-none limit ds)) ((messages_give ds []).0, refl)
are_first limit ds (m ∷ ms) = by_read (λ (x : Message). are_first limit x.domains ms) (message_within limit ds m) refl
  where
    by_read : ((x : Message) → IsPrefix (messages_within limit x.domains ms).0 (messages_give x.domains ms).0) → (r : Result Message MessageFault) → message_within limit ds m ≡ r
        → IsPrefix (messages_within limit ds (m ∷ ms)).0 (messages_give ds (m ∷ ms)).0
    by_read later (Err e) is = subst (λ (r : List Message × Option MessageFault). IsPrefix r.0 (messages_give ds (m ∷ ms)).0) (sym (give_within-fault limit ds m ms e is)) ((messages_give ds (m ∷ ms)).0, refl)
    by_read later (Ok x) is =
        subst (λ (r : List Message × Option MessageFault). IsPrefix r.0 (messages_give ds (m ∷ ms)).0) (sym (give_within-next limit ds m ms x is))
        (subst (λ (r : List Message × Option MessageFault). IsPrefix (x ∷ (messages_within limit x.domains ms).0) r.0) (sym (give-next ds m ms x (left_within limit ds m x is).0))
        (one_more x (messages_within limit x.domains ms).0 (messages_give x.domains ms).0 (later x)))

pub text_is_first : (limit : Option ℕ) (text : List ℕ) → IsPrefix (given_within limit text).messages (gives text).messages
text_is_first limit text =
    subst (λ (g : Given). IsPrefix g.messages (gives text).messages) (sym (gives_within-is limit [] text (cut text) refl))
    (subst (λ (g : Given). IsPrefix (messages_within limit [] (cut text).items).0 g.messages) (sym (gives_within-is None [] text (cut text) refl)) (are_first limit [] (cut text).items))
