-- Messages one after another are a text, which gives what they give.
use Rattle.std.proofs.Common.{◌≡◌, ℕ, List, [], ◌∷◌, ◌++◌, Ok, refl, ap, ◌∙◌}
use Rattle.ipfix_wire.specs.declared.header.Header.{Header}
use Rattle.ipfix_wire.proofs.Headers.{header_is_good}
use Rattle.ipfix_message.specs.Domains.{History, Message, message_header}
use Rattle.ipfix_message.proofs.History.{header_is}
use Rattle.ipfix_session.specs.declared.stop.Stop.TheVariants.{Clean}
use Rattle.ipfix_session.specs.MessageStream.{IsMessage, next_message}
use Rattle.ipfix_session.specs.Given.{Given, gives_after, behind, octets_of}
use Rattle.ipfix_session.proofs.Cut.{found, none_at, messages_read}
use Rattle.ipfix_session.proofs.Giving.{gives_after-stop, gives_after-next}
use Rattle.ipfix_session.proofs.Chains.{GivesAll}
use Rattle.ipfix_message.proofs.PartsOf.{was_read}

message_is : (m : List ℕ) (h : Header) → message_header m ≡ Ok h → IsMessage m
message_is m h good =
    let was = header_is m h good in
    let is = header_is_good m h was.1 in
    record { header = was.0; version = is.version; own_length = is.size ∙ was.2 }

abbrev given : List Message → Given
given ms = record { messages = ms; stop = Clean }

pub nothing_follows : next_message [] ≡ none_at Clean
unfolding next_message
nothing_follows = refl

-- messages that are read one after another are a text without a fault
pub text_gives : (ds : History) (ms : List (List ℕ)) (xs : List Message) → GivesAll ds ms xs → gives_after ds (octets_of ms) ≡ given xs
text_gives ds [] [] h = gives_after-stop ds [] Clean nothing_follows
text_gives ds (m ∷ ms) (x ∷ xs) h =
    let is = message_is m x.header (was_read ds m x h.0).header in
    let next : next_message (m ++ octets_of ms) ≡ found m (octets_of ms) = messages_read.only m m (octets_of ms) (refl, is) in
    gives_after-next ds (m ++ octets_of ms) m (octets_of ms) x next h.0 ∙ ap (behind (x ∷ [])) (text_gives x.domains ms xs h.1)
text_gives ds [] (x ∷ xs) h = absurd h
text_gives ds (m ∷ ms) [] h = absurd h
