-- A file grows by more messages and what precedes them.
use Rattle.std.proofs.Common.{◌≡◌, ℕ, List, [], ◌∷◌, ◌++◌, Ok, refl, sym, ap, subst, ◌∙◌, append_assoc}
use Rattle.std.proofs.lemmas.List.{append-nil}
use Rattle.ipfix_message.specs.Domains.{Message, message_gives}
use Rattle.ipfix_session.specs.Given.{known_after}
use Rattle.recording_files.specs.Recordings.{Precedes, Writes}

-- what is written for messages one after another stands in a file one after another
pub writes-append : (before here : List Message) (ms ns : List (List ℕ)) (xs ys : List Message) (v w : List (List ℕ)) → Writes before here ms xs v → Writes before (here ++ xs) ns ys w
    → Writes before here (ms ++ ns) (xs ++ ys) (v ++ w)
writes-append before here [] ns [] ys v w first more =
    rw (first) (subst (λ (h : List Message). Writes before h ns ys w) (append-nil here) more)
writes-append before here [] ns (x ∷ xs) ys v w first more = absurd first
writes-append before here (m ∷ ms) ns [] ys v w first more = absurd first
writes-append before here (m ∷ ms) ns (x ∷ xs) ys v w first more =
    let lead = first.0 in
    let rest = first.1 in
    let whole : v ++ w ≡ lead ++ (m ∷ (rest ++ w)) = ap (λ (t : List (List ℕ)). t ++ w) first.2 ∙ append_assoc lead (m ∷ rest) w in
    let later : Writes before ((here ++ x ∷ []) ++ xs) ns ys w = subst (λ (h : List Message). Writes before h ns ys w) (sym (append_assoc here (x ∷ []) xs)) more in
    (lead, rest ++ w, whole, first.3, first.4, writes-append before (here ++ x ∷ []) ms ns xs ys rest w first.5 later)

-- so the octets that a recorder answers, one after another, are those of a file
pub writes_more : (before here : List Message) (ms : List (List ℕ)) (xs : List Message) (w : List (List ℕ)) (m : List ℕ) (x : Message) (lead : List (List ℕ)) → Writes before here ms xs w
    → message_gives (known_after [] (before ++ (here ++ xs))) m ≡ Ok x → Precedes before (here ++ xs) x.header lead → Writes before here (ms ++ m ∷ []) (xs ++ x ∷ []) (w ++ (lead ++ (m ∷ [])))
writes_more before here ms xs w m x lead writes read is =
    writes-append before here ms (m ∷ []) xs (x ∷ []) w (lead ++ (m ∷ [])) writes (lead, [], refl, read, is, refl)
