-- The front of a text, and what is held of it.
use Rattle.std.proofs.Common.{◌≡◌, ℕ, ◌+◌, ◌<◌, ◌≤◌, List, ◌++◌, length, take, drop, sym, ap, subst, append_assoc, ◌∙◌, arith, inl, inr}
use Rattle.std.specs.Prelude.{◌-◌, ◌^◌, ◌⊎◌, max, min}
use Rattle.std.specs.List.{copy_within}
use Rattle.std.proofs.Math.Seq.{take-append-add}
use Rattle.std.proofs.lemmas.List.{length-append, length-drop, length-take-le, take_all}
use Rattle.std.proofs.lemmas.List.Edits.{take-paste}
use Rattle.ipfix_session.specs.Ledger.{capped}
use Rattle.input_digests.specs.declared.front_digest.FrontDigest.{FrontDigest}
use Rattle.input_digests.specs.FrontDigests.{HasRead, HashesHeld}
use Rattle.input_digests.specs.declared.front_digest.TheConstants.{MOST_OPEN}
use Rattle.sha2.specs.Hashers.{Holds256}
use Rattle.sha2.specs.declared.Sha256.{Sha256}
use Rattle.std.proofs.lemmas.Bool.{cases_lt}

-- octets that are moved to the front are those behind the ones that leave
pub moved_front : (xs : List ℕ) (due count : ℕ) → due ≤ count → count ≡ length xs → take (count - due) (copy_within xs due count 0) ≡ drop due xs
moved_front xs due count within all =
    let none : 0 + (count - due) ≡ count - due = omega arith in
    let whole : due + (count - due) ≡ count = omega arith in
    let left : count - due ≤ length (drop due xs) = omega (arith, length-drop {A = ℕ}) in
    let pasted = take-paste xs 0 (drop due xs) (count - due) (omega arith) left in
    ap (λ (k : ℕ). take k (copy_within xs due count 0)) (sym none) ∙ pasted ∙ take_all (count - due) (drop due xs) (omega (arith, length-drop {A = ℕ}))

-- the first octets of a text are those that were hashed, and the first of those that are held
pub taken : (front held text : List ℕ) (octets hashed rest : ℕ) → text ≡ front ++ held → hashed ≡ capped (length front) → length text < 2 ^ 64 → octets ≡ hashed + rest → take octets text ≡ front ++ take rest held
taken front held text octets hashed rest is count small sum =
    let long : length text ≡ length front + length held = ap length is ∙ length-append front held in
    let place : octets ≡ length front + rest = omega arith in
    ap (λ (k : ℕ). take k text) place ∙ ap (take (length front + rest)) is ∙ take-append-add front held rest

-- ---- what is hashed of it

-- a digest that hashed so many more of a text's octets, which are known to count, or leave enough of them
pub hashed_more : (old new : FrontDigest) (due sure known : ℕ) (text : List ℕ) → due ≤ length old.held → HashesHeld old new due
    → (read : HasRead old sure text) → (length read.front + due ≤ known) ⊎ (MOST_OPEN ≤ length new.held) → HasRead new known text
hashed_more old new due sure known text within moved read behind =
    let long : length (read.front ++ take due old.held) ≡ length read.front + due = length-append read.front (take due old.held) ∙ ap (λ (n : ℕ). length read.front + n) (length-take-le due old.held within) in
    record {
      front = read.front ++ take due old.held;
      holds = moved read.front text read.holds;
      behind = rw long behind;
    }

-- and that has made room
pub made_room : (old new : FrontDigest) (held sure : ℕ) (text : List ℕ) → held ≡ length old.held → MOST_OPEN < held → HashesHeld old new (held - MOST_OPEN)
    → length new.held + (held - MOST_OPEN) ≡ length old.held → HasRead old sure text → HasRead new sure text
made_room old new held sure text is many moved sum read =
    hashed_more old new (held - MOST_OPEN) sure sure text (omega arith) moved read (inr (omega arith))

-- and of whose text so many octets are known to count
pub settled : (old new : FrontDigest) (octets due sure : ℕ) (text : List ℕ) → octets < 2 ^ 64 → due ≡ min (octets - old.hashed) (length old.held)
    → HashesHeld old new due → length new.held + due ≡ length old.held
    → HasRead old sure text → HasRead new (max sure octets) text
settled old new octets due sure text fits is moved sum read =
    hashed_more old new due sure (max sure octets) text (omega arith) moved read (by_count (cases_lt old.hashed octets) read.behind)
  where
    by_count : (old.hashed < octets) ⊎ (octets ≤ old.hashed) → (length read.front ≤ sure) ⊎ (MOST_OPEN ≤ length old.held) → (length read.front + due ≤ max sure octets) ⊎ (MOST_OPEN ≤ length new.held)
    by_count (inl more) behind = inl (omega (arith, read.holds.count))
    by_count (inr none) (inl few) = inl (omega arith)
    by_count (inr none) (inr many) = inr (omega arith)

-- a digest that holds a piece more has read it
pub read_piece : (old new : FrontDigest) (piece : List ℕ) → new.hasher ≡ old.hasher → new.hashed ≡ old.hashed → new.held ≡ old.held ++ piece → (sure : ℕ) (text : List ℕ) → HasRead old sure text
    → HasRead new sure (text ++ piece)
read_piece old new piece hasher hashed held sure text read =
    record {
      front = read.front;
      holds = record {
        hashed = subst (λ (h : Sha256). Holds256 h read.front) (sym hasher) read.holds.hashed;
        count = hashed ∙ read.holds.count;
        text_is = ap (λ (t : List ℕ). t ++ piece) read.holds.text_is ∙ append_assoc read.front old.held piece ∙ ap (λ (t : List ℕ). read.front ++ t) (sym held);
      };
      behind = by_behind read.behind;
    }
  where
    by_behind : (length read.front ≤ sure) ⊎ (MOST_OPEN ≤ length old.held) → (length read.front ≤ sure) ⊎ (MOST_OPEN ≤ length new.held)
    by_behind (inl few) = inl few
    by_behind (inr many) = inr (omega (arith, ap length held, length-append old.held piece))
