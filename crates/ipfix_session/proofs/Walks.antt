-- Walking over the messages of a file.
use Rattle.std.proofs.Common.{◌≡◌, ℕ, ◌<◌, ◌++◌, List, [], length, take, Option, Some, None, Result, Ok, Err, refl, sym, ap, subst, ◌∙◌, append_assoc}
use Rattle.std.specs.Io.KnownBytes.{Keeps, Consumes, IsAtEnd, ReadConsumes}
use Rattle.std.proofs.lemmas.List.{append-nil}
use Rattle.std.proofs.lemmas.Option.{none-some, same_Some}
use Rattle.ipfix_session.specs.Ledger.{capped}
use Rattle.ipfix_session.specs.MessageCounts.{CounterView, HasRead, at_fault}
use Rattle.ipfix_session.specs.Walked.{Walked}
use Rattle.ipfix_session.specs.WholeMessages.{whole_octets}
use Rattle.ipfix_session.proofs.Counting.{counts_all}

keeps_some : (before after : Option (List ℕ)) (rest : List ℕ) → before ≡ Some rest → Keeps before after → after ≡ Some rest
keeps_some None after rest is keeps = absurd (none-some rest is)
keeps_some (Some xs) None rest is keeps = absurd keeps
keeps_some (Some xs) (Some ys) rest is keeps = ap (λ (zs : List ℕ). Some zs) keeps ∙ is

-- what is left after a read
pub record LeftBehind (after : Option (List ℕ)) (piece rest : List ℕ) : Type 0 where
  pub left : List ℕ
  pub is : after ≡ Some left
  pub all : rest ≡ piece ++ left

consumes_some : (before after : Option (List ℕ)) (piece rest : List ℕ) → before ≡ Some rest → Consumes before after piece → LeftBehind after piece rest
consumes_some None after piece rest is consumes = absurd (none-some rest is)
consumes_some (Some xs) None piece rest is consumes = absurd consumes
consumes_some (Some xs) (Some ys) piece rest is consumes = record { left = ys; is = refl; all = sym (same_Some xs rest is) ∙ consumes }

-- it begins
pub walk_first : (left : Option (List ℕ)) (text : List ℕ) (c : CounterView) → HasRead c [] → left ≡ Some text → Walked left text c
walk_first left text c has is = record { read = []; rest = text; all = refl; left_is = is; has_read = has }

-- it stays where a read gave nothing
walk_stays : (before after : Option (List ℕ)) (text : List ℕ) (c : CounterView) → Walked before text c → Keeps before after → Walked after text c
walk_stays before after text c w keeps = record { read = w.read; rest = w.rest; all = w.all; left_is = keeps_some before after w.rest w.left_is keeps; has_read = w.has_read }

-- it goes on by a piece
walk_on : (before after : Option (List ℕ)) (text piece : List ℕ) (c d : CounterView) → Walked before text c → Consumes before after piece → ((t : List ℕ) → HasRead c t → HasRead d (t ++ piece)) → Walked after text d
walk_on before after text piece c d w consumes reads =
    let behind = consumes_some before after piece w.rest w.left_is consumes in record {
      read = w.read ++ piece;
      rest = behind.left;
      all = w.all ∙ ap (λ (r : List ℕ). w.read ++ r) behind.all ∙ sym (append_assoc w.read piece behind.left);
      left_is = behind.is;
      has_read = reads w.read w.has_read;
    }

at_end : (after : Option (List ℕ)) (left : List ℕ) → after ≡ Some left → IsAtEnd after → left ≡ []
at_end None left is end = absurd (none-some left is)
at_end (Some xs) left is end = sym (same_Some xs left is) ∙ end

-- it ends with the text
walk_ends : (before after : Option (List ℕ)) (text piece : List ℕ) (c : CounterView) → Walked before text c → piece ≡ [] → Consumes before after piece → IsAtEnd after → c.octets ≡ capped (whole_octets text)
walk_ends before after text piece c w none consumes end =
    let behind = consumes_some before after piece w.rest w.left_is consumes in
    let nothing : w.rest ≡ [] = behind.all ∙ ap (λ (p : List ℕ). p ++ behind.left) none ∙ at_end after behind.left behind.is end in
    w.has_read.counts.octets_are ∙ ap (λ (t : List ℕ). capped (whole_octets t)) (sym (w.all ∙ ap (λ (r : List ℕ). w.read ++ r) nothing ∙ append-nil w.read))

-- or where no message can follow
pub walk_stops : (left : Option (List ℕ)) (text : List ℕ) (c : CounterView) → Walked left text c → c.place ≡ at_fault → c.octets ≡ capped (whole_octets text)
walk_stops left text c w at = counts_all c w.read w.rest at w.has_read ∙ ap (λ (t : List ℕ). capped (whole_octets t)) (sym w.all)

-- ---- the reads of a walk

number : {E : Type 0} → Result ℕ E → ℕ
number (Ok n) = n
number (Err e) = 0

-- one that shows the end
pub read_ends : {E : Type 0} (before after : Option (List ℕ)) (text : List ℕ) (c : CounterView) (n : ℕ) (buf : List ℕ) (r : Result ℕ E) → Walked before text c → r ≡ Ok n → n ≡ 0 → 0 < length buf → ReadConsumes before after r buf → c.octets ≡ capped (whole_octets text)
unfolding number
read_ends before after text c n buf (Ok m) w is none room consumes =
    let zero : m ≡ 0 = ap number is ∙ none in
    walk_ends before after text (take m buf) c w (ap (λ (k : ℕ). take k buf) zero) consumes.0 (consumes.1 zero room)
read_ends before after text c n buf (Err e) w is none room consumes = absurd cc

-- one that gives octets
pub read_on : {E : Type 0} (before after : Option (List ℕ)) (text : List ℕ) (c d : CounterView) (n : ℕ) (buf : List ℕ) (r : Result ℕ E) → Walked before text c → r ≡ Ok n → ReadConsumes before after r buf
    → ((t : List ℕ) → HasRead c t → HasRead d (t ++ take n buf)) → Walked after text d
unfolding number
read_on before after text c d n buf (Ok m) w is consumes reads =
    let P : ℕ → Type 0 = λ k. (t : List ℕ) → HasRead c t → HasRead d (t ++ take k buf) in
    walk_on before after text (take m buf) c d w consumes.0 (subst P (sym (ap number is)) reads)
read_on before after text c d n buf (Err e) w is consumes reads = absurd cc

-- and one that gives none
pub read_fails : {E : Type 0} (before after : Option (List ℕ)) (text : List ℕ) (c : CounterView) (e : E) (buf : List ℕ) (r : Result ℕ E) → Walked before text c → r ≡ Err e → ReadConsumes before after r buf → Walked after text c
read_fails before after text c e buf (Ok m) w is keeps = absurd cc
read_fails before after text c e buf (Err f) w is keeps = walk_stays before after text c w keeps
