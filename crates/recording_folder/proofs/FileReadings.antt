-- Reading a file in pieces.
use Rattle.std.proofs.Common.{◌≡◌, ℕ, ◌<◌, List, [], ◌++◌, length, take, Option, Some, None, Result, Ok, Err, refl, sym, ap, subst, ◌∙◌, append_assoc}
use Rattle.std.specs.Io.KnownBytes.{Keeps, Consumes, IsAtEnd, ReadConsumes}
use Rattle.std.proofs.lemmas.List.{append-nil}
use Rattle.std.proofs.lemmas.Option.{none-some, same_Some}
use Rattle.std.specs.Prelude.{OnOk}
use Rattle.ipfix_session.specs.MessageCounts.{HasRead}
use Rattle.recording_resumption.specs.Readings.{HasReadSession}
use Rattle.recording_folder.specs.declared.file_reading.FileReading.{FileReading}
use Rattle.recording_folder.specs.FileReadings.{HasReadFile, IsReading}

-- ---- a piece

-- it was read, unless memory ran out
pub taken : {E : Type 0} (r : Result (Unit {0}) E) (f : FileReading) (text : List ℕ) → HasRead f.whole text → OnOk r (HasReadSession f.session text) → OnOk r (HasReadFile text f)
taken (Ok x) f text whole session = record { whole = whole; session = session }
taken (Err e) f text whole session = tt

-- ---- the reads of a file

keeps_some : (before after : Option (List ℕ)) (rest : List ℕ) → before ≡ Some rest → Keeps before after → after ≡ Some rest
keeps_some None after rest is keeps = absurd (none-some rest is)
keeps_some (Some xs) None rest is keeps = absurd keeps
keeps_some (Some xs) (Some ys) rest is keeps = ap (λ (zs : List ℕ). Some zs) keeps ∙ is

-- what is left after a read
record Left (after : Option (List ℕ)) (piece rest : List ℕ) : Type 0 where
  left : List ℕ
  is : after ≡ Some left
  all : rest ≡ piece ++ left

consumes_some : (before after : Option (List ℕ)) (piece rest : List ℕ) → before ≡ Some rest → Consumes before after piece → Left after piece rest
consumes_some None after piece rest is consumes = absurd (none-some rest is)
consumes_some (Some xs) None piece rest is consumes = absurd consumes
consumes_some (Some xs) (Some ys) piece rest is consumes = record { left = ys; is = refl; all = sym (same_Some xs rest is) ∙ consumes }

at_end : (after : Option (List ℕ)) (left : List ℕ) → after ≡ Some left → IsAtEnd after → left ≡ []
at_end None left is end = absurd (none-some left is)
at_end (Some xs) left is end = sym (same_Some xs left is) ∙ end

number : {E : Type 0} → Result ℕ E → ℕ
number (Ok n) = n
number (Err e) = 0

-- it begins
pub reading_first : (left : Option (List ℕ)) (text : List ℕ) (r : FileReading) → HasReadFile [] r → left ≡ Some text → IsReading left text r
reading_first left text r has is = record { read = []; rest = text; all = refl; left_is = is; has_read = has }

-- a read that shows the end has shown the whole text
pub reading_ends : {E : Type 0} (before after : Option (List ℕ)) (text : List ℕ) (r : FileReading) (n : ℕ) (buf : List ℕ) (got : Result ℕ E) → IsReading before text r → got ≡ Ok n → n ≡ 0 → 0 < length buf → ReadConsumes before after got buf → HasReadFile text r
unfolding number
reading_ends before after text r n buf (Err e) i is none room consumes = absurd cc
reading_ends before after text r n buf (Ok m) i is none room consumes =
    let zero : m ≡ 0 = ap number is ∙ none in
    let behind = consumes_some before after (take m buf) i.rest i.left_is consumes.0 in
    let nothing : i.rest ≡ [] = behind.all ∙ ap (λ (k : ℕ). take k buf ++ behind.left) zero ∙ at_end after behind.left behind.is (consumes.1 zero room) in
    subst (λ (t : List ℕ). HasReadFile t r) (sym (i.all ∙ ap (λ (rest : List ℕ). i.read ++ rest) nothing ∙ append-nil i.read)) i.has_read

-- one that gives octets goes on by them
pub reading_on : {E : Type 0} (before after : Option (List ℕ)) (text : List ℕ) (r s : FileReading) (n : ℕ) (buf : List ℕ) (got : Result ℕ E) → IsReading before text r → got ≡ Ok n → ReadConsumes before after got buf
    → ((t : List ℕ) → HasReadFile t r → HasReadFile (t ++ take n buf) s) → IsReading after text s
unfolding number
reading_on before after text r s n buf (Err e) i is consumes reads = absurd cc
reading_on before after text r s n buf (Ok m) i is consumes reads =
    let behind = consumes_some before after (take m buf) i.rest i.left_is consumes.0 in
    let same : m ≡ n = ap number is in
    record {
      read = i.read ++ take n buf;
      rest = behind.left;
      all = i.all ∙ ap (λ (rest : List ℕ). i.read ++ rest) (behind.all ∙ ap (λ (k : ℕ). take k buf ++ behind.left) same) ∙ sym (append_assoc i.read (take n buf) behind.left);
      left_is = behind.is;
      has_read = reads i.read i.has_read;
    }

-- and one that gives none changes nothing
pub reading_stays : {E : Type 0} (before after : Option (List ℕ)) (text : List ℕ) (r : FileReading) (e : E) (buf : List ℕ) (got : Result ℕ E) → IsReading before text r → got ≡ Err e → ReadConsumes before after got buf → IsReading after text r
reading_stays before after text r e buf (Ok m) i is keeps = absurd cc
reading_stays before after text r e buf (Err f) i is keeps = record { read = i.read; rest = i.rest; all = i.all; left_is = keeps_some before after i.rest i.left_is keeps; has_read = i.has_read }
