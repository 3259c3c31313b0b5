-- Rows, line after line.
use Rattle.std.proofs.Common.{◌≡◌, ℕ, zero, suc, ◌+◌, ◌*◌, ◌/◌, ◌^◌, ◌<◌, Bool, true, false, List, [], ◌∷◌, ◌++◌, map, take, length, filter, get_or, Some, Ok, Err, inl, inr, sym, ap, subst, ◌∙◌, refl, arith}
use Rattle.std.specs.Prelude.{MatchBool, All, cond}
use denote.Bor.{Bor}
use Rattle.std.specs.List.{list_any, slice_get, AllZip}
use Rattle.std.proofs.lemmas.Bool.{cases_Bool, MatchBool-at_true, MatchBool-at_false, cond-true, cond-false, or_parts}
use Rattle.std.proofs.lemmas.List.{append-nil, map_more, take-map, length_push}
use Rattle.std.proofs.lemmas.List.Elements.{All-cons, All-nil}
use Rattle.std.proofs.lemmas.List.Quantifiers.{all_pairs_push}
use Rattle.network_prefixes.specs.declared.prefix.Prefix.{Prefix}
use Rattle.network_prefixes.specs.Prefixes.{is_slash, IsPrefixSpelled, IsPrefixWord, IsWholeAddress}
use Rattle.network_prefixes.specs.Addresses.{bits_behind, EndsBehind}
use Rattle.prefix_numbers.specs.declared.error.MapFault.{MapFault}
use Rattle.prefix_numbers.specs.declared.error.MapFault.TheVariants.{NotUtf8, NoPrefix, BitsAfter, NoNumber, PrefixTwice, TooMany, OutOfMemory}
use Rattle.prefix_numbers.specs.declared.reading.TheConstants.{MAX_ROWS}
use Rattle.prefix_numbers.specs.declared.row.NumberedPrefix.{NumberedPrefix}
use Rattle.prefix_numbers.specs.Keys.{AddsLine}
use Rattle.prefix_numbers.specs.Reads.{IsFirstOrMemory}
use Rattle.prefix_numbers.specs.Rows.{prefix_word, IsRow}
use Rattle.prefix_numbers.specs.Spans.{HasZeros}
use Rattle.prefix_numbers.specs.Texts.{has_prefix, is_same, says_row, AreRows}

-- ---- one line

-- ---- one line after another

not_any : {X : Type 0} (p : X → Bool) (xs : List X) → list_any p xs ≡ false → All (λ x. p x ≡ false) xs
not_any p [] h = All-nil (λ x. p x ≡ false)
not_any p (x ∷ xs) h = let both = or_parts (p x) (list_any p xs) h in All-cons (λ x. p x ≡ false) x xs both.0 (not_any p xs both.1)

text_at : (lines : List (Bor (List ℕ))) (i : ℕ) (d : Bor (List ℕ)) → i < length lines → slice_get (map (λ (l : Bor (List ℕ)). l.now) lines) i ≡ Some (get_or lines i d).now
text_at [] i d inside = absurd (omega (arith, inside))
text_at (l ∷ lines) zero d inside = refl
text_at (l ∷ lines) (suc i) d inside = text_at lines i d (omega (arith, inside))

abbrev texts : List (Bor (List ℕ)) → List (List ℕ)
texts lines = map (λ (l : Bor (List ℕ)). l.now) lines

-- the lines up to a place and the next one
next_line : (lines : List (Bor (List ℕ))) (i : ℕ) (d : Bor (List ℕ)) → i < length lines → take (i + 1) (texts lines) ≡ take i (texts lines) ++ (get_or lines i d).now ∷ []
next_line lines i d inside =
    let now = λ (l : Bor (List ℕ)). l.now in
    take-map now (i + 1) lines ∙ map_more now lines i d inside ∙ ap (λ (ts : List (List ℕ)). ts ++ (get_or lines i d).now ∷ []) (sym (take-map now i lines))

filter_one : (b : Bool) (line : List ℕ) → cond b (line ∷ []) [] ≡ [] ++ cond b (line ∷ []) []
filter_one b line = refl

filter_cases : (b : Bool) (l : List ℕ) (xs ys : List (List ℕ)) → cond b (l ∷ (xs ++ ys)) (xs ++ ys) ≡ cond b (l ∷ xs) xs ++ ys
filter_cases true l xs ys = refl
filter_cases false l xs ys = refl

filter_push : (ls : List (List ℕ)) (line : List ℕ) → filter says_row (ls ++ line ∷ []) ≡ filter says_row ls ++ cond (says_row line) (line ∷ []) []
filter_push [] line = filter_one (says_row line) line
filter_push (l ∷ ls) line = ap (λ (rest : List (List ℕ)). cond (says_row l) (l ∷ rest) rest) (filter_push ls line) ∙ filter_cases (says_row l) l (filter says_row ls) (cond (says_row line) (line ∷ []) [])

zip_push : (ls : List (List ℕ)) (rows : List NumberedPrefix) (line : List ℕ) (row : NumberedPrefix) → AllZip IsRow ls rows → IsRow line row → AllZip IsRow (ls ++ line ∷ []) (rows ++ row ∷ [])
zip_push [] [] line row h is = (is, tt)
zip_push [] (r ∷ rows) line row h is = absurd h
zip_push (l ∷ ls) [] line row h is = absurd h
zip_push (l ∷ ls) (r ∷ rows) line row h is = (h.0, zip_push ls rows line row h.1 is)

rows_and_row : (ls : List (List ℕ)) (line : List ℕ) (rows : List NumberedPrefix) (row : NumberedPrefix) → says_row line ≡ true → AreRows ls rows → IsRow line row → has_prefix rows row.prefix ≡ false → length rows < MAX_ROWS → AreRows (ls ++ line ∷ []) (rows ++ row ∷ [])
rows_and_row ls line rows row says h is new place = record {
  said = subst (λ (found : List (List ℕ)). AllZip IsRow found (rows ++ row ∷ [])) (sym (filter_push ls line ∙ ap (λ (rest : List (List ℕ)). filter says_row ls ++ rest) (cond-true _ (line ∷ []) [] says)))
      (zip_push (filter says_row ls) rows line row h.said is);
  apart = all_pairs_push (λ (first later : NumberedPrefix). is_same later.prefix first.prefix ≡ false) rows row h.apart (λ k d inside. not_any (λ (other : NumberedPrefix). is_same row.prefix other.prefix) rows new k d inside);
  few = omega (arith, length_push rows row, place);
}

rows_and_no_row : (ls : List (List ℕ)) (line : List ℕ) (rows : List NumberedPrefix) → says_row line ≡ false → AreRows ls rows → AreRows (ls ++ line ∷ []) rows
rows_and_no_row ls line rows says h = record {
  said = subst (λ (found : List (List ℕ)). AllZip IsRow found rows) (sym (filter_push ls line ∙ ap (λ (rest : List (List ℕ)). filter says_row ls ++ rest) (cond-false _ (line ∷ []) [] says) ∙ append-nil (filter says_row ls))) h.said;
  apart = h.apart;
  few = h.few;
}

one_line : (ls : List (List ℕ)) (line : List ℕ) (rows more : List NumberedPrefix) (u : Unit {0}) → AreRows ls rows → AddsLine rows line more (Ok u) → AreRows (ls ++ line ∷ []) more
one_line ls line rows more u h added =
    elim (cases_Bool (says_row line)) [
      | inl is_so ↦
          let one = MatchBool-at_true _ _ is_so added in
          subst (λ (l : List NumberedPrefix). AreRows (ls ++ line ∷ []) l) (sym one.added.items) (rows_and_row ls line rows one.row is_so h one.said one.added.new one.added.place)
      | inr not_so ↦
          let same = MatchBool-at_false _ _ not_so added in
          subst (λ (l : List NumberedPrefix). AreRows (ls ++ line ∷ []) l) (sym same) (rows_and_no_row ls line rows not_so h)
    ]

pub line_more : (lines : List (Bor (List ℕ))) (i : ℕ) (d : Bor (List ℕ)) (rows more : List NumberedPrefix) (u : Unit {0}) → i < length lines → AreRows (take i (texts lines)) rows → AddsLine rows (get_or lines i d).now more (Ok u) → AreRows (take (i + 1) (texts lines)) more
line_more lines i d rows more u inside h added =
    subst (λ (ls : List (List ℕ)). AreRows ls more) (sym (next_line lines i d inside)) (one_line (take i (texts lines)) (get_or lines i d).now rows more u h added)

-- the first line that has a fault
first_fault : (ls : List (List ℕ)) (line : ℕ) (fault : MapFault) (place : ℕ) (text : List ℕ) (rows more : List NumberedPrefix) → line ≡ place + 1 → slice_get ls place ≡ Some text → AreRows (take place ls) rows → AddsLine rows text more (Err fault) → IsFirstOrMemory fault ls (record { fault = fault; line = line })
first_fault ls line NotUtf8 place text rows more counted here before h = record { place = place; counted = counted; text = text; here = here; row = h.0; rows = rows; before = before; is = h.1 }
first_fault ls line NoPrefix place text rows more counted here before h = record { place = place; counted = counted; text = text; here = here; row = h.0; rows = rows; before = before; is = h.1 }
first_fault ls line BitsAfter place text rows more counted here before h = record { place = place; counted = counted; text = text; here = here; row = h.0; rows = rows; before = before; is = h.1 }
first_fault ls line NoNumber place text rows more counted here before h = record { place = place; counted = counted; text = text; here = here; row = h.0; rows = rows; before = before; is = h.1 }
first_fault ls line PrefixTwice place text rows more counted here before h = record { place = place; counted = counted; text = text; here = here; row = h.0; rows = rows; before = before; is = h.1 }
first_fault ls line TooMany place text rows more counted here before h = record { place = place; counted = counted; text = text; here = here; row = h.0; rows = rows; before = before; is = h.1 }
first_fault ls line OutOfMemory place text rows more counted here before h = tt

pub line_fault : (lines : List (Bor (List ℕ))) (i : ℕ) (d : Bor (List ℕ)) (rows more : List NumberedPrefix) (fault : MapFault) (line : ℕ) → line ≡ i + 1 → i < length lines → AreRows (take i (texts lines)) rows → AddsLine rows (get_or lines i d).now more (Err fault)
    → IsFirstOrMemory fault (texts lines) (record { fault = fault; line = line })
line_fault lines i d rows more fault line counted inside h failed = first_fault (texts lines) line fault i (get_or lines i d).now rows more counted (text_at lines i d inside) h failed

-- ---- the prefixes of rows end in zeros

whole_zeros : (p : Prefix) → p.length ≡ p.address.width → EndsBehind p.address p.length
whole_zeros p all =
    let none : bits_behind p.address p.length ≡ 0 = omega (arith, all) in
    subst (λ (b : ℕ). p.address.bits / 2 ^ b * 2 ^ b ≡ p.address.bits) (sym none) (omega arith)

either_zeros : (b : Bool) (word front back : List ℕ) (p : Prefix) → MatchBool b (IsPrefixSpelled front back p) (IsWholeAddress word p) → EndsBehind p.address p.length
either_zeros true word front back p h = h.zeros
either_zeros false word front back p h = whole_zeros p h.all

prefix_zeros : (word : List ℕ) (p : Prefix) → IsPrefixWord word p → EndsBehind p.address p.length
prefix_zeros word p h = either_zeros (list_any is_slash word) word _ _ p h

zip_zeros : (ls : List (List ℕ)) (rows : List NumberedPrefix) → AllZip IsRow ls rows → All HasZeros rows
zip_zeros [] [] h = All-nil HasZeros
zip_zeros [] (row ∷ rows) h = absurd h
zip_zeros (l ∷ ls) [] h = absurd h
zip_zeros (l ∷ ls) (row ∷ rows) h = All-cons HasZeros row rows (prefix_zeros (prefix_word l) row.prefix h.0.prefix) (zip_zeros ls rows h.1)

pub rows_have_zeros : (ls : List (List ℕ)) (rows : List NumberedPrefix) → AreRows ls rows → All HasZeros rows
rows_have_zeros ls rows h = zip_zeros (filter says_row ls) rows h.said
