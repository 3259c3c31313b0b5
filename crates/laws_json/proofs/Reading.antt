-- The text of a value of JSON is read as the value, and no newline stands in it.
use Rattle.std.proofs.Common.{◌≡◌, ℕ, ◌≤◌, Bool, true, false, List, [], ◌∷◌, ◌++◌, option_and_then, refl, sym, ap, append_assoc, append-nil, ◌∙◌}
use Rattle.std.specs.Prelude.{codes}
use Rattle.std.specs.Str.{is_utf8}
use Rattle.json.specs.Json.{Json, null, boolean, number, string, array, object, Items, no_items, item, Members, no_members, member, if_last, max_depth, value}
use Rattle.json.specs.Lex.{Lexeme, token, begins_colon, Place, fresh, after_value, after_comma, after_key, lex, between, may_begin, place_token, punctuate}
use Rattle.json.specs.Print.{IsNumber}
use Rattle.json.specs.Token.{Token, begin_object, begin_array}
use Rattle.json.specs.Tree.{depth, json_tokens, items_tokens, members_tokens}
use Rattle.json.specs.Word.{ends_word, word}
use Rattle.json.proofs.Printed.Numbers.{lex-number, in_word-ended}
use Rattle.json.proofs.Printed.Trees.{value-json_tokens}
use Rattle.element_values.specs.FieldTexts.{boolean_text}
use Rattle.element_values.specs.Strings.{json_string}
use Rattle.ipfix_dump.specs.JsonLines.{comma_if}
use Rattle.laws_json.specs.Lines.{IsReadAs}
use Rattle.laws_json.specs.Texts.{compact_text, items_text, members_text, TextsAre, ItemsAre, MembersAre}
use Rattle.laws_json.proofs.Strings.{string_inside, string_read}
use Rattle.laws_json.proofs.Tests.{both, Inside, stays_in}

abbrev pub Utf8 : List ℕ → Type 0
Utf8 s = is_utf8 s ≡ true

abbrev tokens_from : Place → List ℕ → List Token
tokens_from place text = punctuate place (lex between text)

-- a text that can follow a value
record Ends (r : List ℕ) : Type 0 where
  word : ends_word r ≡ true
  colon : begins_colon (lex between r) ≡ false

items_end : (js : Items) (r : List ℕ) → Ends (items_text true js ++ r)
unfolding lex
items_end no_items r = record { word = refl; colon = refl }
items_end (item j js) r = record { word = refl; colon = refl }

members_end : (ms : Members) (r : List ℕ) → Ends (members_text true ms ++ r)
unfolding lex
members_end no_members r = record { word = refl; colon = refl }
members_end (member k j ms) r = record { word = refl; colon = refl }

none_end : Ends []
unfolding lex
none_end = record { word = refl; colon = refl }

lex_literal : (b : Bool) (r : List ℕ) → ends_word r ≡ true → lex between (boolean_text b ++ r) ≡ token (Token.boolean b) ∷ lex between r
unfolding lex word
lex_literal true r ended = rw (ended, in_word-ended r ended) refl
lex_literal false r ended = rw (ended, in_word-ended r ended) refl

lex_null : (r : List ℕ) → ends_word r ≡ true → lex between (codes "null" ++ r) ≡ token Token.null ∷ lex between r
unfolding lex word
lex_null r ended = rw (ended, in_word-ended r ended) refl

placed : (p : Place) (t : Token) (ls : List Lexeme) → punctuate p (token t ∷ ls) ≡ place_token p t (begins_colon ls) (λ next. punctuate next ls)
unfolding punctuate
placed fresh t ls = refl
placed after_value t ls = refl
placed after_comma t ls = refl
placed after_key t ls = refl

-- after a value, or before the first; and where the next one is then begun
abbrev place : Bool → Place
place true = after_value
place false = fresh

abbrev next : Bool → Place
next true = after_comma
next false = fresh

begins : (later : Bool) → may_begin (next later) ≡ true
begins true = refl
begins false = refl

comma_read : (later : Bool) (w r : List ℕ) → tokens_from (place later) ((comma_if later ++ w) ++ r) ≡ tokens_from (next later) (w ++ r)
unfolding lex punctuate
comma_read true w r = refl
comma_read false w r = refl

key_read : (p : Place) (k w r : List ℕ) → Utf8 k → may_begin p ≡ true → tokens_from p ((json_string k ++ 58 ∷ w) ++ r) ≡ Token.key k ∷ tokens_from fresh (w ++ r)
unfolding lex punctuate
key_read p k w r good may =
    ap (tokens_from p) (append_assoc (json_string k) (58 ∷ w) r) ∙ ap (punctuate p) (string_read k (58 ∷ (w ++ r)) good) ∙ placed p (Token.string k) (lex between (58 ∷ (w ++ r))) ∙ rw may refl

both_read : (p : Place) (v w r : List ℕ) (ts us rest : List Token) → tokens_from p (v ++ (w ++ r)) ≡ ts ++ tokens_from after_value (w ++ r) → tokens_from after_value (w ++ r) ≡ us ++ rest
    → tokens_from p ((v ++ w) ++ r) ≡ (ts ++ us) ++ rest
both_read p v w r ts us rest first later = ap (tokens_from p) (append_assoc v w r) ∙ first ∙ ap (λ (xs : List Token). ts ++ xs) later ∙ sym (append_assoc ts us rest)

mutual
  unfolding lex punctuate

  read_value : (p : Place) (j : Json) (r : List ℕ) → TextsAre IsNumber Utf8 j → may_begin p ≡ true → Ends r → tokens_from p (compact_text j ++ r) ≡ json_tokens j ++ tokens_from after_value r
  read_value p null r h may ends = ap (punctuate p) (lex_null r ends.word) ∙ placed p Token.null (lex between r) ∙ rw may refl
  read_value p (boolean b) r h may ends = ap (punctuate p) (lex_literal b r ends.word) ∙ placed p (Token.boolean b) (lex between r) ∙ rw may refl
  read_value p (number s) r h may ends = ap (punctuate p) (lex-number s r h ends.word) ∙ placed p (Token.number s) (lex between r) ∙ rw may refl
  read_value p (string s) r h may ends = ap (punctuate p) (string_read s r h) ∙ placed p (Token.string s) (lex between r) ∙ rw (ends.colon, may) refl
  read_value p (array js) r h may ends = placed p begin_array (lex between (items_text false js ++ r)) ∙ rw may (ap (λ (ts : List Token). begin_array ∷ ts) (read_items false js r h))
  read_value p (object ms) r h may ends = placed p begin_object (lex between (members_text false ms ++ r)) ∙ rw may (ap (λ (ts : List Token). begin_object ∷ ts) (read_members false ms r h))

  read_items : (later : Bool) (js : Items) (r : List ℕ) → ItemsAre IsNumber Utf8 js → tokens_from (place later) (items_text later js ++ r) ≡ items_tokens js ++ tokens_from after_value r
  read_items true no_items r h = refl
  read_items false no_items r h = refl
  read_items later (item j js) r h =
      comma_read later (compact_text j ++ items_text true js) r
      ∙ both_read (next later) (compact_text j) (items_text true js) r (json_tokens j) (items_tokens js) (tokens_from after_value r)
      (read_value (next later) j (items_text true js ++ r) h.0 (begins later) (items_end js r)) (read_items true js r h.1)

  read_members : (later : Bool) (ms : Members) (r : List ℕ) → MembersAre IsNumber Utf8 ms → tokens_from (place later) (members_text later ms ++ r) ≡ members_tokens ms ++ tokens_from after_value r
  read_members true no_members r h = refl
  read_members false no_members r h = refl
  read_members later (member k j ms) r h =
      comma_read later (json_string k ++ 58 ∷ (compact_text j ++ members_text true ms)) r ∙ key_read (next later) k (compact_text j ++ members_text true ms) r h.0 (begins later)
      ∙ ap (λ (ts : List Token). Token.key k ∷ ts)
      (both_read fresh (compact_text j) (members_text true ms) r (json_tokens j) (members_tokens ms) (tokens_from after_value r)
      (read_value fresh j (members_text true ms ++ r) h.1 refl (members_end ms r)) (read_members true ms r h.2))

pub read_as : (P : Json → Type 0) (j : Json) (line : List ℕ) → line ≡ compact_text j ++ 10 ∷ [] → TextsAre IsNumber Utf8 j → depth j ≤ max_depth → P j → IsReadAs line P
unfolding lex punctuate
read_as P j line is texts shallow holds =
    let tokens : tokens_from fresh (compact_text j) ≡ json_tokens j ++ [] = ap (tokens_from fresh) (sym (append-nil (compact_text j))) ∙ read_value fresh j [] texts refl none_end in
    (compact_text j, is, j, ap (λ (ts : List Token). option_and_then (λ p. if_last p.0 p.1) (value max_depth ts)) tokens ∙ ap (option_and_then (λ p. if_last p.0 p.1)) (value-json_tokens j max_depth [] shallow), holds)

-- ---- no newline

literal_inside : (b : Bool) → Inside (boolean_text b)
literal_inside true = refl
literal_inside false = refl

behind_comma : (later : Bool) (w : List ℕ) → Inside w → Inside (comma_if later ++ w)
behind_comma true w h = h
behind_comma false w h = h

mutual
  pub text_inside : (j : Json) → TextsAre Inside Utf8 j → Inside (compact_text j)
  text_inside null h = refl
  text_inside (boolean b) h = literal_inside b
  text_inside (number s) h = h
  text_inside (string s) h = string_inside s h
  text_inside (array js) h = items_inside false js h
  text_inside (object ms) h = members_inside false ms h

  items_inside : (later : Bool) (js : Items) → ItemsAre Inside Utf8 js → Inside (items_text later js)
  items_inside later no_items h = refl
  items_inside later (item j js) h = behind_comma later _ (both stays_in (compact_text j) (items_text true js) (text_inside j h.0) (items_inside true js h.1))

  members_inside : (later : Bool) (ms : Members) → MembersAre Inside Utf8 ms → Inside (members_text later ms)
  members_inside later no_members h = refl
  members_inside later (member k j ms) h =
      behind_comma later _
      (both stays_in (json_string k) (58 ∷ (compact_text j ++ members_text true ms)) (string_inside k h.0)
      (both stays_in (compact_text j) (members_text true ms) (text_inside j h.1) (members_inside true ms h.2)))
