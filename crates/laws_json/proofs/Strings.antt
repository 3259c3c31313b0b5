-- A string of JSON, as a line has it, is read as the string; a plain one stands there as it is.
use Rattle.std.proofs.Common.{◌≡◌, ℕ, ◌+◌, ◌-◌, ◌*◌, ◌/◌, ◌%◌, ◌<◌, ◌≤◌, ◌&&◌, Bool, true, false, cond, eqb, List, [], ◌∷◌, ◌++◌, Option, Some, None, option_and_then, refl, sym, ap, subst, append_assoc, append-nil, ◌∙◌, arith, inl, inr}
use Rattle.std.specs.Prelude.{◌⊎◌, nat_lt, nat_le, not, flat_map, slice_index}
use Rattle.std.specs.Char.{digit_value}
use Rattle.std.specs.List.{list_all}
use Rattle.std.specs.Str.{chars, is_utf8, IsAscii}
use Rattle.std.proofs.Math.Utf8.{scalar, scalars, encode, encodes, scalar_cases}
use Rattle.std.proofs.lemmas.Bool.{and_from, and_parts, cases_Bool, cases_lt, eqb-true, le-ltb, lt-ltb, ltb-true, leb-true, ne_eqb, not-true, le-leb}
use Rattle.std.proofs.lemmas.List.Sums.{AllPass-from_list_all}
use Rattle.std.proofs.lemmas.Str.{chars-encodes, chars-IsAscii, encode_ascii, IsUtf8-from_ascii, IsUtf8-from_is_utf8, is_utf8-from_IsUtf8}
use Rattle.std.proofs.lemmas.Str.Ascii.{IsAscii-from_all}
use Rattle.hex.specs.Hex.{lower_digits, encode_with}
use Rattle.json.specs.Lex.{Lexeme, Mode, token, lex, lex_byte, between, in_string, operator, space, other, string_token}
use Rattle.json.specs.Text.{content, plain, after_high, prepend, code_unit, is_high_surrogate, is_low_surrogate, surrogate_pair}
use Rattle.json.specs.Token.{string}
use Rattle.json.specs.Word.{is_operator, is_space}
use Rattle.ipfix_elements.specs.JsonValues.{in_quotes}
use Rattle.element_values.specs.Strings.{escaped_char, escaped_unit, is_plain, json_string}
use Rattle.laws_json.proofs.Tests.{both, Inside, IsPlain, passes, stays_in}

-- ---- what a reader has of octets within a string

record Spells (w s : List ℕ) : Type 0 where
  read : (r : List ℕ) → content plain (w ++ r) ≡ prepend s (content plain r)
  lexed : (r : List ℕ) → lex in_string (w ++ r) ≡ lex in_string r
  inside : Inside w

prepend_none : (o : Option (List ℕ)) → o ≡ prepend [] o
prepend_none None = refl
prepend_none (Some s) = refl

prepend_both : (s t : List ℕ) (o : Option (List ℕ)) → prepend s (prepend t o) ≡ prepend (s ++ t) o
prepend_both s t None = refl
prepend_both s t (Some u) = ap (λ (x : List ℕ). Some x) (sym (append_assoc s t u))

spells_none : Spells [] []
spells_none = record { read = λ r. prepend_none (content plain r); lexed = λ r. refl; inside = refl }

spells_both : (v w s t : List ℕ) → Spells v s → Spells w t → Spells (v ++ w) (s ++ t)
spells_both v w s t first next =
    record {
      read = λ r. ap (content plain) (append_assoc v w r) ∙ first.read (w ++ r) ∙ ap (prepend s) (next.read r) ∙ prepend_both s t (content plain r);
      lexed = λ r. ap (lex in_string) (append_assoc v w r) ∙ first.lexed (w ++ r) ∙ next.lexed r;
      inside = both stays_in v w first.inside next.inside;
    }

-- ---- octets that stand for themselves

stays_inside : (o s : Bool) (x : ℕ) (r : List ℕ) (k : Mode → List Lexeme) → lex_byte in_string (cond o operator (cond s space other)) x r k ≡ k in_string
stays_inside true s x r k = refl
stays_inside false true x r k = refl
stays_inside false false x r k = refl

passed : (x : ℕ) (r : List ℕ) → eqb x 34 ≡ false → eqb x 92 ≡ false → lex in_string (x ∷ r) ≡ lex in_string r
unfolding lex
passed x r quote backslash = rw (quote, backslash) (stays_inside (is_operator x) (is_space x) x r (λ m. lex m r))

-- what a character that is written as it is is not
plain_parts : (x : ℕ) → is_plain x ≡ true → (nat_le 32 x ≡ true) × (nat_le x 126 ≡ true) × (eqb x 34 ≡ false) × (eqb x 92 ≡ false)
plain_parts x h =
    let last = and_parts ((nat_le 32 x && nat_le x 126) && not (eqb x 34)) (not (eqb x 92)) h in
    let more = and_parts (nat_le 32 x && nat_le x 126) (not (eqb x 34)) last.0 in
    let range = and_parts (nat_le 32 x) (nat_le x 126) more.0 in
    (range.0, range.1, not-true (eqb x 34) more.1, not-true (eqb x 92) last.1)

plain_spells : (x : ℕ) → is_plain x ≡ true → Spells (x ∷ []) (x ∷ [])
unfolding content
plain_spells x h =
    let parts = plain_parts x h in
    record {
      read = λ r. rw (parts.2, parts.3, le-ltb x 32 (leb-true 32 x parts.0)) refl;
      lexed = λ r. passed x r parts.2 parts.3;
      inside = rw (ne_eqb x 10 (λ is. omega (arith, is, leb-true 32 x parts.0))) refl;
    }

-- ---- units of UTF-16 by four digits

abbrev digit : ℕ → ℕ
digit d = slice_index lower_digits d

digit_is : (d : ℕ) → d < 16 → digit_value (digit d) ≡ d
digit_is d less = eqb-true (digit_value (digit d)) d (passes (λ x. eqb (digit_value (digit x)) x) 16 refl d less)

digit_passed : (d : ℕ) (r : List ℕ) → d < 16 → lex in_string (digit d ∷ r) ≡ lex in_string r
digit_passed d r less =
    let others = and_parts (not (eqb (digit d) 34)) (not (eqb (digit d) 92)) (passes (λ x. not (eqb (digit x) 34) && not (eqb (digit x) 92)) 16 refl d less) in
    passed (digit d) r (not-true _ others.0) (not-true _ others.1)

abbrev unit_by : (a b c d : ℕ) → Option ℕ
unit_by a b c d = cond (((nat_lt a 16 && nat_lt b 16) && nat_lt c 16) && nat_lt d 16) (Some (a * 4096 + b * 256 + c * 16 + d)) None

digits_are : (a b c d : ℕ) → a < 16 → b < 16 → c < 16 → d < 16 → code_unit (digit a) (digit b) (digit c) (digit d) ≡ Some (a * 4096 + b * 256 + c * 16 + d)
unfolding code_unit
digits_are a b c d la lb lc ld =
    (λ i. unit_by (digit_is a la i) (digit_is b lb i) (digit_is c lc i) (digit_is d ld i))
    ∙ rw (lt-ltb a 16 la, lt-ltb b 16 lb, lt-ltb c 16 lc, lt-ltb d 16 ld) refl

-- the digits of a unit
abbrev digits_of : ℕ → List ℕ
digits_of u = digit (u / 256 / 16) ∷ digit (u / 256 % 16) ∷ digit (u % 256 / 16) ∷ digit (u % 256 % 16) ∷ []

unit_is : (u : ℕ) → u < 65536 → code_unit (digit (u / 256 / 16)) (digit (u / 256 % 16)) (digit (u % 256 / 16)) (digit (u % 256 % 16)) ≡ Some u
unit_is u small =
    digits_are (u / 256 / 16) (u / 256 % 16) (u % 256 / 16) (u % 256 % 16) (omega arith) (omega arith) (omega arith) (omega arith)
    ∙ ap (λ (n : ℕ). Some n) (omega arith)

digits_passed : (u : ℕ) (r : List ℕ) → u < 65536 → lex in_string (92 ∷ 117 ∷ (digits_of u ++ r)) ≡ lex in_string r
unfolding lex
digits_passed u r small =
    digit_passed (u / 256 / 16) _ (omega arith) ∙ digit_passed (u / 256 % 16) _ (omega arith) ∙ digit_passed (u % 256 / 16) _ (omega arith) ∙ digit_passed (u % 256 % 16) r (omega arith)

digit_inside : (d : ℕ) → d < 16 → stays_in (digit d) ≡ true
digit_inside d less = passes (λ x. stays_in (digit x)) 16 refl d less

digits_inside : (u : ℕ) → u < 65536 → Inside (92 ∷ 117 ∷ digits_of u)
digits_inside u small =
    and_from _ _ (digit_inside (u / 256 / 16) (omega arith))
    (and_from _ _ (digit_inside (u / 256 % 16) (omega arith)) (and_from _ _ (digit_inside (u % 256 / 16) (omega arith)) (and_from _ _ (digit_inside (u % 256 % 16) (omega arith)) refl)))

unit_content : (u : ℕ) (r : List ℕ) → u < 65536
    → content plain (92 ∷ 117 ∷ (digits_of u ++ r)) ≡ cond (is_high_surrogate u) (content (after_high u) r) (cond (is_low_surrogate u) None (prepend (encode u) (content plain r)))
unfolding content
unit_content u r small =
    ap (option_and_then (λ (v : ℕ). cond (is_high_surrogate v) (content (after_high v) r) (cond (is_low_surrogate v) None (prepend (encode v) (content plain r))))) (unit_is u small)

-- a character that is no pair
unit_spells : (u : ℕ) → u < 65536 → is_high_surrogate u ≡ false → is_low_surrogate u ≡ false → Spells (92 ∷ 117 ∷ digits_of u) (encode u)
unit_spells u small high low =
    record {
      read = λ r. unit_content u r small ∙ rw (high, low) refl;
      lexed = λ r. digits_passed u r small;
      inside = digits_inside u small;
    }

low_content : (h l : ℕ) (r : List ℕ) → l < 65536 → is_low_surrogate l ≡ true → content (after_high h) (92 ∷ 117 ∷ (digits_of l ++ r)) ≡ prepend (encode (surrogate_pair h l)) (content plain r)
unfolding content
low_content h l r small low =
    ap (option_and_then (λ (v : ℕ). cond (is_low_surrogate v) (prepend (encode (surrogate_pair h v)) (content plain r)) None)) (unit_is l small) ∙ rw low refl

-- and a pair
pair_spells : (c h l : ℕ) → h < 65536 → l < 65536 → is_high_surrogate h ≡ true → is_low_surrogate l ≡ true → surrogate_pair h l ≡ c
    → Spells ((92 ∷ 117 ∷ digits_of h) ++ (92 ∷ 117 ∷ digits_of l)) (encode c)
pair_spells c h l small_h small_l high low is =
    record {
      read = λ r. unit_content h (92 ∷ 117 ∷ (digits_of l ++ r)) small_h ∙ rw high (low_content h l r small_l low) ∙ ap (λ (n : ℕ). prepend (encode n) (content plain r)) is;
      lexed = λ r. digits_passed h (92 ∷ 117 ∷ (digits_of l ++ r)) small_h ∙ digits_passed l r small_l;
      inside = both stays_in (92 ∷ 117 ∷ digits_of h) (92 ∷ 117 ∷ digits_of l) (digits_inside h small_h) (digits_inside l small_l);
    }

-- ---- characters

-- what is not written as it is
escaped : (u : ℕ) → is_plain u ≡ false → escaped_unit u ≡ 92 ∷ 117 ∷ digits_of u
unfolding encode_with
escaped u differs = rw differs refl

above_plain : (u : ℕ) → 126 < u → is_plain u ≡ false
above_plain u above =
    elim (cases_Bool (is_plain u)) [
      | inl h ↦ absurd (omega (arith, above, leb-true u 126 (plain_parts u h).1))
      | inr e ↦ e
    ]

-- a unit of a pair
pair_unit : (u : ℕ) → 126 < u → escaped_unit u ≡ 92 ∷ 117 ∷ digits_of u
pair_unit u above = escaped u (above_plain u above)

one_spells : (c : ℕ) → c < 65536 → is_high_surrogate c ≡ false → is_low_surrogate c ≡ false → Spells (escaped_unit c ++ []) (encode c)
one_spells c small high low =
    elim (cases_Bool (is_plain c)) [
      | inl plain_one ↦
          let most = leb-true c 126 (plain_parts c plain_one).1 in
          subst (λ (w : List ℕ). Spells w (encode c)) (sym (append-nil (escaped_unit c) ∙ rw plain_one refl))
          (subst (λ (s : List ℕ). Spells (c ∷ []) s) (sym (encode_ascii c (omega (arith, most)))) (plain_spells c plain_one))
      | inr differs ↦
          subst (λ (w : List ℕ). Spells w (encode c)) (sym (append-nil (escaped_unit c) ∙ escaped c differs)) (unit_spells c small high low)
    ]

not_in : (a b u : ℕ) → (u < a) ⊎ (b ≤ u) → (nat_le a u && nat_lt u b) ≡ false
not_in a b u (inl less) = elim (cases_Bool (nat_le a u && nat_lt u b)) [
  | inl h ↦ absurd (omega (arith, less, leb-true a u (and_parts (nat_le a u) (nat_lt u b) h).0))
  | inr e ↦ e
]
not_in a b u (inr more) = elim (cases_Bool (nat_le a u && nat_lt u b)) [
  | inl h ↦ absurd (omega (arith, more, ltb-true u b (and_parts (nat_le a u) (nat_lt u b) h).1))
  | inr e ↦ e
]

is_in : (a b u : ℕ) → a ≤ u → u < b → (nat_le a u && nat_lt u b) ≡ true
is_in a b u low high = and_from (nat_le a u) (nat_lt u b) (le-leb a u low) (lt-ltb u b high)

single : (c : ℕ) → c < 65536 → escaped_char c ≡ escaped_unit c ++ []
single c small = ap (λ (b : Bool). flat_map escaped_unit (cond b (c ∷ []) ((55296 + (c - 65536) / 1024) ∷ (56320 + (c - 65536) % 1024) ∷ []))) (lt-ltb c 65536 small)

above_single : (c : ℕ) → 65536 ≤ c → escaped_char c ≡ escaped_unit (55296 + (c - 65536) / 1024) ++ (escaped_unit (56320 + (c - 65536) % 1024) ++ [])
above_single c above = ap (λ (b : Bool). flat_map escaped_unit (cond b (c ∷ []) ((55296 + (c - 65536) / 1024) ∷ (56320 + (c - 65536) % 1024) ∷ []))) (le-ltb c 65536 above)

char_small : (c : ℕ) → c < 65536 → (c < 55296) ⊎ (57344 ≤ c) → Spells (escaped_char c) (encode c)
char_small c small (inl less) = subst (λ (w : List ℕ). Spells w (encode c)) (sym (single c small))
    (one_spells c small (not_in 55296 56320 c (inl less)) (not_in 56320 57344 c (inl (omega (arith, less)))))
char_small c small (inr more) = subst (λ (w : List ℕ). Spells w (encode c)) (sym (single c small))
    (one_spells c small (not_in 55296 56320 c (inr (omega (arith, more)))) (not_in 56320 57344 c (inr more)))

char_large : (c : ℕ) → 65536 ≤ c → c < 1114112 → Spells (escaped_char c) (encode c)
char_large c above below =
    let h = 55296 + (c - 65536) / 1024 in
    let l = 56320 + (c - 65536) % 1024 in
    let h_low : 55296 ≤ h = omega arith in
    let h_high : h < 56320 = omega arith in
    let l_low : 56320 ≤ l = omega arith in
    let l_high : l < 57344 = omega arith in
    let is : surrogate_pair h l ≡ c = omega arith in
    let text : escaped_char c ≡ (92 ∷ 117 ∷ digits_of h) ++ (92 ∷ 117 ∷ digits_of l) =
    above_single c above ∙ ap (λ (w : List ℕ). w ++ (escaped_unit l ++ [])) (pair_unit h (omega (arith, h_low))) ∙ ap (λ (w : List ℕ). (92 ∷ 117 ∷ digits_of h) ++ w) (append-nil (escaped_unit l) ∙ pair_unit l (omega (arith, l_low))) in
    subst (λ (w : List ℕ). Spells w (encode c)) (sym text)
    (pair_spells c h l (omega (arith, h_high)) (omega (arith, l_high)) (is_in 55296 56320 h h_low h_high) (is_in 56320 57344 l l_low l_high) is)

char_spells : (c : ℕ) → scalar c ≡ true → Spells (escaped_char c) (encode c)
char_spells c good =
    elim (cases_lt c 65536) [
      | inl small ↦ elim (scalar_cases c good) [ inl less ↦ char_small c small (inl less) | inr more ↦ char_small c small (inr more.0) ]
      | inr above ↦ elim (scalar_cases c good) [ inl less ↦ absurd (omega (arith, above, less)) | inr more ↦ char_large c above more.1 ]
    ]

chars_spell : (cs : List ℕ) → scalars cs ≡ true → Spells (flat_map escaped_char cs) (encodes cs)
chars_spell [] good = spells_none
chars_spell (c ∷ cs) good =
    let parts = and_parts (scalar c) (scalars cs) good in
    spells_both (escaped_char c) (flat_map escaped_char cs) (encode c) (encodes cs) (char_spells c parts.0) (chars_spell cs parts.1)

text_spells : (s : List ℕ) → is_utf8 s ≡ true → Spells (flat_map escaped_char (chars s)) s
text_spells s good =
    let is = IsUtf8-from_is_utf8 s good in
    subst (λ (t : List ℕ). Spells (flat_map escaped_char (chars t)) t) is.1.1
    (subst (λ (cs : List ℕ). Spells (flat_map escaped_char cs) (encodes is.0)) (sym (chars-encodes is.0 is.1.0)) (chars_spell is.0 is.1.0))

-- ---- between quotation marks

pub string_read : (s r : List ℕ) → is_utf8 s ≡ true → lex between (json_string s ++ r) ≡ token (string s) ∷ lex between r
unfolding lex content
string_read s r good =
    let spells = text_spells s good in
    let w = flat_map escaped_char (chars s) in
    ap (λ (t : List ℕ). lex between (34 ∷ t)) (append_assoc w (34 ∷ []) r)
    ∙ ap (λ (o : Option (List ℕ)). token (string_token o) ∷ lex in_string (w ++ 34 ∷ r)) (spells.read (34 ∷ r) ∙ ap (λ (t : List ℕ). Some t) (append-nil s))
    ∙ ap (λ (ls : List Lexeme). token (string s) ∷ ls) (spells.lexed (34 ∷ r))

pub string_inside : (s : List ℕ) → is_utf8 s ≡ true → Inside (json_string s)
string_inside s good = both stays_in (flat_map escaped_char (chars s)) (34 ∷ []) (text_spells s good).inside refl

-- ---- plain texts

plain_small : (x : ℕ) → is_plain x ≡ true → x < 128
plain_small x p = omega (arith, leb-true x 126 (plain_parts x p).1)

plain_ascii : (s : List ℕ) → IsPlain s → IsAscii s
plain_ascii s p = IsAscii-from_all s (λ k d within. plain_small _ (AllPass-from_list_all is_plain s p k d within))

plain_chars : (s : List ℕ) → IsPlain s → flat_map escaped_char s ≡ s
plain_chars [] p = refl
plain_chars (x ∷ xs) p =
    let parts = and_parts (is_plain x) (list_all is_plain xs) p in
    let here : escaped_char x ≡ x ∷ [] = single x (omega (arith, plain_small x parts.0)) ∙ rw parts.0 refl in
    ap (λ (w : List ℕ). w ++ flat_map escaped_char xs) here ∙ ap (λ (w : List ℕ). x ∷ w) (plain_chars xs parts.1)

pub plain_utf8 : (s : List ℕ) → IsPlain s → is_utf8 s ≡ true
plain_utf8 s p = is_utf8-from_IsUtf8 s (IsUtf8-from_ascii s (plain_ascii s p))

pub plain_string : (s : List ℕ) → IsPlain s → json_string s ≡ in_quotes s
plain_string s p = ap (λ (t : List ℕ). in_quotes (flat_map escaped_char t)) (chars-IsAscii s (plain_ascii s p)) ∙ ap in_quotes (plain_chars s p)
