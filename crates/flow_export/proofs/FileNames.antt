-- Names of files are plain.
use Rattle.std.proofs.Common.{◌≡◌, ℕ, zero, suc, ◌+◌, ◌/◌, ◌%◌, ◌<◌, Bool, true, false, cond, eqb, ◌||◌, not, nat_lt, nat_le, List, [], ◌∷◌, ◌++◌, length, find, Option, Some, None, is_some, refl, ap, subst, ◌∙◌, arith, inl, inr}
use Rattle.std.specs.Prelude.{codes, Ok, Err}
use Rattle.std.specs.Fmt.{decimal, digits, digits_onto, digit_glyph}
use Rattle.std.specs.List.{list_all}
use Rattle.std.proofs.Math.Nat.{mod-lt}
use Rattle.std.proofs.lemmas.Bool.{cases_Bool, and_parts, and_from, lt-ltb}
use Rattle.std.proofs.lemmas.List.Folds.{list_all-append}
use Rattle.ipfix_elements.specs.Elements.{entry_of}
use Rattle.element_registry.specs.Faults.{Read}
use Rattle.element_registry.specs.Files.{fields_in, with_entry_if, with_row, with_rows, with_file, most}
use Rattle.element_registry.specs.Registries.{Known, is_of, element_by_name}
use Rattle.element_registry.specs.Rows.{and_then, begins_with_letter, columns_in, element_in, entry, entry_in, entry_of_element, field, full_name, is_name, is_name_octet, is_reserved}
use Rattle.element_registry.specs.declared.columns.Columns.{Columns}
use Rattle.element_registry.specs.declared.fault.ElementsFault.TheVariants.{NotCsv, Name, NumberTwice, NameTwice, TooMany}
use Rattle.flow_export.specs.CsvText.{heading}
use Rattle.flow_export.specs.PlainNames.{is_plain_octet, has_plain_name, have_plain_names}

all_both : (p : ℕ → Bool) (xs ys : List ℕ) → list_all p xs ≡ true → list_all p ys ≡ true → list_all p (xs ++ ys) ≡ true
all_both p xs ys h i = list_all-append p xs ys ∙ and_from _ _ h i

digits_pass : (k n : ℕ) (acc : List ℕ) → list_all is_plain_octet acc ≡ true → list_all is_plain_octet (digits_onto k 10 false n acc) ≡ true
digits_pass zero n acc p = p
digits_pass (suc k) n acc p =
    let less : n % 10 < 10 = mod-lt n (omega arith) in
    let glyph : digit_glyph false (n % 10) ≡ 48 + n % 10 = rw (lt-ltb (n % 10) 10 less) refl in
    let here : list_all is_plain_octet (digit_glyph false (n % 10) ∷ acc) ≡ true = and_from _ _ (ap is_plain_octet glyph ∙ digit_passes (n % 10) less) p in
    elim (cases_Bool (eqb (n / 10) 0)) [
      | inl t ↦ rw t here
      | inr f ↦ rw f (digits_pass k (n / 10) (digit_glyph false (n % 10) ∷ acc) here)
    ]
  where
    digit_passes : (d : ℕ) → d < 10 → is_plain_octet (48 + d) ≡ true
    digit_passes zero less = refl
    digit_passes (suc zero) less = refl
    digit_passes (suc (suc zero)) less = refl
    digit_passes (suc (suc (suc zero))) less = refl
    digit_passes (suc (suc (suc (suc zero)))) less = refl
    digit_passes (suc (suc (suc (suc (suc zero))))) less = refl
    digit_passes (suc (suc (suc (suc (suc (suc zero)))))) less = refl
    digit_passes (suc (suc (suc (suc (suc (suc (suc zero))))))) less = refl
    digit_passes (suc (suc (suc (suc (suc (suc (suc (suc zero)))))))) less = refl
    digit_passes (suc (suc (suc (suc (suc (suc (suc (suc (suc zero))))))))) less = refl
    digit_passes (suc (suc (suc (suc (suc (suc (suc (suc (suc (suc d)))))))))) less = absurd (omega (arith, less))

decimal_passes : (n : ℕ) → list_all is_plain_octet (decimal n) ≡ true
unfolding digits
decimal_passes n = digits_pass 64 n [] refl

letters_pass : (xs : List ℕ) → list_all is_name_octet xs ≡ true → list_all is_plain_octet xs ≡ true
letters_pass [] h = refl
letters_pass (x ∷ xs) h =
    let both = and_parts (is_name_octet x) (list_all is_name_octet xs) h in
    and_from (is_plain_octet x) (list_all is_plain_octet xs) (ap (λ (b : Bool). b || eqb x 46) both.0) (letters_pass xs both.1)

full_passes : (pen : ℕ) (name : List ℕ) → list_all is_name_octet name ≡ true → list_all is_plain_octet (full_name pen name) ≡ true
full_passes pen name h = by (eqb pen 0)
  where
    numbered : list_all is_plain_octet (codes "e" ++ (decimal pen ++ (codes "." ++ name))) ≡ true
    numbered =
        all_both is_plain_octet (codes "e") (decimal pen ++ (codes "." ++ name)) refl
        (all_both is_plain_octet (decimal pen) (codes "." ++ name) (decimal_passes pen) (all_both is_plain_octet (codes ".") name refl (letters_pass name h)))

    by : (b : Bool) → list_all is_plain_octet (cond b name (codes "e" ++ (decimal pen ++ (codes "." ++ name)))) ≡ true
    by true = letters_pass name h
    by false = numbered

bound : {A B : Type 0} (r : Read A) (f : A → Read B) (y : B) → and_then r f ≡ Ok y → (x : A) × (r ≡ Ok x) × (f x ≡ Ok y)
bound (Ok x) f y h = (x, refl, h)
bound (Err e) f y h = absurd cc

-- a row that says an element, and an element whose row isn't passed over
said : (b c : Bool) (r : Read (Option Known)) (k : Known) → cond b (Err NotCsv) (cond c (Ok None) r) ≡ Ok (Some k) → r ≡ Ok (Some k)
said true c r k h = absurd cc
said false true r k h = absurd cc
said false false r k h = h

kept : (b c : Bool) (known k : Known) → ◌≡◌ {A = Read (Option Known)} (cond b (Ok None) (cond c (Ok (Some known)) (Err Name))) (Ok (Some k)) → (c ≡ true) × (known ≡ k)
kept true c known k h = absurd cc
kept false true known k h = (refl, cc)
kept false false known k h = absurd cc

row_plain_name : (at : Columns) (fields : List (List ℕ)) (k : Known) → entry_in at fields ≡ Ok (Some k) → has_plain_name k ≡ true
row_plain_name at fields k h =
    let row = said (not (eqb (length fields) at.count)) (eqb (length (field fields at.kind)) 0) (and_then (element_in at fields) (entry_of_element at fields)) k h in
    let of = bound (element_in at fields) (entry_of_element at fields) (Some k) row in
    let name = field fields at.name in
    let at_last = kept (is_some (entry_of of.0)) (is_name name) (entry at fields of.0) k of.2 in
    let parts = and_parts _ (not (is_reserved name)) at_last.0 in
    let few = and_parts _ (nat_le (length name) 64) parts.0 in
    let octets = and_parts (begins_with_letter name) (list_all is_name_octet name) few.0 in
    subst (λ (x : Known). has_plain_name x ≡ true) at_last.1 (full_passes of.0.pen name octets.1)

-- with one more element, if there is one
one_more : (b c d : Bool) (known all : List Known) (k : Known) → have_plain_names known ≡ true → has_plain_name k ≡ true
    → ◌≡◌ {A = Read (List Known)} (cond b (Err NumberTwice) (cond c (Err NameTwice) (cond d (Ok (known ++ k ∷ [])) (Err TooMany)))) (Ok all) → have_plain_names all ≡ true
one_more true c d known all k plain here h = absurd cc
one_more false true d known all k plain here h = absurd cc
one_more false false false known all k plain here h = absurd cc
one_more false false true known all k plain here h =
    let are : known ++ k ∷ [] ≡ all = cc in
    subst (λ (ks : List Known). have_plain_names ks ≡ true) are (list_all-append has_plain_name known (k ∷ []) ∙ and_from _ _ plain (and_from (has_plain_name k) true here refl))

with_one : (known all : List Known) (o : Option Known) → have_plain_names known ≡ true → ((k : Known) → o ≡ Some k → has_plain_name k ≡ true) → with_entry_if known o ≡ Ok all → have_plain_names all ≡ true
with_one known all None plain each h =
    let are : known ≡ all = cc in
    subst (λ (ks : List Known). have_plain_names ks ≡ true) are plain
with_one known all (Some k) plain each h =
    one_more (is_some (find (is_of k.element) known)) (is_some (element_by_name known k.name)) (nat_lt (length known) most) known all k plain (each k refl) h

rows_plain : (at : Columns) (known all : List Known) (rows : List _) → have_plain_names known ≡ true → with_rows at known rows ≡ Ok all → have_plain_names all ≡ true
rows_plain at known all [] plain h =
    let are : known ≡ all = cc in
    subst (λ (ks : List Known). have_plain_names ks ≡ true) are plain
rows_plain at known all (row ∷ rows) plain h =
    let first = bound (with_row at known (fields_in row)) (λ more. with_rows at more rows) all h in
    let said = bound (entry_in at (fields_in row)) (with_entry_if known) first.0 first.1 in
    let more = with_one known first.0 said.0 plain (λ k is. row_plain_name at (fields_in row) k (said.1 ∙ ap (λ (o : Option Known). Ok o) is)) said.2 in
    rows_plain at first.0 all rows more first.2

pub file_plain : (known all : List Known) (rows : List _) → have_plain_names known ≡ true → with_file known rows ≡ Ok all → have_plain_names all ≡ true
file_plain known all [] plain h = absurd cc
file_plain known all (heading ∷ rows) plain h =
    let at = bound (columns_in (fields_in heading)) (λ at. with_rows at known rows) all h in
    rows_plain at.0 known all rows plain at.2
