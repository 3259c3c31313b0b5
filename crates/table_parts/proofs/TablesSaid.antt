-- Tables as receipts say them, and which of them has an input.
use Rattle.std.proofs.Common.{◌≡◌, ◌∙◌, ℕ, zero, suc, ◌+◌, ◌-◌, ◌<◌, ◌≤◌, List, [], ◌∷◌, ◌++◌, append_assoc, length, map, take, drop, get_or, refl, sym, ap, subst, arith}
use Rattle.std.proofs.lemmas.List.{length-map, length-take-le, map-append, take_all, take_more, take-append-drop}
use Rattle.std.proofs.lemmas.List.Sums.{sum_by-append}
use Rattle.receipt_merging.specs.Parts.{PartValue}
use Rattle.table_parts.specs.Tables.{HasInput, inputs_before, said_by, tables_said}
use Rattle.table_parts.specs.declared.files.PartFiles.{PartFiles}
use Rattle.table_parts.specs.declared.tables.PartTable.{PartTable}

-- ---- one more

said_more : (all : List PartFiles) (parts : List PartValue) (files : PartFiles) (part : PartValue) → length all ≡ length parts → tables_said (all ++ files ∷ []) (parts ++ part ∷ []) ≡ tables_said all parts ++ said_by files part ∷ []
said_more [] [] files part beside = refl
said_more [] (p ∷ parts) files part beside = absurd (omega (arith, beside))
said_more (f ∷ all) [] files part beside = absurd (omega (arith, beside))
said_more (f ∷ all) (p ∷ parts) files part beside = ap (λ (l : List PartTable). said_by f p ∷ l) (said_more all parts files part (omega (arith, beside)))

module _ {A : Type 0} (value : A → PartValue) (all : List PartFiles) (parts : List A) (i : ℕ) (d files : PartFiles) (part : A) (here : i < length all) (too : i < length parts) (is : get_or all i d ≡ files) (is_too : part ≡ get_or parts i part) where
  pub said_next : tables_said (take (i + 1) all) (map value (take (i + 1) parts)) ≡ tables_said (take i all) (map value (take i parts)) ++ said_by files (value part) ∷ []
  said_next =
      let more : take (i + 1) all ≡ take i all ++ files ∷ [] = take_more all i d here ∙ ap (λ (f : PartFiles). take i all ++ f ∷ []) is in
      let others : map value (take (i + 1) parts) ≡ map value (take i parts) ++ value part ∷ [] =
      ap (map value) (take_more parts i part too ∙ ap (λ (p : A). take i parts ++ p ∷ []) (sym is_too)) ∙ map-append value (take i parts) (part ∷ []) in
      let one : length (take i all) ≡ i = length-take-le i all (omega (arith, here)) in
      let other : length (map value (take i parts)) ≡ i = length-map (take i parts) value ∙ length-take-le i parts (omega (arith, too)) in
      ap (λ (l : List PartFiles). tables_said l (map value (take (i + 1) parts))) more ∙ ap (λ (l : List PartValue). tables_said (take i all ++ files ∷ []) l) others
      ∙ said_more (take i all) (map value (take i parts)) files (value part) (one ∙ sym other)

-- parts that have no files are in no table
more_parts : (all : List PartFiles) (parts others : List PartValue) → length all ≤ length parts → tables_said all (parts ++ others) ≡ tables_said all parts
more_parts [] parts others enough = refl
more_parts (f ∷ all) [] others enough = absurd (omega (arith, enough))
more_parts (f ∷ all) (p ∷ parts) others enough = ap (λ (l : List PartTable). said_by f p ∷ l) (more_parts all parts others (omega (arith, enough)))

-- no files are left
pub said_short : {A : Type 0} (value : A → PartValue) (all : List PartFiles) (parts : List A) (i : ℕ) → length all ≤ i → i ≤ length parts → tables_said (take i all) (map value (take i parts)) ≡ tables_said all (map value parts)
said_short value all parts i none within =
    let count : length (map value (take i parts)) ≡ i = length-map (take i parts) value ∙ length-take-le i parts within in
    let whole : map value (take i parts) ++ map value (drop i parts) ≡ map value parts = sym (map-append value (take i parts) (drop i parts)) ∙ ap (map value) (take-append-drop i parts) in
    ap (λ (l : List PartFiles). tables_said l (map value (take i parts))) (take_all i all none)
    ∙ sym (more_parts all (map value (take i parts)) (map value (drop i parts)) (omega (arith, none, count)))
    ∙ ap (λ (l : List PartValue). tables_said all l) whole

-- no parts are left
more_files : (all others : List PartFiles) (parts : List PartValue) → length parts ≤ length all → tables_said (all ++ others) parts ≡ tables_said all parts
more_files [] [] parts enough = refl
more_files [] (f ∷ others) [] enough = refl
more_files [] (f ∷ others) (p ∷ parts) enough = absurd (omega (arith, enough))
more_files (f ∷ all) others [] enough = refl
more_files (f ∷ all) others (p ∷ parts) enough = ap (λ (l : List PartTable). said_by f p ∷ l) (more_files all others parts (omega (arith, enough)))

pub said_all : {A : Type 0} (value : A → PartValue) (all : List PartFiles) (parts : List A) (i : ℕ) → length parts ≤ i → i ≤ length all → tables_said (take i all) (map value (take i parts)) ≡ tables_said all (map value parts)
said_all value all parts i none within =
    let mapped : map value (take i parts) ≡ map value parts = ap (map value) (take_all i parts none) in
    let count : length (map value parts) ≡ length parts = length-map parts value in
    let files : length (take i all) ≡ i = length-take-le i all within in
    ap (λ (l : List PartValue). tables_said (take i all) l) mapped
    ∙ sym (more_files (take i all) (drop i all) (map value parts) (omega (arith, none, count, files)))
    ∙ ap (λ (l : List PartFiles). tables_said l (map value parts)) (take-append-drop i all)

-- ---- whose an input is

-- a list is what stands before a place, there, and after it
parted : {A : Type 0} (xs : List A) (i : ℕ) (d : A) → i < length xs → xs ≡ take i xs ++ get_or xs i d ∷ drop (i + 1) xs
parted xs i d within =
    sym (take-append-drop (i + 1) xs) ∙ ap (λ (l : List _). l ++ drop (i + 1) xs) (take_more xs i d within) ∙ append_assoc (take i xs) (get_or xs i d ∷ []) (drop (i + 1) xs)

module _ (tables : List PartTable) (i left place : ℕ) (d table : PartTable) (within : i < length tables) (is : get_or tables i d ≡ table) (so_far : inputs_before (take i tables) + left ≡ place) where
  pub has_input : left < table.inputs → HasInput tables place (i + 1) table.files
  has_input less = record {
    before = take i tables;
    table = table;
    later = drop (i + 1) tables;
    are = parted tables i d within ∙ ap (λ (t : PartTable). take i tables ++ t ∷ drop (i + 1) tables) is;
    numbered = ap (λ (n : ℕ). n + 1) (sym (length-take-le i tables (omega (arith, within))));
    of = refl;
    from = omega (arith, so_far);
    to = omega (arith, so_far, less);
  }

  pub before_next : table.inputs ≤ left → inputs_before (take (i + 1) tables) + (left - table.inputs) ≡ place
  before_next enough =
      let more : take (i + 1) tables ≡ take i tables ++ table ∷ [] = take_more tables i d within ∙ ap (λ (t : PartTable). take i tables ++ t ∷ []) is in
      let count : inputs_before (take (i + 1) tables) ≡ inputs_before (take i tables) + table.inputs = ap inputs_before more ∙ sum_by-append (λ (t : PartTable). t.inputs) (take i tables) (table ∷ []) ∙ omega arith in
      omega (arith, count, so_far, enough)
