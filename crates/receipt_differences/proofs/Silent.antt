-- When nothing is told.
use Rattle.std.proofs.Common.{◌≡◌, ◌∙◌, ℕ, ◌+◌, ◌≤◌, List, [], ◌∷◌, ◌++◌, length, refl, ap, arith}
use Rattle.std.specs.Prelude.{◌↔◌, ◌==◌, ◌&&◌, Bool, true, false, All, bytes_eq, codes, not, if◌then◌else◌}
use Rattle.std.specs.Cmp.{first_so}
use Rattle.std.specs.List.{count_by, flat_map}
use Rattle.std.proofs.lemmas.Bool.Decides.{Decides-eqb}
use Rattle.std.proofs.lemmas.List.Elements.{All-cons, All-head, All-nil, All-tail, All-weaker}
use Rattle.std.proofs.lemmas.Slice.Eq.{bytes_eq-Decides}
use Rattle.sha2.specs.Sha256.{sha256}
use Rattle.table_receipts.specs.Values.{InputValue, TableValue}
use Rattle.receipt_differences.specs.DifferenceLines.{named_line, line_start, number_differs, number_line, other_line, other_unless}
use Rattle.receipt_differences.specs.Differences.{IsTableOf, table_differs}
use Rattle.receipt_differences.specs.Remade.{again_line, text_differs}
use Rattle.receipt_differences.specs.Inputs.{HaveSameInputs, count_alike, exporter_same, file_differs, file_end, input_differs, input_end, inputs_differ, is_alike, is_like, lacks, octets_same, report_same}
use Rattle.receipt_differences.specs.declared.likeness.Likeness.{Likeness}
use Rattle.receipt_differences.specs.declared.likeness.Likeness.TheVariants.{Octets, Exporter, Report}
use Rattle.receipt_differences.proofs.Alike.{level_right, likeness_level}
use Rattle.receipt_differences.proofs.Counts.{at_most, count_parts, count_same, dominated, less_not, not_less}

-- ---- no lines at all

pub both_empty : {A : Type 0} (xs ys : List A) → xs ++ ys ≡ [] → (xs ≡ []) × (ys ≡ [])
both_empty [] ys e = (refl, e)
both_empty (x ∷ xs) ys e = absurd cc

empty_both : {A : Type 0} (xs ys : List A) → xs ≡ [] → ys ≡ [] → xs ++ ys ≡ []
empty_both xs ys e f = ap (λ l. l ++ ys) e ∙ f

flat_silent : {X : Type 0} (f : X → List ℕ) (xs : List X) → flat_map f xs ≡ [] → All (λ x. f x ≡ []) xs
flat_silent f [] e = All-nil (λ x. f x ≡ [])
flat_silent f (x ∷ xs) e =
    let parts = both_empty (f x) (flat_map f xs) e in
    All-cons (λ x. f x ≡ []) x xs parts.0 (flat_silent f xs parts.1)

silent_flat : {X : Type 0} (f : X → List ℕ) (xs : List X) → All (λ x. f x ≡ []) xs → flat_map f xs ≡ []
silent_flat f [] silent = refl
silent_flat f (x ∷ xs) silent =
    empty_both (f x) (flat_map f xs) (All-head (λ x. f x ≡ []) x xs silent) (silent_flat f xs (All-tail (λ x. f x ≡ []) x xs silent))

-- ---- lines that are told unless a test is passed, or if it is

if_silent : (b : Bool) (line : List ℕ) → (line ≡ [] → ⊥) → (if b then [] else line) ≡ [] → b ≡ true
if_silent true line never e = refl
if_silent false line never e = absurd (never e)

silent_if : (b : Bool) (line : List ℕ) → b ≡ true → (if b then [] else line) ≡ []
silent_if true line is = refl
silent_if false line is = absurd cc

else_silent : (b : Bool) (line rest : List ℕ) → (line ≡ [] → ⊥) → (if b then line else rest) ≡ [] → (b ≡ false) × (rest ≡ [])
else_silent true line rest never e = absurd (never e)
else_silent false line rest never e = (refl, e)

silent_else : (b : Bool) (line rest : List ℕ) → b ≡ false → rest ≡ [] → (if b then line else rest) ≡ []
silent_else true line rest is e = absurd cc
silent_else false line rest is e = e

number_said : (what : List ℕ) (found said : ℕ) → number_line what found said ≡ [] → ⊥
unfolding number_line
number_said what found said e = cc

other_said : (what : List ℕ) → other_line what ≡ [] → ⊥
unfolding other_line
other_said what e = cc

named_said : (what name end : List ℕ) → named_line what name end ≡ [] → ⊥
unfolding named_line line_start
named_said what name end e = cc

number_silent : (what : List ℕ) (found said : ℕ) → number_differs what found said ≡ [] → found ≡ said
unfolding number_differs
number_silent what found said e = (Decides-eqb found said).0 (if_silent (found == said) (number_line what found said) (number_said what found said) e)

silent_number : (what : List ℕ) (found said : ℕ) → found ≡ said → number_differs what found said ≡ []
unfolding number_differs
silent_number what found said same = silent_if (found == said) (number_line what found said) ((Decides-eqb found said).1 same)

other_silent : (b : Bool) (what : List ℕ) → other_unless b what ≡ [] → b ≡ true
unfolding other_unless
other_silent b what e = if_silent b (other_line what) (other_said what) e

silent_other : (b : Bool) (what : List ℕ) → b ≡ true → other_unless b what ≡ []
unfolding other_unless
silent_other b what is = silent_if b (other_line what) is

-- ---- a table

pub its_table : (said : TableValue) (table : List ℕ) → (table_differs said table ≡ []) ↔ IsTableOf said table
its_table said table =
    let octets = codes "table: octets" in
    let digest = codes "table: SHA-256" in
    let same = bytes_eq (sha256 table) said.digest in (
      λ silent.
          let parts = both_empty (number_differs octets (length table) said.octets) (other_unless same digest) silent in
          record { octets = number_silent octets (length table) said.octets parts.0; digest = (bytes_eq-Decides (sha256 table) said.digest).0 (other_silent same digest parts.1) },
      λ is.
          empty_both (number_differs octets (length table) said.octets) (other_unless same digest)
          (silent_number octets (length table) said.octets is.octets) (silent_other same digest ((bytes_eq-Decides (sha256 table) said.digest).1 is.digest)),
    )

again_said : again_line ≡ [] → ⊥
again_said e = cc

-- a table that was made again
pub same_text : (found table : List ℕ) → (text_differs found table ≡ []) ↔ (found ≡ table)
same_text found table = (
  λ silent. (bytes_eq-Decides found table).0 (if_silent (bytes_eq found table) again_line again_said silent),
  λ same. silent_if (bytes_eq found table) again_line ((bytes_eq-Decides found table).1 same),
)

-- ---- inputs

alike_enough : (to : Likeness) (all others : List InputValue) (i x : InputValue) → is_alike to i x ≡ true → count_alike to x all ≤ count_alike to x others → count_alike to i all ≤ count_alike to i others
alike_enough to all others i x is enough =
    let same = λ (z : InputValue). (likeness_level to).congr i x z is in
    let one = count_same (is_alike to i) (is_alike to x) same all in
    let two = count_same (is_alike to i) (is_alike to x) same others in
    omega arith

-- no more of any than of the others, if that is so of each
none_lacks : (to : Likeness) (all others : List InputValue) → All (λ x. lacks to all others x ≡ false) all → (i : InputValue) → count_alike to i all ≤ count_alike to i others
none_lacks to all others each i =
    at_most (is_alike to i) all others (All-weaker (λ x. lacks to all others x ≡ false) (λ x. is_alike to i x ≡ true → count_alike to i all ≤ count_alike to i others)
    (λ x none is. alike_enough to all others i x is (not_less (count_alike to x others) (count_alike to x all) none)) all each)

input_silent : (inputs files : List InputValue) (i : InputValue) → input_differs inputs files i ≡ [] → lacks Report inputs files i ≡ false
input_silent inputs files i e = (else_silent (lacks Report inputs files i) (named_line (codes "input") i.file.name (input_end inputs files i)) [] (named_said _ _ _) e).0

silent_input : (inputs files : List InputValue) (i : InputValue) → count_alike Report i inputs ≤ count_alike Report i files → input_differs inputs files i ≡ []
silent_input inputs files i enough =
    silent_else (lacks Report inputs files i) (named_line (codes "input") i.file.name (input_end inputs files i)) []
    (less_not (count_alike Report i files) (count_alike Report i inputs) enough) refl

file_silent : (inputs files : List InputValue) (f : InputValue) → file_differs inputs files f ≡ [] → lacks Exporter files inputs f ≡ false
file_silent inputs files f e = (else_silent (lacks Exporter files inputs f) (named_line (codes "file") f.file.name (file_end inputs files f)) [] (named_said _ _ _) e).0

silent_file : (inputs files : List InputValue) (f : InputValue) → count_alike Exporter f files ≤ count_alike Exporter f inputs → file_differs inputs files f ≡ []
silent_file inputs files f enough =
    silent_else (lacks Exporter files inputs f) (named_line (codes "file") f.file.name (file_end inputs files f)) []
    (less_not (count_alike Exporter f inputs) (count_alike Exporter f files) enough) refl

all_so : {X : Type 0} (P : X → Type 0) → ((x : X) → P x) → (xs : List X) → All P xs
all_so P each [] = All-nil P
all_so P each (x ∷ xs) = All-cons P x xs (each x) (all_so P each xs)

-- those that are like one are of its exporter
like_within : (i x : InputValue) → is_like i x ≡ true → is_alike Exporter i x ≡ true
like_within i x is = first_so (is_alike Exporter i x) (report_same i x) is

like_keeps : (to : Likeness) (i x y : InputValue) → is_like x y ≡ true → is_alike to i x ≡ is_alike to i y
like_keeps Octets i x y is = level_right Octets x y i (first_so (octets_same x y) (exporter_same x.exporter y.exporter) (like_within x y is))
like_keeps Exporter i x y is = level_right Exporter x y i (like_within x y is)
like_keeps Report i x y is = level_right Report x y i is

-- one for one: no more inputs than files are like any, and no more files than inputs have an exporter
one_each : (inputs files : List InputValue) → ((i : InputValue) → count_alike Report i inputs ≤ count_alike Report i files)
    → ((f : InputValue) → count_alike Exporter f files ≤ count_alike Exporter f inputs) → (i : InputValue) → count_by (is_like i) inputs ≡ count_by (is_like i) files
one_each inputs files of_inputs of_files i =
    let other = λ (x : InputValue). is_alike Exporter i x && not (is_like i x) in
    let kept : (x y : InputValue) → is_like x y ≡ true → other x ≡ other y = λ x y is k. like_keeps Exporter i x y is k && not (like_keeps Report i x y is k) in
    let most : count_by other inputs ≤ count_by other files = dominated is_like (likeness_level Report) other kept inputs files of_inputs in
    let all_inputs = count_parts (is_alike Exporter i) (is_like i) (like_within i) inputs in
    let all_files = count_parts (is_alike Exporter i) (is_like i) (like_within i) files in
    let like = of_inputs i in
    let exporter = of_files i in
    omega arith

pub same_inputs : (inputs files : List InputValue) → (inputs_differ inputs files ≡ []) ↔ HaveSameInputs inputs files
same_inputs inputs files = (
  λ silent.
      let parts = both_empty (flat_map (input_differs inputs files) inputs) (flat_map (file_differs inputs files) files) silent in
      let of_inputs = All-weaker (λ i. input_differs inputs files i ≡ []) (λ i. lacks Report inputs files i ≡ false) (input_silent inputs files) inputs (flat_silent (input_differs inputs files) inputs parts.0) in
      let of_files = All-weaker (λ f. file_differs inputs files f ≡ []) (λ f. lacks Exporter files inputs f ≡ false) (file_silent inputs files) files (flat_silent (file_differs inputs files) files parts.1) in
      record { matched = one_each inputs files (none_lacks Report inputs files of_inputs) (none_lacks Exporter files inputs of_files) },
  λ same.
      empty_both (flat_map (input_differs inputs files) inputs) (flat_map (file_differs inputs files) files)
      (silent_flat (input_differs inputs files) inputs
      (all_so (λ i. input_differs inputs files i ≡ []) (λ i. let level = same.matched i in silent_input inputs files i (omega (arith, level))) inputs))
      (silent_flat (file_differs inputs files) files
      (all_so (λ f. file_differs inputs files f ≡ [])
      (λ f. silent_file inputs files f (dominated is_like (likeness_level Report) (is_alike Exporter f) (like_keeps Exporter f) files inputs
      (λ i. let level = same.matched i in omega (arith, level)))) files)),
)
