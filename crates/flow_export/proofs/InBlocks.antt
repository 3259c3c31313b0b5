-- The lines of rows, written in blocks.
use Rattle.std.proofs.Common.{◌≡◌, ℕ, List, [], ◌∷◌, ◌++◌, drop, Option, sym, ap, subst, ◌∙◌, append_assoc, append-nil}
use Rattle.std.specs.Io.KnownBytes.{Appends}
use Rattle.std.specs.List.{flat_map}
use Rattle.std.proofs.KnownBytes.{Appends-nil, Appends-trans}
use Rattle.flow_table.specs.SameTables.{RowValue}

-- of the lines of all rows some were written, then come those in the text, and then those of the rows that are left
abbrev pub Written : (RowValue → List ℕ) → List RowValue → List RowValue → List ℕ → Option (List ℕ) → Option (List ℕ) → Type 0
Written line_of all left text before now = (front : List ℕ) × (flat_map line_of all ≡ front ++ (text ++ flat_map line_of left)) × Appends before now front

pub none_written : (line_of : RowValue → List ℕ) (all : List RowValue) (text : List ℕ) (a : Option (List ℕ)) → text ≡ [] → Written line_of all all text a a
none_written line_of all text a is = ([], ap (λ (t : List ℕ). t ++ flat_map line_of all) (sym is), Appends-nil a)

regrouped : (f g t r : List ℕ) → f ++ ((g ++ t) ++ r) ≡ (f ++ g) ++ (t ++ r)
regrouped f g t r = simp append_assoc

-- one row more, after which a front of the text was written
pub line_more : (line_of : RowValue → List ℕ) (all left behind : List RowValue) (row : RowValue) (text longer rest : List ℕ) (a b c : Option (List ℕ)) → left ≡ row ∷ drop 1 left
    → behind ≡ drop 1 left → longer ≡ text ++ line_of row → Written line_of all left text a b → (front : List ℕ) → longer ≡ front ++ rest → Appends b c front → Written line_of all behind rest a c
line_more line_of all left behind row text longer rest a b c is_left is_behind is_longer so_far front is_rest here =
    let others = flat_map line_of behind in
    let split : text ++ flat_map line_of left ≡ (front ++ rest) ++ others =
    ap (λ (rows : List RowValue). text ++ flat_map line_of rows) (is_left ∙ ap (λ (rows : List RowValue). row ∷ rows) (sym is_behind))
    ∙ sym (append_assoc text (line_of row) others) ∙ ap (λ (t : List ℕ). t ++ others) (sym is_longer ∙ is_rest) in
    (so_far.0 ++ front, so_far.1 ∙ ap (λ (t : List ℕ). so_far.0 ++ t) split ∙ regrouped so_far.0 front rest others, Appends-trans a b c so_far.0 front so_far.2 here)

-- all rows, once the text was written too
pub all_written : (line_of : RowValue → List ℕ) (all left : List RowValue) (text last : List ℕ) (a b c : Option (List ℕ)) → left ≡ [] → last ≡ text
    → Written line_of all left text a b → Appends b c last → Appends a c (flat_map line_of all)
all_written line_of all left text last a b c none is_last so_far here =
    let whole : so_far.0 ++ last ≡ flat_map line_of all =
    ap (λ (t : List ℕ). so_far.0 ++ t) (is_last ∙ sym (append-nil text) ∙ ap (λ (rows : List RowValue). text ++ flat_map line_of rows) (sym none)) ∙ sym so_far.1 in
    subst (λ (t : List ℕ). Appends a c t) whole (Appends-trans a b c so_far.0 last so_far.2 here)
