-- Lists of elements, one after another.
use Rattle.std.proofs.Common.{◌≡◌, ℕ, ◌+◌, ◌<◌, ◌||◌, Bool, false, List, [], ◌∷◌, ◌++◌, length, get_or, take, map, Option, refl, sym, ap, ◌∙◌, subst, arith}
use Rattle.std.specs.Io.KnownBytes.{Appends}
use Rattle.std.specs.Option.{option_copied}
use Rattle.std.proofs.KnownBytes.{Appends-nil, Appends-trans}
use Rattle.std.proofs.lemmas.Grind.{flat_map-append}
use Rattle.std.proofs.lemmas.List.Folds.{list_any-append}
use Rattle.std.proofs.lemmas.List.{append-nil, map-append, take_more}
use Rattle.std.proofs.Math.Bool.{or-false}
use Rattle.element_registry.specs.Registries.{Known, shown}
use Rattle.element_registry.specs.declared.entry.Entry as kept
use Rattle.command_elements.specs.Fitting.{fits}
use Rattle.command_elements.specs.Lines.{has_fitting, line_if_fits, lines_of}
use Rattle.command_elements.specs.Listed.{Listed, all_listed, built_in, of_files, of_known}
use Rattle.command_elements.specs.Searches.{Shows, all_in}
use Rattle.command_elements.specs.declared.search.Search.{Search}

-- those of files, one after another
of_known_files : (es : List kept.Entry) → of_files es ≡ map of_known (map shown es)
of_known_files [] = refl
of_known_files (e ∷ es) = ap (λ (ks : List Listed). of_known (shown e) ∷ ks) (of_known_files es)

pub files_next : (es : List kept.Entry) (i : ℕ) (e : kept.Entry) → i < length es → e ≡ get_or es i e → of_files (take (i + 1) es) ≡ of_files (take i es) ++ of_files (e ∷ [])
files_next es i e within is =
    ap of_files (take_more es i e within ∙ ap (λ (x : kept.Entry). take i es ++ x ∷ []) (sym is)) ∙ map-append (λ k. of_known (shown k)) (take i es) (e ∷ [])

-- where none fits there is no line
no_lines : (known : List Known) (word : Option (List ℕ)) (ks : List Listed) → has_fitting word ks ≡ false → lines_of known word ks ≡ []
no_lines known word [] none = refl
no_lines known word (k ∷ ks) none = let more = no_lines known word ks in grind (arith, more)

pub lines_both : (known : List Known) (word : Option (List ℕ)) (xs ys : List Listed) → lines_of known word (xs ++ ys) ≡ lines_of known word xs ++ lines_of known word ys
lines_both known word xs ys = flat_map-append (line_if_fits known word) xs ys

pub fitting_both : (word : Option (List ℕ)) (xs ys : List Listed) → has_fitting word (xs ++ ys) ≡ (has_fitting word xs || has_fitting word ys)
fitting_both word xs ys = list_any-append (λ k. fits word k.element k.name) xs ys

module _ (search : Search) where
  abbrev word : Option (List ℕ)
  word = option_copied search.word

  pub shows_none : (a : Option (List ℕ)) → Shows search [] (Appends a a) false
  shows_none a = record { written = Appends-nil a; answered = refl }

  -- one list after another
  pub written_both : (all xs ys : List Listed) (a b c : Option (List ℕ)) (x y : Bool) → all ≡ xs ++ ys → Shows search xs (Appends a b) x → Shows search ys (Appends b c) y
      → Appends a c (lines_of search.elements.now word all)
  written_both all xs ys a b c x y is first later =
      subst (λ (t : List ℕ). Appends a c t) (sym (ap (lines_of search.elements.now word) is ∙ lines_both search.elements.now word xs ys))
      (Appends-trans a b c _ _ first.written later.written)

  pub fits_both : (all xs ys : List Listed) (a b c : Option (List ℕ)) (x y : Bool) → all ≡ xs ++ ys → Shows search xs (Appends a b) x → Shows search ys (Appends b c) y
      → has_fitting word all ≡ (x || y)
  fits_both all xs ys a b c x y is first later =
      let both = ap (has_fitting word) is ∙ fitting_both word xs ys in
      let one = first.answered in
      let other = later.answered in
      cc

  -- all elements are those built in and those of files
  pub all_are : (es : List kept.Entry) → map shown es ≡ search.elements.now → all_in search ≡ built_in ++ of_files es
  all_are es is = ap (λ (ks : List Known). built_in ++ map of_known ks) (sym is) ∙ ap (λ (ks : List Listed). built_in ++ ks) (sym (of_known_files es))

  -- a list of one
  pub shows_one : (k : Listed) (a b : Option (List ℕ)) (found : Bool) → Appends a b (line_if_fits search.elements.now word k) → found ≡ fits word k.element k.name
      → Shows search (k ∷ []) (Appends a b) found
  shows_one k a b found written is =
      record {
        written = subst (λ (t : List ℕ). Appends a b t) (sym (append-nil (line_if_fits search.elements.now word k))) written;
        answered = let one = or-false (fits word k.element k.name) in cc;
      }

pub none_written : (known : List Known) (word : Option (List ℕ)) (a b : Option (List ℕ)) → has_fitting word (all_listed known) ≡ false → Appends a b (lines_of known word (all_listed known)) → Appends a b []
none_written known word a b none written = subst (λ (t : List ℕ). Appends a b t) (no_lines known word (all_listed known) none) written
