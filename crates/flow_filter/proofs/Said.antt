-- What a list of texts says, text after text.
use Rattle.std.proofs.Common.{◌≡◌, ℕ, zero, suc, ◌+◌, ◌<◌, List, [], ◌∷◌, ◌++◌, length, take, get_or, Some, refl, subst, sym, ap, ◌∙◌, arith}
use denote.Bor.{Bor}
use Rattle.std.specs.List.{slice_get}
use Rattle.std.proofs.lemmas.List.{map_more, take-map}
use Rattle.ipfix_elements.specs.declared.kind.Kind.{Kind}
use Rattle.flow_filter.specs.declared.value_range.ValueRange.{ValueRange}
use Rattle.flow_filter.specs.Faults.{texts_of, AreTexts, IsFirstUnsaid}
use Rattle.flow_filter.specs.Texts.{IsNoText, IsText}

-- one text more
pub one_more : (kind : Kind) (texts : List (List ℕ)) (said : List ValueRange) (text : List ℕ) (w : ValueRange) → AreTexts kind texts said → IsText kind text w → AreTexts kind (texts ++ text ∷ []) (said ++ w ∷ [])
one_more kind [] [] text w h is = (is, tt)
one_more kind [] (v ∷ said) text w h is = absurd h
one_more kind (t ∷ texts) [] text w h is = absurd h
one_more kind (t ∷ texts) (v ∷ said) text w h is = (h.0, one_more kind texts said text w h.1 is)

-- ---- the texts that a loop has come to

text_at : (texts : List (Bor (List ℕ))) (i : ℕ) (d : Bor (List ℕ)) → i < length texts → slice_get (texts_of texts) i ≡ Some (get_or texts i d).now
text_at [] i d inside = absurd (omega (arith, inside))
text_at (t ∷ texts) zero d inside = refl
text_at (t ∷ texts) (suc i) d inside = text_at texts i d (omega (arith, inside))

pub first_unsaid : (kind : Kind) (texts : List (Bor (List ℕ))) (i : ℕ) (d : Bor (List ℕ)) (said : List ValueRange) → i < length texts → AreTexts kind (take i (texts_of texts)) said
    → IsNoText kind (get_or texts i d).now → IsFirstUnsaid kind (texts_of texts) i
first_unsaid kind texts i d said inside before none =
    record { text = (get_or texts i d).now; here = text_at texts i d inside; unsaid = none; said = said; before = before }

pub more_said : (kind : Kind) (texts : List (Bor (List ℕ))) (i : ℕ) (d : Bor (List ℕ)) (said : List ValueRange) (w : ValueRange) → i < length texts → AreTexts kind (take i (texts_of texts)) said
    → IsText kind (get_or texts i d).now w → AreTexts kind (take (i + 1) (texts_of texts)) (said ++ w ∷ [])
more_said kind texts i d said w inside before is =
    let now = λ (t : Bor (List ℕ)). t.now in
    let text = (get_or texts i d).now in
    let longer : take (i + 1) (texts_of texts) ≡ take i (texts_of texts) ++ text ∷ [] =
    take-map now (i + 1) texts ∙ map_more now texts i d inside ∙ ap (λ (ts : List (List ℕ)). ts ++ text ∷ []) (sym (take-map now i texts)) in
    subst (λ (ts : List (List ℕ)). AreTexts kind ts (said ++ w ∷ [])) (sym longer) (one_more kind (take i (texts_of texts)) said text w before is)
