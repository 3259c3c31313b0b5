-- Finding the layout of a template's records, specifier by specifier as a loop goes.
use Rattle.std.proofs.Common.{◌≡◌, ℕ, ◌+◌, ◌*◌, ◌^◌, ◌<◌, ◌≤◌, Bool, true, false, cond, eqb, List, [], ◌∷◌, ◌++◌, length, get_or, take, drop, Option, Some, None, refl, sym, ap, ◌∙◌, append_assoc, arith}
use Rattle.std.specs.Prelude.{All}
use Rattle.std.specs.Option.{option_or}
use Rattle.std.specs.Ordering.{nat_cmp}
use Rattle.std.specs.BTreeMap.{BTreeMap, get}
use Rattle.std.proofs.lemmas.List.{append-nil, length-append, drop_more, drop_all, take_more, take_all}
use Rattle.std.proofs.lemmas.List.Elements.{All-nil, All-cons, All-append}
use Rattle.ipfix_wire.specs.declared.specifier.Spec.{Spec}
use Rattle.ipfix_wire.specs.declared.specifier.ElementId.{ElementId}
use Rattle.ipfix_message.specs.declared.places.FieldPlace.{FieldPlace}
use Rattle.ipfix_message.specs.Fields.{same_element}
use Rattle.ipfix_message.specs.Layouts.{gaps_from, last_from, behind, place_from, key_of, IsNarrow}

abbrev pub place : ℕ → ℕ → ℕ → FieldPlace
place before offset width = record { before = before; offset = offset; width = width }

behind-more : (n m : ℕ) (p : Option FieldPlace) → m ≡ n + 1 → behind n (behind 1 p) ≡ behind m p
behind-more n m None e = refl
behind-more n m (Some p) e = ap (λ (k : ℕ). Some (place k p.offset p.width)) (let sum : n + (1 + p.before) ≡ m + p.before = omega (arith, e) in sum)

-- what the layout has of the first i specifiers
pub record LaidSoFar (gaps : List ℕ) (last : ℕ) (places : BTreeMap ℕ FieldPlace) (i : ℕ) (specs : List Spec) : Type 0 where
  pub gap : gaps ++ gaps_from last (drop i specs) ≡ gaps_from 0 specs
  pub end : last_from last (drop i specs) ≡ last_from 0 specs
  pub at : (e : ElementId) → e.number < 2 ^ 16 → option_or (get nat_cmp places (key_of e)) (behind (length gaps) (place_from last (drop i specs) e)) ≡ place_from 0 specs e
  pub narrow : All IsNarrow (take i specs)
  pub small : last ≤ 65535 * i
  pub few : length gaps ≤ i

-- a place was noted for an element, unless one was there
abbrev pub Noted : BTreeMap ℕ FieldPlace → BTreeMap ℕ FieldPlace → ElementId → FieldPlace → Type 0
Noted places after element here = (e : ElementId) → e.number < 2 ^ 16 → get nat_cmp after (key_of e) ≡ option_or (get nat_cmp places (key_of e)) (cond (same_element element e) (Some here) None)

-- noting it and then looking at those that follow
noted-first : (known others : Option FieldPlace) (n : ℕ) (same : Bool) (last width : ℕ)
    → option_or (option_or known (cond same (Some (place n last width)) None)) (behind n others) ≡ option_or known (behind n (cond same (Some (place 0 last width)) others))
noted-first (Some p) others n same last width = refl
noted-first None others n true last width = ap (λ (k : ℕ). Some (place k last width)) (let sum : n ≡ n + 0 = omega arith in sum)
noted-first None others n false last width = refl

split : (specs : List Spec) (i : ℕ) (s : Spec) → i < length specs → s ≡ get_or specs i s → drop i specs ≡ s ∷ drop (i + 1) specs
split specs i s lt item = drop_more specs i s lt ∙ ap (λ (x : Spec). x ∷ drop (i + 1) specs) (sym item)

narrow-more : (specs : List Spec) (i : ℕ) (s : Spec) → i < length specs → s ≡ get_or specs i s → s.width < 2 ^ 16 → All IsNarrow (take i specs) → All IsNarrow (take (i + 1) specs)
narrow-more specs i s lt item here before =
    rw (take_more specs i s lt, ← item) (All-append IsNarrow (take i specs) (s ∷ []) before (All-cons IsNarrow s [] here (All-nil IsNarrow)))

pub laid_variable : (gaps : List ℕ) (last : ℕ) (places after : BTreeMap ℕ FieldPlace) (i : ℕ) (specs : List Spec) (s : Spec)
    → i < length specs → s ≡ get_or specs i s → s.width ≡ 65535 → Noted places after s.element (place (length gaps) last s.width)
    → LaidSoFar gaps last places i specs → LaidSoFar (gaps ++ last ∷ []) 0 after (i + 1) specs
laid_variable gaps last places after i specs s lt item variable noted before =
    let rest = drop (i + 1) specs in
    let yes : eqb s.width 65535 ≡ true = rw variable refl in
    record {
      gap = append_assoc gaps (last ∷ []) (gaps_from 0 rest) ∙ rw (split specs i s lt item, yes) at before.gap;
      end = rw (split specs i s lt item, yes) at before.end;
      at = λ e small.
          let was = rw (split specs i s lt item, yes) at before.at e small in
          rw (noted e small, ← behind-more (length gaps) (length (gaps ++ last ∷ [])) (place_from 0 rest e) (length-append gaps (last ∷ [])))
          (noted-first (get nat_cmp places (key_of e)) (behind 1 (place_from 0 rest e)) (length gaps) (same_element s.element e) last s.width ∙ was);
      narrow = narrow-more specs i s lt item (omega (arith, variable)) before.narrow;
      small = omega arith;
      few = omega (arith, before.few, length-append gaps (last ∷ []));
    }

pub laid_fixed : (gaps : List ℕ) (last : ℕ) (places after : BTreeMap ℕ FieldPlace) (i : ℕ) (specs : List Spec) (s : Spec)
    → i < length specs → s ≡ get_or specs i s → eqb s.width 65535 ≡ false → s.width < 2 ^ 16 → Noted places after s.element (place (length gaps) last s.width)
    → LaidSoFar gaps last places i specs → LaidSoFar gaps (last + s.width) after (i + 1) specs
laid_fixed gaps last places after i specs s lt item fixed narrow noted before =
    let rest = drop (i + 1) specs in
    record {
      gap = rw (split specs i s lt item, fixed) at before.gap;
      end = rw (split specs i s lt item, fixed) at before.end;
      at = λ e small.
          let was = rw (split specs i s lt item, fixed) at before.at e small in
          rw (noted e small)
          (noted-first (get nat_cmp places (key_of e)) (place_from (last + s.width) rest e) (length gaps) (same_element s.element e) last s.width ∙ was);
      narrow = narrow-more specs i s lt item narrow before.narrow;
      small = omega (arith, before.small, narrow);
      few = omega (arith, before.few);
    }

pub record Laid (gaps : List ℕ) (last : ℕ) (places : BTreeMap ℕ FieldPlace) (specs : List Spec) : Type 0 where
  pub gap : gaps ≡ gaps_from 0 specs
  pub end : last ≡ last_from 0 specs
  pub at : (e : ElementId) → e.number < 2 ^ 16 → get nat_cmp places (key_of e) ≡ place_from 0 specs e
  pub narrow : All IsNarrow specs

pub laid_all : (gaps : List ℕ) (last : ℕ) (places : BTreeMap ℕ FieldPlace) (i : ℕ) (specs : List Spec) → length specs ≤ i → LaidSoFar gaps last places i specs → Laid gaps last places specs
laid_all gaps last places i specs le before =
    let none : drop i specs ≡ [] = drop_all i specs le in
    record {
      gap = sym (append-nil gaps) ∙ rw none at before.gap;
      end = rw none at before.end;
      at = λ e small. known-alone (get nat_cmp places (key_of e)) ∙ rw none at before.at e small;
      narrow = rw (← take_all i specs le) before.narrow;
    }
  where
    known-alone : (p : Option FieldPlace) → p ≡ option_or p None
    known-alone None = refl
    known-alone (Some x) = refl
