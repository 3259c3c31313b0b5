-- The names of finished files, and what is read of them.
use Rattle.std.proofs.Common.{◌≡◌, ℕ, Bool, true, false, ◌<◌, ◌^◌, List, [], ◌∷◌, ◌++◌, length, get_or, zero, suc, Option, Some, None, refl, sym, ap, ◌∙◌, append_assoc, arith, inl, inr}
use denote.Bor.{Bor}
use Rattle.std.specs.Prelude.{◌≢◌, ◌⊎◌, codes, not}
use Rattle.std.specs.Fmt.{decimal}
use Rattle.std.proofs.lemmas.Bool.Decides.{eqb_tells}
use Rattle.std.proofs.lemmas.Fmt.{digits_decimal}
use Rattle.std.proofs.lemmas.Str.Parse.{not_in_digits}
use Rattle.std.proofs.lemmas.Str.Pattern.{IsSplitOnceResult, split_after, split_parts}
use Rattle.std.proofs.lemmas.Option.{none-some, same_Some}
use Rattle.recording_names.specs.FinishedNames.{IsCopy, copy_text, finished_text, name_of_finished}
use Rattle.recording_names.specs.SessionNames.{AreInRange, HasNoHyphen, SessionParts, hyphened, number_text, session_text}
use Rattle.recording_names.specs.declared.transport.Transport.{Transport}
use Rattle.recording_names.specs.declared.transport.Transport.TheVariants.{Connection, Datagrams}
use Rattle.recording_names.proofs.Hyphens.{digits, one_split, before_number}

-- ---- texts that don't have a character

abbrev HasNo : ℕ → List ℕ → Type 0
HasNo c text = (i : ℕ) → i < length text → get_or text i 0 ≢ c

none_in-cons : (c b : ℕ) (text : List ℕ) → b ≢ c → HasNo c text → HasNo c (b ∷ text)
none_in-cons c b text head tail zero within = head
none_in-cons c b text head tail (suc i) within = tail i (omega (arith, within))

none_in-append : (c : ℕ) (xs ys : List ℕ) → HasNo c xs → HasNo c ys → HasNo c (xs ++ ys)
none_in-append c [] ys none more = more
none_in-append c (x ∷ xs) ys none more =
    none_in-cons c x (xs ++ ys) (none 0 (omega arith)) (none_in-append c xs ys (λ i within. none (suc i) (omega (arith, within))) more)

no_digit : (c n : ℕ) → c < 48 → n < 2 ^ 64 → HasNo c (decimal n)
no_digit c n low small i within = not_in_digits digits (decimal n) c (digits_decimal digits n small) (λ r. omega (arith, r.0, low)) i within

none_in-nothing : {c : ℕ} → HasNo c []
none_in-nothing i within = absurd (omega (arith, within))

no_ending : (c : ℕ) → c < 48 → HasNo c (codes "ipfix")
no_ending c low =
    none_in-cons c 105 (112 ∷ 102 ∷ 105 ∷ 120 ∷ []) (λ e. omega (arith, e, low)) (none_in-cons c 112 (102 ∷ 105 ∷ 120 ∷ []) (λ e. omega (arith, e, low)) (none_in-cons c 102 (105 ∷ 120 ∷ []) (λ e. omega (arith, e, low))
    (none_in-cons c 105 (120 ∷ []) (λ e. omega (arith, e, low)) (none_in-cons c 120 [] (λ e. omega (arith, e, low)) none_in-nothing))))

number_has_no : (c : ℕ) (transport : Transport) (number : ℕ) → c < 48 → number < 2 ^ 64 → HasNo c (number_text transport number)
number_has_no c Connection number low small = no_digit c number low small
number_has_no c Datagrams number low small = none_in-cons c 117 (decimal number) (λ e. omega (arith, e, low)) (no_digit c number low small)

-- ---- endings

abbrev numbered : ℕ → List ℕ
numbered copy = decimal copy ++ 46 ∷ codes "ipfix"

copy_cases : (copy : ℕ) → ((copy ≡ 1) × (copy_text copy ≡ codes "ipfix")) ⊎ ((copy ≢ 1) × (copy_text copy ≡ numbered copy))
copy_cases copy = elim (eqb_tells copy 1) [ inl h ↦ inl (h.1, rw h.0 refl) | inr h ↦ inr (h.1, rw h.0 refl) ]

pub copy_is : (copy : ℕ) (ending digits rest : List ℕ) → 1 < copy → ending ≡ digits ++ 46 ∷ rest → digits ≡ decimal copy → rest ≡ codes "ipfix" → ending ≡ copy_text copy
copy_is copy ending digits rest more is front back =
    is ∙ ap (λ (w : List ℕ). w ++ 46 ∷ rest) front ∙ ap (λ (w : List ℕ). decimal copy ++ 46 ∷ w) back
    ∙ elim (copy_cases copy) [ inl h ↦ absurd (omega (arith, more, h.0)) | inr h ↦ sym h.1 ]

pub copy_none : (ending : List ℕ) → ending ≢ codes "ipfix" → ((k : ℕ) → 1 < k → k < 2 ^ 64 → ending ≢ numbered k) → (copy : ℕ) → IsCopy copy → ending ≢ copy_text copy
copy_none ending other none copy range is =
    elim (copy_cases copy) [ inl h ↦ other (is ∙ h.1) | inr h ↦ none copy (at_least h.0) range.1 (is ∙ h.1) ]
  where
    at_least : copy ≢ 1 → 1 < copy
    at_least differs = omega (arith, range.0, differs)

copy_has_no_hyphen : (copy : ℕ) → copy < 2 ^ 64 → HasNo 45 (copy_text copy)
copy_has_no_hyphen copy small =
    elim (copy_cases copy) [
      | inl h ↦ rw h.1 (no_ending 45 (omega arith))
      | inr h ↦ rw h.1 (none_in-append 45 (decimal copy) (46 ∷ codes "ipfix") (no_digit 45 copy (omega arith) small) (none_in-cons 45 46 (codes "ipfix") (λ e. omega (arith, e)) (no_ending 45 (omega arith))))
    ]

-- ---- the first dot of a text

pub dot_found : (text : List ℕ) (r : Option (Bor (List ℕ) × Bor (List ℕ))) (front back : Bor (List ℕ)) → IsSplitOnceResult 46 text r → r ≡ Some (front, back) → text ≡ front.now ++ 46 ∷ back.now
dot_found text None front back split some = absurd (none-some (front, back) some)
dot_found text (Some x) front back split some =
    (split_parts 46 text (Some x) split (omega arith)).0 ∙ ap (λ (y : Bor (List ℕ) × Bor (List ℕ)). y.0.now ++ 46 ∷ y.1.now) (same_Some x (front, back) some)

pub dot_parts : (text xs ys : List ℕ) (r : Option (Bor (List ℕ) × Bor (List ℕ))) (front back : Bor (List ℕ)) → IsSplitOnceResult 46 text r → r ≡ Some (front, back) → text ≡ xs ++ 46 ∷ ys → HasNo 46 xs → (front.now ≡ xs) × (back.now ≡ ys)
dot_parts text xs ys None front back split some is none = absurd (none-some (front, back) some)
dot_parts text xs ys (Some x) front back split some is none =
    let e = same_Some x (front, back) some in
    let p = split_after 46 text xs ys (Some x) split (omega arith) is none in
    (ap (λ (y : Bor (List ℕ) × Bor (List ℕ)). y.0.now) (sym e) ∙ p.0, ap (λ (y : Bor (List ℕ) × Bor (List ℕ)). y.1.now) (sym e) ∙ p.1)

pub not_dotted : (text xs ys : List ℕ) (r : Option (Bor (List ℕ) × Bor (List ℕ))) → IsSplitOnceResult 46 text r → r ≡ None → HasNo 46 xs → text ≢ xs ++ 46 ∷ ys
not_dotted text xs ys None split nothing none is = split_after 46 text xs ys None split (omega arith) is none
not_dotted text xs ys (Some x) split nothing none is = absurd (none-some x (sym nothing))

-- a numbered ending has one before its number
pub digits_parts : (text : List ℕ) (k : ℕ) (r : Option (Bor (List ℕ) × Bor (List ℕ))) (front back : Bor (List ℕ)) → IsSplitOnceResult 46 text r → r ≡ Some (front, back) → k < 2 ^ 64 → text ≡ numbered k → (front.now ≡ decimal k) × (back.now ≡ codes "ipfix")
digits_parts text k r front back split some small is = dot_parts text (decimal k) (codes "ipfix") r front back split some is (no_digit 46 k (omega arith) small)

pub not_numbered : (text : List ℕ) (r : Option (Bor (List ℕ) × Bor (List ℕ))) → IsSplitOnceResult 46 text r → r ≡ None → (k : ℕ) → k < 2 ^ 64 → text ≢ numbered k
not_numbered text r split nothing k small is = not_dotted text (decimal k) (codes "ipfix") r split nothing (no_digit 46 k (omega arith) small) is

-- ---- whole names

finished_parts : (address : List ℕ) (port : ℕ) (transport : Transport) (number copy : ℕ)
    → name_of_finished (session_text address port transport number) copy ≡ hyphened (hyphened address (decimal port)) (number_text transport number ++ 46 ∷ copy_text copy)
finished_parts address port transport number copy =
    ap (λ (w : List ℕ). w ++ 46 ∷ copy_text copy) (before_number address port transport number)
    ∙ append_assoc (hyphened address (decimal port)) (45 ∷ number_text transport number) (46 ∷ copy_text copy)

-- what is read of the parts is read of the name
pub name_is : (name peer rest number ending address : List ℕ) (port : ℕ) (transport : Transport) (number_is copy : ℕ) → name ≡ hyphened peer rest → rest ≡ number ++ 46 ∷ ending → ending ≡ copy_text copy
    → peer ≡ hyphened address (decimal port) → number ≡ number_text transport number_is → name ≡ name_of_finished (session_text address port transport number_is) copy
name_is name peer rest number ending address port transport number_is copy is rest_is ending_is peer_is number_text_is =
    is ∙ ap (hyphened peer) (rest_is ∙ ap (λ (w : List ℕ). number ++ 46 ∷ w) ending_is ∙ ap (λ (w : List ℕ). w ++ 46 ∷ copy_text copy) number_text_is)
    ∙ ap (λ (w : List ℕ). hyphened w (number_text transport number_is ++ 46 ∷ copy_text copy)) peer_is ∙ sym (finished_parts address port transport number_is copy)

module _ (name : List ℕ) (s : SessionParts) (copy : ℕ) (range : AreInRange s) (few : IsCopy copy) (is : name ≡ finished_text s copy) where
  pub has_hyphen : name ≡ hyphened (hyphened s.address (decimal s.port)) (number_text s.transport s.number ++ 46 ∷ copy_text copy)
  has_hyphen = is ∙ finished_parts s.address s.port s.transport s.number copy

  pub at_hyphen : (peer rest : List ℕ) → (name ≡ hyphened peer rest) × HasNoHyphen rest → (peer ≡ hyphened s.address (decimal s.port)) × (rest ≡ number_text s.transport s.number ++ 46 ∷ copy_text copy)
  at_hyphen peer rest split =
      one_split peer (hyphened s.address (decimal s.port)) rest (number_text s.transport s.number ++ 46 ∷ copy_text copy) split.1
      (none_in-append 45 (number_text s.transport s.number) (46 ∷ copy_text copy) (number_has_no 45 s.transport s.number (omega arith) range.1) (none_in-cons 45 46 (copy_text copy) (λ e. omega (arith, e)) (copy_has_no_hyphen copy few.1)))
      (sym split.0 ∙ has_hyphen)

pub number_no_dot : (transport : Transport) (number : ℕ) → number < 2 ^ 64 → HasNo 46 (number_text transport number)
number_no_dot transport number small = number_has_no 46 transport number (omega arith) small

-- ---- what `!=` answers

pub differ : (b r : Bool) → r ≡ not b → r ≡ true → b ≡ true → ⊥
differ true r is passed same = let wrong : false ≡ true = sym is ∙ passed in absurd cc
differ false r is passed same = absurd cc

pub alike : (b r : Bool) → r ≡ not b → r ≡ false → b ≡ true
alike true r is no_difference = refl
alike false r is no_difference = let wrong : true ≡ false = sym is ∙ no_difference in absurd cc
