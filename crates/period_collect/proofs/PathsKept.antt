-- Paths that are kept one after another.
use Rattle.std.proofs.Common.{◌≡◌, ◌<◌, ℕ, suc, ◌+◌, get_or, map, take, List, [], ◌∷◌, ◌++◌, length, Bool, true, false, refl, sym, ap, ◌∙◌, append-nil, arith}
use Rattle.std.specs.Prelude.{if◌then◌else◌}
use Rattle.std.specs.Borrow.{Bor}
use Rattle.std.proofs.lemmas.List.{length-map, length-take-le, map-append, take_more}
use Rattle.period_collect.specs.LeftOutFiles.{is_among, kept_from, kept_of, places_kept}

-- what is kept of the last path
abbrev pub last_kept : List ℕ → ℕ → List ℕ → List (List ℕ)
last_kept out place path = if is_among out place then [] else path ∷ []

abbrev picked : Bool → List ℕ → List (List ℕ) → List (List ℕ)
picked goes path paths = if goes then paths else path ∷ paths

picked_append : (goes : Bool) (path : List ℕ) (xs ys : List (List ℕ)) → picked goes path (xs ++ ys) ≡ picked goes path xs ++ ys
picked_append true path xs ys = refl
picked_append false path xs ys = refl

one_more : (place : ℕ) (out : List ℕ) (paths : List (List ℕ)) (path : List ℕ) (n : ℕ) → n ≡ place + length paths
    → kept_from place out (paths ++ path ∷ []) ≡ kept_from place out paths ++ last_kept out n path
one_more place out [] path n is =
    let same : n ≡ place = omega (arith, is) in
    sym (ap (λ (m : ℕ). last_kept out m path) same)
one_more place out (x ∷ xs) path n is =
    let same : n ≡ suc place + length xs = omega (arith, is) in
    ap (picked (is_among out place) x) (one_more (suc place) out xs path n same)
    ∙ picked_append (is_among out place) x (kept_from (suc place) out xs) (last_kept out n path)

last_of : (goes : Bool) (path : List ℕ) → goes ≡ false → picked goes path [] ≡ path ∷ []
last_of goes path is = ap (λ (b : Bool). picked b path []) is

none_of : (goes : Bool) (path : List ℕ) → goes ≡ true → picked goes path [] ≡ []
none_of goes path is = ap (λ (b : Bool). picked b path []) is

from_zero : (n m : ℕ) → n ≡ m → n ≡ 0 + m
from_zero n m is = omega (arith, is)

-- one that is at none of the places, and one that is at one
pub kept_more : (out : List ℕ) (paths : List (List ℕ)) (path : List ℕ) (n : ℕ) → n ≡ length paths → is_among out n ≡ false
    → kept_of out (paths ++ path ∷ []) ≡ kept_of out paths ++ path ∷ []
kept_more out paths path n is goes =
    one_more 0 out paths path n (from_zero n (length paths) is) ∙ ap (λ (last : List (List ℕ)). kept_of out paths ++ last) (last_of _ path goes)

pub left_more : (out : List ℕ) (paths : List (List ℕ)) (path : List ℕ) (n : ℕ) → n ≡ length paths → is_among out n ≡ true
    → kept_of out (paths ++ path ∷ []) ≡ kept_of out paths
left_more out paths path n is goes =
    one_more 0 out paths path n (from_zero n (length paths) is) ∙ ap (λ (last : List (List ℕ)). kept_of out paths ++ last) (none_of _ path goes) ∙ append-nil (kept_of out paths)

-- ---- in a loop over them

abbrev texts : List (Bor (List ℕ)) → List (List ℕ)
texts words = map (λ (w : Bor (List ℕ)). w.now) words

taken : (words : List (Bor (List ℕ))) (place : ℕ) (d : Bor (List ℕ)) → place < length words → texts (take (place + 1) words) ≡ texts (take place words) ++ (get_or words place d).now ∷ []
taken words place d less = ap texts (take_more words place d less) ∙ map-append (λ (w : Bor (List ℕ)). w.now) (take place words) (get_or words place d ∷ [])

so_many : (words : List (Bor (List ℕ))) (place : ℕ) → place < length words → place ≡ length (texts (take place words))
so_many words place less = omega (arith, length-map (take place words) (λ (w : Bor (List ℕ)). w.now), length-take-le place words (omega (arith, less)))

pub kept_on : (out : List ℕ) (words : List (Bor (List ℕ))) (place : ℕ) (d : Bor (List ℕ)) (kept longer : List (Bor (List ℕ))) → place < length words → is_among out place ≡ false
    → texts kept ≡ kept_of out (texts (take place words)) → longer ≡ kept ++ get_or words place d ∷ [] → texts longer ≡ kept_of out (texts (take (place + 1) words))
kept_on out words place d kept longer less goes so_far is =
    ap texts is ∙ map-append (λ (w : Bor (List ℕ)). w.now) kept (get_or words place d ∷ []) ∙ ap (λ (t : List (List ℕ)). t ++ (get_or words place d).now ∷ []) so_far
    ∙ sym (kept_more out (texts (take place words)) (get_or words place d).now place (so_many words place less) goes) ∙ ap (kept_of out) (sym (taken words place d less))

left_at : (out : List ℕ) (words : List (Bor (List ℕ))) (place : ℕ) (d : Bor (List ℕ)) (kept : List (Bor (List ℕ))) → place < length words → is_among out place ≡ true
    → texts kept ≡ kept_of out (texts (take place words)) → texts kept ≡ kept_of out (texts (take (place + 1) words))
left_at out words place d kept less goes so_far =
    so_far ∙ sym (left_more out (texts (take place words)) (get_or words place d).now place (so_many words place less) goes) ∙ ap (kept_of out) (sym (taken words place d less))

pub left_on : (out : List ℕ) (words : List (Bor (List ℕ))) (place : ℕ) (kept : List (Bor (List ℕ))) → place < length words → is_among out place ≡ true
    → texts kept ≡ kept_of out (texts (take place words)) → texts kept ≡ kept_of out (texts (take (place + 1) words))
left_on out [] place kept less goes so_far = absurd (omega (arith, less))
left_on out (word ∷ words) place kept less goes so_far = left_at out (word ∷ words) place word kept less goes so_far

-- ---- their places

pub place_on : (out : List ℕ) (place : ℕ) (kept longer : List ℕ) → is_among out place ≡ false → kept ≡ places_kept out place → longer ≡ kept ++ place ∷ [] → longer ≡ places_kept out (place + 1)
place_on out place kept longer goes so_far is =
    let next : place + 1 ≡ suc place = omega (arith) in
    is ∙ ap (λ (k : List ℕ). k ++ place ∷ []) so_far ∙ sym (ap (places_kept out) next ∙ ap (λ (b : Bool). places_kept out place ++ (if b then [] else place ∷ [])) goes)

pub place_left : (out : List ℕ) (place : ℕ) (kept : List ℕ) → is_among out place ≡ true → kept ≡ places_kept out place → kept ≡ places_kept out (place + 1)
place_left out place kept goes so_far =
    let next : place + 1 ≡ suc place = omega (arith) in
    so_far ∙ sym (ap (places_kept out) next ∙ ap (λ (b : Bool). places_kept out place ++ (if b then [] else place ∷ [])) goes ∙ append-nil (places_kept out place))
