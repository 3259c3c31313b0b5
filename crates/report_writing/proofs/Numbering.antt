-- One session more after others.
use Rattle.std.proofs.Common.{◌≡◌, ℕ, ◌+◌, ◌<◌, List, [], ◌∷◌, ◌++◌, length, take, get_or, sym, ap, ◌∙◌, arith, append-nil, length-take-le}
use Rattle.std.specs.List.{flat_map, enumerate_from}
use Rattle.std.proofs.lemmas.List.{take_more}
use Rattle.std.proofs.lemmas.Grind.{flat_map-append}

-- one more after those that are counted
pub enumerate_from-last : {X : Type 0} (n : ℕ) (xs : List X) (y : X) → enumerate_from n (xs ++ y ∷ []) ≡ enumerate_from n xs ++ (n + length xs, y) ∷ []
enumerate_from-last n [] y = ap (λ k. (k, y) ∷ []) (omega arith)
enumerate_from-last n (x ∷ xs) y =
    let k : (n + 1) + length xs ≡ n + length (x ∷ xs) = omega arith in
    ap (λ l. (n, x) ∷ l) (enumerate_from-last (n + 1) xs y ∙ ap (λ k. enumerate_from (n + 1) xs ++ (k, y) ∷ []) k)

-- the lines of things that are counted from a number on
pub numbered_from : {X : Type 0} (lines : ℕ → X → List ℕ) (start : ℕ) (rs : List X) (i n : ℕ) (d : X) → i < length rs → start + i ≡ n
    → flat_map (λ (x : ℕ × X). lines x.0 x.1) (enumerate_from start (take (i + 1) rs)) ≡ flat_map (λ (x : ℕ × X). lines x.0 x.1) (enumerate_from start (take i rs)) ++ lines n (get_or rs i d)
numbered_from {X} lines start rs i n d less is =
    let done = take i rs in
    let each = λ (x : ℕ × X). lines x.0 x.1 in
    let all = λ (l : List X). flat_map each (enumerate_from start l) in
    let k : start + length done ≡ n = omega (arith, length-take-le i rs (omega arith)) in
    ap all (take_more rs i d less) ∙ ap (λ l. flat_map each l) (enumerate_from-last start done (get_or rs i d)) ∙ flat_map-append each (enumerate_from start done) _
    ∙ ap (λ t. all done ++ t) (append-nil _ ∙ ap (λ m. lines m (get_or rs i d)) k)

-- and from 1
pub numbered-more : {X : Type 0} (lines : ℕ → X → List ℕ) (rs : List X) (i : ℕ) (r : X) → i < length rs → r ≡ get_or rs i r
    → flat_map (λ (x : ℕ × X). lines x.0 x.1) (enumerate_from 1 (take (i + 1) rs)) ≡ flat_map (λ (x : ℕ × X). lines x.0 x.1) (enumerate_from 1 (take i rs)) ++ lines (i + 1) r
numbered-more {X} lines rs i r less is =
    numbered_from lines 1 rs i (i + 1) r less (omega arith)
    ∙ ap (λ x. flat_map (λ (y : ℕ × X). lines y.0 y.1) (enumerate_from 1 (take i rs)) ++ lines (i + 1) x) (sym is)

-- one more thing after those that are counted from 1
pub numbered-last : {X : Type 0} (lines : ℕ → X → List ℕ) (rs : List X) (r : X)
    → flat_map (λ (x : ℕ × X). lines x.0 x.1) (enumerate_from 1 (rs ++ r ∷ [])) ≡ flat_map (λ (x : ℕ × X). lines x.0 x.1) (enumerate_from 1 rs) ++ lines (length rs + 1) r
numbered-last {X} lines rs r =
    let each = λ (x : ℕ × X). lines x.0 x.1 in
    let k : 1 + length rs ≡ length rs + 1 = omega arith in
    ap (λ l. flat_map each l) (enumerate_from-last 1 rs r) ∙ flat_map-append each (enumerate_from 1 rs) _
    ∙ ap (λ t. flat_map each (enumerate_from 1 rs) ++ t) (append-nil _ ∙ ap (λ n. lines n r) k)
