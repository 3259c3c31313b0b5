-- Sources that came one after another.
use Rattle.std.proofs.Common.{◌≡◌, ℕ, ◌+◌, ◌<◌, ◌≤◌, List, [], ◌∷◌, ◌++◌, length, take, get_or, All, Option, None, Some, refl, sym, ap, ◌∙◌, subst, append_assoc, arith}
use Rattle.std.proofs.lemmas.List.{length-append, take_more, take_all}
use Rattle.std.proofs.lemmas.List.Elements.{All-push}
use Rattle.std.proofs.lemmas.Slice.Zip.{all_zipped_more}
use Rattle.std.specs.List.{AllZip}
use Rattle.input_sources.specs.Had.{NextOnes}

pub NextOnes-nil : {S : Type 0} (a : Option (List S)) → NextOnes a a []
NextOnes-nil None = tt
NextOnes-nil (Some all) = refl

pub NextOnes-trans : {S : Type 0} (a b c : Option (List S)) (xs ys : List S) → NextOnes a b xs → NextOnes b c ys → NextOnes a c (xs ++ ys)
NextOnes-trans None b c xs ys first then = tt
NextOnes-trans (Some all) None c xs ys first then = absurd first
NextOnes-trans (Some all) (Some left) None xs ys first then = absurd then
NextOnes-trans (Some all) (Some left) (Some rest) xs ys first then = first ∙ ap (λ l. xs ++ l) then ∙ sym (append_assoc xs ys rest)

-- one more
pub one_came : {S : Type 0} (a b c : Option (List S)) (had new : List S) (source : S) → new ≡ had ++ source ∷ [] → NextOnes a b had → NextOnes b c (source ∷ []) → NextOnes a c new
one_came a b c had new source is first one = rw is (NextOnes-trans a b c had (source ∷ []) first one)

-- ---- sources that are opened by their paths

module _ {P S : Type 0} (opens : P → S → Type 0) where
  -- one more path
  pub one_opened : (paths : List P) (i : ℕ) (path : P) (had new : List S) (source : S) → i < length paths → new ≡ had ++ source ∷ [] → AllZip opens (take i paths) had → opens (get_or paths i path) source
      → AllZip opens (take (i + 1) paths) new
  one_opened paths i path had new source less is first one =
      rw is (subst (λ (ps : List P). AllZip opens ps (had ++ source ∷ [])) (sym (take_more paths i path less)) (all_zipped_more opens (take i paths) had (get_or paths i path) source first one))

  -- all of them
  pub all_opened : (paths : List P) (i : ℕ) (had : List S) → length paths ≤ i → AllZip opens (take i paths) had → AllZip opens paths had
  all_opened paths i had all first = subst (λ (ps : List P). AllZip opens ps had) (take_all i paths all) first

-- ---- sources that are accepted

pub one_longer : {X : Type 0} (old new : List X) (x : X) (n : ℕ) → new ≡ old ++ x ∷ [] → length old ≡ n → length new ≡ n + 1
one_longer old new x n is count = let both = length-append old (x ∷ []) in rw is (omega (arith, both, count))

pub one_more : {X : Type 0} (P : X → Type 0) (old new : List X) (x : X) → new ≡ old ++ x ∷ [] → All P old → P x → All P new
one_more P old new x is all one = rw is (All-push P old x all one)

-- and their peers
pub one_peer : {S X : Type 0} (P : S → X → Type 0) (sources more : List S) (origins all : List X) (source : S) (origin : X) → more ≡ sources ++ source ∷ [] → all ≡ origins ++ origin ∷ [] → AllZip P sources origins → P source origin
    → AllZip P more all
one_peer P sources more origins all source origin is_more is_all first one = rw (is_more, is_all) (all_zipped_more P sources origins source origin first one)
