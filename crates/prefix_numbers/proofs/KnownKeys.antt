-- The keys of the prefixes of rows.
use Rattle.std.proofs.Common.{◌≡◌, ℕ, Bool, true, false, List, [], ◌∷◌, ◌++◌, map, sym, ap, subst, ◌∙◌, refl}
use Rattle.std.specs.Prelude.{◌==◌, ◌&&◌, ◌||◌, not, MatchBool, IsPermutation}
use Rattle.std.specs.List.{list_any}
use Rattle.std.proofs.lemmas.Bool.{MatchBool-at_true, not-true, not-false}
use Rattle.std.proofs.lemmas.List.{map_push}
use Rattle.std.proofs.lemmas.List.Sorted.{IsPermutation-push_more, list_any-IsPermutation}
use Rattle.network_prefixes.specs.declared.prefix.Prefix.{Prefix}
use Rattle.prefix_numbers.specs.declared.row.NumberedPrefix.{NumberedPrefix}
use Rattle.prefix_numbers.specs.Keys.{key_of}
use Rattle.prefix_numbers.specs.Texts.{has_prefix, is_same}

abbrev pub same_key : ℕ × ℕ × ℕ → ℕ × ℕ × ℕ → Bool
same_key x y = ((x.0 == y.0) && (x.1 == y.1)) && (x.2 == y.2)

abbrev pub row_key : NumberedPrefix → ℕ × ℕ × ℕ
row_key row = key_of row.prefix

any_key : (rows : List NumberedPrefix) (p : Prefix) → list_any (same_key (key_of p)) (map row_key rows) ≡ has_prefix rows p
any_key [] p = refl
any_key (row ∷ rows) p = ap (λ (b : Bool). is_same p row.prefix || b) (any_key rows p)

-- the keys of rows have that of a prefix just where one of the rows has the prefix
known_is : (rows : List NumberedPrefix) (keys : List (ℕ × ℕ × ℕ)) (p : Prefix) → IsPermutation (map row_key rows) keys → list_any (same_key (key_of p)) keys ≡ has_prefix rows p
known_is rows keys p same = sym (list_any-IsPermutation (same_key (key_of p)) (map row_key rows) keys same) ∙ any_key rows p

added_is : (rows : List NumberedPrefix) (keys : List (ℕ × ℕ × ℕ)) (p : Prefix) (key : ℕ × ℕ × ℕ) (added : Bool) → key ≡ key_of p → IsPermutation (map row_key rows) keys → added ≡ not (list_any (same_key key) keys) → added ≡ not (has_prefix rows p)
added_is rows keys p key added is same h = h ∙ ap (λ (k : ℕ × ℕ × ℕ). not (list_any (same_key k) keys)) is ∙ ap not (known_is rows keys p same)

-- a key that was not new, and one that was
pub again : (rows : List NumberedPrefix) (keys : List (ℕ × ℕ × ℕ)) (p : Prefix) (key : ℕ × ℕ × ℕ) (added : Bool) → key ≡ key_of p → IsPermutation (map row_key rows) keys → added ≡ not (list_any (same_key key) keys) → added ≡ false → has_prefix rows p ≡ true
again rows keys p key added is same h old = not-false _ (sym (added_is rows keys p key added is same h) ∙ old)

pub is_new : (rows : List NumberedPrefix) (keys : List (ℕ × ℕ × ℕ)) (p : Prefix) (key : ℕ × ℕ × ℕ) (added : Bool) → key ≡ key_of p → IsPermutation (map row_key rows) keys → added ≡ not (list_any (same_key key) keys) → added ≡ true → has_prefix rows p ≡ false
is_new rows keys p key added is same h new = not-true _ (sym (added_is rows keys p key added is same h) ∙ new)

-- the keys are those of the rows and one more
pub keys_more : (rows more : List NumberedPrefix) (row : NumberedPrefix) (keys new : List (ℕ × ℕ × ℕ)) (key : ℕ × ℕ × ℕ) (added : Bool) (Q : Type 0) → key ≡ key_of row.prefix → added ≡ true → more ≡ rows ++ row ∷ [] → IsPermutation (map row_key rows) keys
    → MatchBool added (IsPermutation (key ∷ keys) new) Q → IsPermutation (map row_key more) new
keys_more rows more row keys new key added Q is is_so items same h =
    let put = MatchBool-at_true (IsPermutation (key ∷ keys) new) Q is_so h in
    subst (λ (l : List (ℕ × ℕ × ℕ)). IsPermutation l new) (sym (ap (map row_key) items ∙ map_push row_key rows row))
    (subst (λ (k : ℕ × ℕ × ℕ). IsPermutation (map row_key rows ++ k ∷ []) new) is (IsPermutation-push_more (map row_key rows) keys new key same put))
