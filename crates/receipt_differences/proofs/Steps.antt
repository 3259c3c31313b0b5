-- Lines that are told after others.
use Rattle.std.proofs.Common.{◌≡◌, ◌∙◌, ℕ, ◌+◌, ◌<◌, List, [], ◌∷◌, ◌++◌, length, map, take, get_or, refl, sym, ap, subst}
use Rattle.std.specs.Prelude.{Option, Result, Ok, Err}
use Rattle.std.specs.List.{flat_map}
use Rattle.std.specs.Io.KnownBytes.{Appends}
use Rattle.std.proofs.KnownBytes.{Appends-trans}
use Rattle.std.proofs.lemmas.List.{flat_map_more, take_more}
use Rattle.report_writing.specs.Lines.{LinesView}
use Rattle.report_writing.specs.Writing.{Tells}

-- what a call tells after what was told before
pub after : {W A E : Type 0} (out_lines : W → LinesView) (old mid new : W) (r : Result A E) (xs ys : List ℕ)
    → Appends (out_lines old).contents (out_lines mid).contents xs → ((out_lines old).failed → (out_lines mid).failed) → Tells out_lines mid new r ys → Tells out_lines old new r (xs ++ ys)
after out_lines old mid new (Ok v) xs ys told kept tells =
    record { told = Appends-trans (out_lines old).contents (out_lines mid).contents (out_lines new).contents xs ys told tells.told; failed = tells.failed; kept = λ failed. tells.kept (kept failed) }
after out_lines old mid new (Err e) xs ys told kept tells =
    record { told = tells.told; failed = tells.failed; kept = λ failed. tells.kept (kept failed) }

-- and the lines of one more
pub one_more : {X : Type 0} (f : X → List ℕ) (old mid new : Option (List ℕ)) (xs : List X) (i : ℕ) (x : X) → i < length xs → x ≡ get_or xs i x
    → Appends old mid (flat_map f (take i xs)) → Appends mid new (f x) → Appends old new (flat_map f (take (i + 1) xs))
one_more f old mid new xs i x within is so_far line =
    let next : take (i + 1) xs ≡ take i xs ++ x ∷ [] = take_more xs i x within ∙ ap (λ y. take i xs ++ y ∷ []) (sym is) in
    let lines : flat_map f (take i xs) ++ f x ≡ flat_map f (take (i + 1) xs) = flat_map_more f [] (take i xs) x ∙ ap (flat_map f) (sym next) in
    subst (λ l. Appends old new l) lines (Appends-trans old mid new (flat_map f (take i xs)) (f x) so_far line)

-- the lines of values
pub of_values : {X Y : Type 0} (f : Y → List ℕ) (value : X → Y) (xs : List X) → flat_map f (map value xs) ≡ flat_map (λ x. f (value x)) xs
of_values f value [] = refl
of_values f value (x ∷ xs) = ap (λ l. f (value x) ++ l) (of_values f value xs)
