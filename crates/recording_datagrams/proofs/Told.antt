-- Texts one after another, and none.
use Rattle.std.proofs.Common.{◌≡◌, ℕ, ◌+◌, ◌<◌, List, [], ◌++◌, length, take, get_or, Option, Result, Ok, Err, sym, ap, subst, ◌∙◌, append-nil}
use Rattle.std.proofs.KnownBytes.{Appends-nil, Appends-trans}
use Rattle.std.proofs.lemmas.Grind.{flat_map-append}
use Rattle.std.proofs.lemmas.List.{take_more}
use Rattle.std.specs.List.{flat_map}
use Rattle.std.specs.Result.{result_and}
use Rattle.std.specs.Io.KnownBytes.{Appends}
use Rattle.report_writing.specs.Lines.{LinesView}
use Rattle.report_writing.specs.Writing.{Tells}

module _ {W : Type 0} {out_lines : W → LinesView} where
  pub tells_nothing : {T E : Type 0} {out : W} {x : T} → Tells {A = T} {E = E} out_lines out out (Ok x) []
  tells_nothing {T} {E} {out} {x} = record { told = Appends-nil (out_lines out).contents; failed = tt; kept = λ f. f }

  tells_both : {T U E : Type 0} (r : Result T E) (s : Result U E) (old mid new : W) (a b : List ℕ)
      → Tells out_lines old mid r a → Tells out_lines mid new s b → Tells out_lines old new (result_and r s) (a ++ b)
  tells_both (Err e) s old mid new a b h k = record { told = tt; failed = k.kept h.failed; kept = λ f. k.kept (h.kept f) }
  tells_both (Ok x) (Err e) old mid new a b h k = record { told = tt; failed = k.failed; kept = λ f. k.kept (h.kept f) }
  tells_both (Ok x) (Ok y) old mid new a b h k = record { told = Appends-trans (out_lines old).contents (out_lines mid).contents (out_lines new).contents a b h.told k.told; failed = tt; kept = λ f. k.kept (h.kept f) }

  -- one text after another; the first error is the answer
  pub and_tells : {T U E : Type 0} {r : Result T E} {s : Result U E} {old mid new : W} {a b : List ℕ}
      → Tells out_lines old mid r a → Tells out_lines mid new s b → Tells out_lines old new (result_and r s) (a ++ b)
  and_tells {T} {U} {E} {r} {s} {old} {mid} {new} {a} {b} h k = tells_both r s old mid new a b h k

-- one line more
one_more_line : {X : Type 0} (lines : X → List ℕ) (xs : List X) (i : ℕ) (x : X) → i < length xs → flat_map lines (take (i + 1) xs) ≡ flat_map lines (take i xs) ++ lines (get_or xs i x)
one_more_line lines xs i x inside =
    ap (λ l. flat_map lines l) (take_more xs i x inside) ∙ flat_map-append lines (take i xs) _
    ∙ ap (λ t. flat_map lines (take i xs) ++ t) (append-nil _)

pub told_more : {X : Type 0} (lines : X → List ℕ) (xs : List X) (i : ℕ) (x : X) (old mid new : Option (List ℕ)) → i < length xs
    → Appends old mid (flat_map lines (take i xs)) → Appends mid new (lines (get_or xs i x)) → Appends old new (flat_map lines (take (i + 1) xs))
told_more lines xs i x old mid new inside h k = subst (Appends old new) (sym (one_more_line lines xs i x inside)) (Appends-trans old mid new _ _ h k)
