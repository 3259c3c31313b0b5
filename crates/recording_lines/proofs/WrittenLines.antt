-- Of lines that are written in one piece nothing is kept back.
use Rattle.std.proofs.Common.{◌≡◌, ℕ, true, false, List, [], ◌∷◌, ◌++◌, Option, Some, None, inl, inr, refl, sym, ap, ◌∙◌, append-nil}
use Rattle.std.proofs.lemmas.Slice.Eq.{ends_is}
use Rattle.std.proofs.lemmas.Bool.Decides.{Decides-eqb}
use Rattle.std.specs.Prelude.{codes, if◌then◌else◌, ◌⊎◌}
use Rattle.std.specs.Io.KnownBytes.{append_known}
use Rattle.recording_lines.specs.WholeLines.{has_ended, written_with}

both_empty : (xs ys : List ℕ) → xs ++ ys ≡ [] → ys ≡ []
both_empty [] ys h = h
both_empty (x ∷ xs) ys h = absurd cc

-- what two texts end with the second ends with, if it has anything
second_ends : (xs ys text : List ℕ) (b : ℕ) → xs ++ ys ≡ text ++ b ∷ [] → (ys ≡ []) ⊎ ((front : List ℕ) × (ys ≡ front ++ b ∷ []))
second_ends [] ys text b h = inr (text, h)
second_ends (x ∷ xs) ys [] b h = inl (both_empty xs ys cc)
second_ends (x ∷ xs) ys (c ∷ text) b h = second_ends xs ys text b cc

ended_if : (line front : List ℕ) → line ≡ front ++ 10 ∷ [] → has_ended line ≡ true
ended_if line front h = (ends_is Decides-eqb line (10 ∷ []) (has_ended line) refl).1 front h

all_written : (xs line text : List ℕ) → has_ended line ≡ false → xs ++ line ≡ text ++ 10 ∷ [] → xs ≡ text ++ 10 ∷ []
all_written xs line text begun h = elim (second_ends xs line text 10 h) [
  | inl none ↦ sym (append-nil xs) ∙ ap (λ l. xs ++ l) (sym none) ∙ h
  | inr ends ↦ absurd (cc (ended_if line ends.0 ends.1))
]

by_writer : (written : Option (List ℕ)) (line text : List ℕ) → has_ended line ≡ false → append_known written line ≡ Some (text ++ 10 ∷ []) → written ≡ Some (text ++ 10 ∷ [])
by_writer None line text begun known = absurd cc
by_writer (Some xs) line text begun known = ap (λ (l : List ℕ). Some l) (all_written xs line text begun cc)

pub nothing_kept_back : (written : Option (List ℕ)) (line text : List ℕ) → written_with written line ≡ Some (text ++ codes "\n") → written ≡ Some (text ++ codes "\n")
nothing_kept_back written line text h = (elim (has_ended line) as (λ b. has_ended line ≡ b → (if b then None else append_known written line) ≡ Some (text ++ 10 ∷ []) → written ≡ Some (text ++ 10 ∷ [])) [
  | true ↦ λ ended none. absurd cc
  | false ↦ λ begun known. by_writer written line text begun known
]) refl h
