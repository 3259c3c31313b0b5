-- The string in a field.
use Rattle.std.proofs.Common.{◌≡◌, ℕ, Bool, true, false, List, Option, Some, None, sym, ap, subst, ◌∙◌, refl}
use Rattle.std.specs.Prelude.{if◌then◌else◌}
use Rattle.std.specs.Str.{IsUtf8, is_utf8}
use Rattle.std.proofs.lemmas.Str.{is_utf8-from_IsUtf8, IsUtf8-from_is_utf8}
use Rattle.element_values.specs.Strings.{string_in, without_zeros}

abbrev if_string : List ℕ → Bool → Option (List ℕ)
if_string octets is = if is then Some (without_zeros octets) else None

pub is_string : (octets t s : List ℕ) → t ≡ without_zeros octets → s ≡ t → IsUtf8 t → Some s ≡ string_in octets
is_string octets t s e same spelled =
    ap Some (same ∙ e) ∙ sym (ap (if_string octets) (is_utf8-from_IsUtf8 _ (subst (λ (x : List ℕ). IsUtf8 x) e spelled)))

pub no_string : (octets t : List ℕ) → t ≡ without_zeros octets → ¬ (IsUtf8 t) → None ≡ string_in octets
no_string octets t e not = by (is_utf8 (without_zeros octets)) refl where
  by : (b : Bool) → is_utf8 (without_zeros octets) ≡ b → None ≡ string_in octets
  by true h = absurd (not (subst (λ (x : List ℕ). IsUtf8 x) (sym e) (IsUtf8-from_is_utf8 _ h)))
  by false h = sym (ap (if_string octets) h)
