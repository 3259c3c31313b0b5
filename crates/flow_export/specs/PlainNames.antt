-- Names as files have them.
use Rattle.std.specs.Prelude.{◌≡◌, ℕ, ◌==◌, ◌||◌, Bool, List, true}
use Rattle.std.specs.List.{list_all}
use Rattle.ipfix_elements.specs.Ascii.{dot}
use Rattle.element_registry.specs.Registries.{Known}
use Rattle.element_registry.specs.Rows.{is_name_octet}

-- a letter, a digit, _, - or a dot
abbrev pub is_plain_octet : ℕ → Bool
is_plain_octet b = is_name_octet b || (b == dot)

abbrev pub has_plain_name : Known → Bool
has_plain_name k = list_all is_plain_octet k.name

abbrev pub have_plain_names : List Known → Bool
have_plain_names known = list_all has_plain_name known

abbrev pub HavePlainNames : List Known → Type 0
HavePlainNames known = have_plain_names known ≡ true

-- what files say of elements, by plain names
pub record PlainElements : Type 0 where
  pub known : List Known
  pub plain : HavePlainNames known
