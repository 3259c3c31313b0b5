-- What the laws of elements from files say.
use Rattle.std.specs.Prelude.{◌≡◌, ℕ, true, List, Some, is_some}
use Rattle.ipfix_wire.specs.declared.specifier.ElementId.{ElementId}
use Rattle.ipfix_elements.specs.Elements.{entry_of, kind_of}
use Rattle.ipfix_elements.specs.Names.{IsElement, name_text, element_named}
use Rattle.element_registry.specs.declared.kind.ElementKind.TheVariants.{Plain}
use Rattle.element_registry.specs.Registries.{Known, IsElementName, element_kind, element_name, element_by_name}

module _ (known : List Known) where
  -- built-in elements are as without files, and so is each text that names an element without files
  pub record KeepsBuiltIn : Type 0 where
    pub kind : (e : ElementId) → is_some (entry_of e) ≡ true → element_kind known e ≡ Plain (kind_of e)
    pub name : (e : ElementId) → is_some (entry_of e) ≡ true → element_name known e ≡ name_text e
    pub named : (t : List ℕ) (e : ElementId) → element_named t ≡ Some e → element_by_name known t ≡ Some e

  -- a text is read as the element of which it is a name; what is written for an element is read as that one, and no two
  -- elements are written alike
  pub record ReadsBack : Type 0 where
    pub found : (t : List ℕ) (e : ElementId) → element_by_name known t ≡ Some e → IsElementName known e t
    pub only : (t : List ℕ) (e : ElementId) → IsElementName known e t → element_by_name known t ≡ Some e
    pub written : (e : ElementId) → IsElement e → element_by_name known (element_name known e) ≡ Some e
    pub apart : (d e : ElementId) → IsElement d → IsElement e → element_name known d ≡ element_name known e → d ≡ e

-- two lists say the same of each element, and of each text
pub record SayTheSame (a b : List Known) : Type 0 where
  pub kind : (e : ElementId) → element_kind a e ≡ element_kind b e
  pub name : (e : ElementId) → element_name a e ≡ element_name b e
  pub named : (t : List ℕ) → element_by_name a t ≡ element_by_name b t
