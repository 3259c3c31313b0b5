-- What a row of a file says of an element (IANA, "IPFIX Information Elements", as a text of comma-separated values).
use Rattle.std.specs.Prelude.{ℕ, ◌+◌, ◌^◌, ◌==◌, ◌&&◌, ◌||◌, nat_lt, nat_le, not, Bool, false, List, [], ◌∷◌, ◌++◌, length, codes, Option, Some, None, is_some, is_none, option_map, unwrap_or, Result, Ok, Err, if◌then◌else◌}
use Rattle.std.specs.Option.{ok_or}
use Rattle.std.specs.List.{list_all}
use Rattle.std.specs.Char.{is_ascii_alphabetic, is_ascii_alphanumeric}
use Rattle.std.specs.Fmt.{decimal}
use Rattle.std.specs.Str.{bytes_eq}
use Rattle.std.specs.Str.Parse.{digits_value}
use Rattle.csv.specs.Records.{field_at}
use Rattle.ipfix_wire.specs.declared.specifier.ElementId.{ElementId}
use Rattle.ipfix_elements.specs.declared.kind.Kind.TheVariants as kinds
use Rattle.ipfix_elements.specs.declared.kind.Width.TheVariants.{Eight}
use Rattle.ipfix_elements.specs.Elements.{entry_of}
use Rattle.element_registry.specs.declared.kind.ElementKind.{ElementKind}
use Rattle.element_registry.specs.declared.kind.ElementKind.TheVariants.{Plain}
use Rattle.element_registry.specs.declared.columns.Columns.{Columns}
use Rattle.element_registry.specs.declared.fault.Heading.{Heading}
use Rattle.element_registry.specs.declared.fault.Heading.TheVariants as headings
use Rattle.element_registry.specs.declared.entry.Entry as kept
use Rattle.element_registry.specs.declared.fault.ElementsFault.{ElementsFault}
use Rattle.element_registry.specs.declared.fault.ElementsFault.TheVariants.{Column, NotCsv, Number, Enterprise, Name}
use Rattle.element_registry.specs.Faults.{Gives, Read, column_name}
use Rattle.element_registry.specs.Registries.{Known, shown}
use Rattle.element_registry.specs.Types.{kind_named}

-- ---- columns

-- the place of the first field that says t, the first one's being n
abbrev pub place_from : List ℕ → ℕ → List (List ℕ) → Option ℕ
place_from t n [] = None
place_from t n (f ∷ fs) = if bytes_eq f t then Some n else place_from t (n + 1) fs

abbrev pub place_in : List ℕ → List (List ℕ) → Option ℕ
place_in t fields = place_from t 0 fields

abbrev pub and_then : {X Y : Type 0} → Read X → (X → Read Y) → Read Y
and_then (Ok x) f = f x
and_then (Err fault) f = Err fault

-- a column that each file has
abbrev pub required : Heading → List (List ℕ) → Read ℕ
required column heading = ok_or (place_in (column_name column) heading) (Column column)

-- where a file has its columns, by their names in its first line
abbrev pub columns_in : List (List ℕ) → Read Columns
columns_in heading =
    and_then (required headings.Number heading) (λ number. and_then (required headings.Name heading) (λ name. and_then (required headings.DataType heading) (λ kind.
    Ok (record { enterprise = place_in (codes "Enterprise") heading; number = number; name = name; kind = kind; semantics = place_in (codes "Data Type Semantics") heading; count = length heading }))))

-- the field at a place
abbrev pub field : List (List ℕ) → ℕ → List ℕ
field fields place = unwrap_or (field_at fields place) []

-- the same of a column that may be missing
abbrev pub optional_field : List (List ℕ) → Option ℕ → List ℕ
optional_field fields None = []
optional_field fields (Some place) = field fields place

-- ---- numbers

-- a decimal number below the limit, without a sign or leading zeros
abbrev pub number_below : ℕ → List ℕ → Option ℕ
number_below limit text = if bytes_eq text (decimal (digits_value 10 text)) && nat_lt (digits_value 10 text) limit then Some (digits_value 10 text) else None

-- IANA's, if none is said
abbrev pub enterprise_in : List ℕ → Option ℕ
enterprise_in text = if length text == 0 then Some 0 else number_below (2 ^ 32) text

abbrev pub element_in : Columns → List (List ℕ) → Read ElementId
element_in at fields =
    and_then (ok_or (number_below (2 ^ 15) (field fields at.number)) Number) (λ number.
    and_then (ok_or (enterprise_in (optional_field fields at.enterprise)) Enterprise) (λ pen. Ok (record { pen = pen; number = number })))

-- ---- names

abbrev pub is_name_octet : ℕ → Bool
is_name_octet b = is_ascii_alphanumeric b || (b == 95) || (b == 45)

abbrev pub begins_with_letter : List ℕ → Bool
begins_with_letter [] = false
begins_with_letter (b ∷ bs) = is_ascii_alphabetic b

-- what stands in a heading or a row beside the elements
abbrev pub is_reserved : List ℕ → Bool
is_reserved text = bytes_eq text (codes "start") || bytes_eq text (codes "end") || bytes_eq text (codes "flows")

-- a letter and then letters, digits, _ and -
abbrev pub is_name : List ℕ → Bool
is_name text = begins_with_letter text && list_all is_name_octet text && nat_le (length text) 64 && not (is_reserved text)

-- as it is written: with its enterprise, if that isn't IANA's
abbrev pub full_name : ℕ → List ℕ → List ℕ
full_name pen name = if pen == 0 then name else codes "e" ++ (decimal pen ++ (codes "." ++ name))

-- ---- types and semantics

-- fields of a type that is not known are octets
abbrev pub kind_of_type : List ℕ → ElementKind
kind_of_type text = unwrap_or (kind_named text) (Plain kinds.Octets)

-- the semantics of a counter that is reset to 0 each time it is exported (RFC 7012, section 3.2.3)
abbrev pub is_delta_counter : List ℕ → Bool
is_delta_counter semantics = bytes_eq semantics (codes "deltaCounter")

-- a delta counter of an unsigned type is an unsigned64: a sum of its values may need 8 octets, and any value may be sent in
-- fewer (RFC 7011, section 6.2)
abbrev pub counter_kind : ElementKind → ElementKind
counter_kind (Plain (kinds.Unsigned width)) = Plain (kinds.Unsigned Eight)
counter_kind kind = kind

-- the kind of a type, as a delta counter or not
abbrev pub kind_by : List ℕ → Bool → ElementKind
kind_by text is_delta = if is_delta then counter_kind (kind_of_type text) else kind_of_type text

-- ---- rows

abbrev pub entry : Columns → List (List ℕ) → ElementId → Known
entry at fields e =
    record {
      element = e;
      name = full_name e.pen (field fields at.name);
      kind = kind_by (field fields at.kind) (is_delta_counter (optional_field fields at.semantics));
      is_delta = is_delta_counter (optional_field fields at.semantics);
    }

-- a row of a built-in element is passed over, whatever it says
abbrev pub entry_of_element : Columns → List (List ℕ) → ElementId → Read (Option Known)
entry_of_element at fields e =
    if is_some (entry_of e) then Ok None
    else if is_name (field fields at.name) then Ok (Some (entry at fields e))
    else Err Name

-- a row without a type is passed over, too
abbrev pub entry_in : Columns → List (List ℕ) → Read (Option Known)
entry_in at fields =
    if not (length fields == at.count) then Err NotCsv
    else if length (field fields at.kind) == 0 then Ok None
    else and_then (element_in at fields) (entry_of_element at fields)

-- a row with a type that is not known
abbrev pub has_unknown_type : Columns → List (List ℕ) → Bool
has_unknown_type at fields = not (length (field fields at.kind) == 0) && is_none (kind_named (field fields at.kind))

-- what reading a row answered is the entry that it gives, if any
abbrev pub GivesEntry : Result (Option kept.Entry) ElementsFault → Read (Option Known) → Type 0
GivesEntry result read = Gives (option_map shown) result read
