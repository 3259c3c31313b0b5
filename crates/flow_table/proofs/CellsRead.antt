-- The cells that octets are read as, by their words.
use Rattle.std.proofs.Common.{◌≡◌, ℕ, List, length, Option, Some, None, option_map, refl, sym, ap, ◌∙◌, subst}
use Rattle.ipfix_elements.specs.Values.{number_in, cell_in}
use Rattle.ipfix_elements.specs.declared.cell.Cell.{Cell}
use Rattle.ipfix_elements.specs.declared.cell.Cell.TheVariants.{Number, Ipv4, Ipv6, Mac}
use Rattle.ipfix_elements.specs.declared.kind.Kind.{Kind}
use Rattle.ipfix_elements.specs.declared.kind.Kind.TheVariants as kinds
use Rattle.ipfix_elements.specs.declared.kind.Width.{Width}
use Rattle.flow_table.specs.Fitting.{IsCellOf}
use Rattle.flow_table.specs.Reading.{projected}
use Rattle.flow_table.specs.Readings.{HasCell}
use Rattle.flow_table.specs.declared.words.CellWords.{CellWords}
use Rattle.flow_table.specs.Words.{HasWords}
use Rattle.flow_table.proofs.Fits.{IsOctets, number_fits, projected_fits}

-- a prefix leaves all that is no address of IP
number_whole : (prefix : Option ℕ) (n : ℕ) → projected prefix (Number n) ≡ Number n
number_whole None n = refl
number_whole (Some bits) n = refl

mac_whole : (prefix : Option ℕ) (address : List ℕ) → projected prefix (Mac address) ≡ Mac address
mac_whole None address = refl
mac_whole (Some bits) address = refl

-- a cell that a prefix leaves as it is
has_whole : (kind : Kind) (prefix : Option ℕ) (found : Option Cell) (cell : Cell) (words : CellWords) → found ≡ Some cell → projected prefix cell ≡ cell → IsCellOf kind cell → HasWords kind cell words
    → HasCell kind (option_map (projected prefix) found) words
has_whole kind prefix found cell words is whole fits are =
    record { cell = cell; is = ap (λ (o : Option Cell). option_map (projected prefix) o) is ∙ ap (λ (x : Cell). Some x) whole; fits = fits; are = are }

pub has_number : (width : Width) (prefix : Option ℕ) (octets : List ℕ) (n : ℕ) (words : CellWords) → IsOctets octets → number_in (kinds.Unsigned width) octets ≡ Some n → HasWords (kinds.Unsigned width) (Number n) words
    → HasCell (kinds.Unsigned width) (option_map (projected prefix) (cell_in (kinds.Unsigned width) octets)) words
has_number width prefix octets n words small h are =
    has_whole (kinds.Unsigned width) prefix (cell_in (kinds.Unsigned width) octets) (Number n) words (ap (λ (o : Option ℕ). option_map (λ (m : ℕ). Number m) o) h) (number_whole prefix n) (number_fits width octets n small h) are

pub has_ipv4 : (prefix : Option ℕ) (octets address kept : List ℕ) (words : CellWords) → address ≡ octets → length octets ≡ 4 → Ipv4 kept ≡ projected prefix (Ipv4 address) → HasWords kinds.Ipv4 (Ipv4 kept) words
    → HasCell kinds.Ipv4 (option_map (projected prefix) (cell_in kinds.Ipv4 octets)) words
has_ipv4 prefix octets address kept words same long is are =
    let whole : Ipv4 kept ≡ projected prefix (Ipv4 octets) = is ∙ ap (λ (a : List ℕ). projected prefix (Ipv4 a)) same in
    record {
      cell = Ipv4 kept;
      is = rw long (ap (λ (cell : Cell). Some cell) (sym whole));
      fits = subst (IsCellOf kinds.Ipv4) (sym whole) (projected_fits kinds.Ipv4 prefix (Ipv4 octets) long);
      are = are;
    }

pub has_ipv6 : (prefix : Option ℕ) (octets address kept : List ℕ) (words : CellWords) → address ≡ octets → length octets ≡ 16 → Ipv6 kept ≡ projected prefix (Ipv6 address) → HasWords kinds.Ipv6 (Ipv6 kept) words
    → HasCell kinds.Ipv6 (option_map (projected prefix) (cell_in kinds.Ipv6 octets)) words
has_ipv6 prefix octets address kept words same long is are =
    let whole : Ipv6 kept ≡ projected prefix (Ipv6 octets) = is ∙ ap (λ (a : List ℕ). projected prefix (Ipv6 a)) same in
    record {
      cell = Ipv6 kept;
      is = rw long (ap (λ (cell : Cell). Some cell) (sym whole));
      fits = subst (IsCellOf kinds.Ipv6) (sym whole) (projected_fits kinds.Ipv6 prefix (Ipv6 octets) long);
      are = are;
    }

pub has_mac : (prefix : Option ℕ) (octets address : List ℕ) (words : CellWords) → address ≡ octets → length octets ≡ 6 → HasWords kinds.Mac (Mac address) words
    → HasCell kinds.Mac (option_map (projected prefix) (cell_in kinds.Mac octets)) words
has_mac prefix octets address words same long are =
    has_whole kinds.Mac prefix (cell_in kinds.Mac octets) (Mac octets) words (rw long refl) (mac_whole prefix octets) long (subst (λ (a : List ℕ). HasWords kinds.Mac (Mac a) words) same are)
