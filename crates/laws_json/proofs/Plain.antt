-- No name and no value needs an escape.
use Rattle.std.proofs.Common.{◌≡◌, ℕ, ℤ, pos, negsuc, suc, ◌/◌, ◌%◌, ◌<◌, ◌||◌, not, Bool, true, false, cond, eqb, List, [], ◌∷◌, ◌++◌, map, find, Option, Some, None, unwrap_or, option_map, length, refl, sym, ap, subst, ◌∙◌, arith}
use Rattle.std.specs.Prelude.{slice_index, All}
use Rattle.std.specs.List.{list_all, join_with_byte}
use Rattle.std.specs.Option.{option_or}
use Rattle.std.specs.Fmt.{decimal, signed_decimal}
use Rattle.std.proofs.lemmas.Bool.{and_from}
use Rattle.std.proofs.lemmas.Bool.Decides.{nat_tests}
use Rattle.std.proofs.lemmas.List.Elements.{All-nil, All-cons, All-head, All-tail}
use Rattle.std.proofs.lemmas.Option.{cond_some}
use Rattle.std.proofs.Math.Nat.{mod-lt}
use Rattle.hex.specs.Hex.{lower_digits, encode_with, encode_lower}
use Rattle.ipfix_wire.specs.declared.specifier.ElementId.{ElementId}
use Rattle.ipfix_elements.specs.Elements.{Entry, elements, entry_of}
use Rattle.ipfix_elements.specs.Names.{numbered_text}
use Rattle.ipfix_elements.specs.Texts.{pairs, octet_text, cell_text, hex_mark}
use Rattle.ipfix_elements.specs.Values.{cell_in, number_in}
use Rattle.ipfix_elements.specs.declared.kind.Kind.{Kind}
use Rattle.ipfix_elements.specs.declared.kind.Kind.TheVariants as kinds
use Rattle.ipfix_elements.specs.declared.cell.Cell.{Cell}
use Rattle.ipfix_elements.specs.declared.cell.Cell.TheVariants.{Number, Ipv4, Ipv6, Mac}
use Rattle.ipfix_elements.proofs.Lookups.{mapped}
use Rattle.ipfix_elements.proofs.Numbered.{numbered_parts}
use Rattle.element_registry.specs.Registries.{Known, is_of, element_name}
use Rattle.element_values.specs.FieldTexts.{misfit_text}
use Rattle.element_values.specs.Strings.{is_plain}
use Rattle.flow_table.specs.declared.key.Key.{Key}
use Rattle.flow_table.specs.Plans.{PlanValue}
use Rattle.flow_export.specs.CsvText.{heading, key_name, key_text, prefix_text}
use Rattle.flow_export.specs.PlainNames.{has_plain_name, have_plain_names, is_plain_octet}
use Rattle.flow_export.proofs.Finding.{find_all}
use Rattle.flow_export.proofs.KeyNames.{has_key_name}
use Rattle.laws_json.specs.RowObjects.{address_of}
use Rattle.laws_json.proofs.Tests.{below, both, decimal_passes, IsPlain, Pass, passes, weaker}

abbrev pub AllPlain : List (List ℕ) → Type 0
AllPlain [] = Unit {0}
AllPlain (s ∷ ss) = IsPlain s × AllPlain ss

abbrev pub AreOctets : List ℕ → Type 0
AreOctets octets = All (λ b. b < 256) octets

-- ---- numbers and octets

pub decimal_plain : (n : ℕ) → IsPlain (decimal n)
decimal_plain = decimal_passes is_plain refl

pub signed_plain : (z : ℤ) → IsPlain (signed_decimal z)
signed_plain (pos n) = decimal_plain n
signed_plain (negsuc n) = decimal_plain (suc n)

hex_plain : (bs : List ℕ) → AreOctets bs → IsPlain (encode_lower bs)
unfolding encode_with
hex_plain [] all = refl
hex_plain (b ∷ bs) all =
    let small : b < 256 = All-head (λ b. b < 256) b bs all in
    let digit = passes (λ d. is_plain (slice_index lower_digits d)) 16 refl in
    and_from _ _ (digit (b / 16) (omega (arith, small))) (and_from _ _ (digit (b % 16) (mod-lt b (omega arith))) (hex_plain bs (All-tail (λ b. b < 256) b bs all)))

join_plain : (c : ℕ) (parts : List (List ℕ)) → is_plain c ≡ true → AllPlain parts → IsPlain (join_with_byte c parts)
join_plain c [] p all = refl
join_plain c (x ∷ []) p all = all.0
join_plain c (x ∷ y ∷ xs) p all = both is_plain x (c ∷ join_with_byte c (y ∷ xs)) all.0 (and_from _ _ p (join_plain c (y ∷ xs) p all.1))

decimals_plain : (xs : List ℕ) → AllPlain (map decimal xs)
decimals_plain [] = tt
decimals_plain (x ∷ xs) = (decimal_plain x, decimals_plain xs)

one : (b : ℕ) (bs : List ℕ) → AreOctets (b ∷ bs) → AreOctets (b ∷ [])
one b bs all = All-cons (λ b. b < 256) b [] (All-head (λ b. b < 256) b bs all) (All-nil (λ b. b < 256))

octets_plain : (bs : List ℕ) → AreOctets bs → AllPlain (map octet_text bs)
octets_plain [] all = tt
octets_plain (b ∷ bs) all = (hex_plain (b ∷ []) (one b bs all), octets_plain bs (All-tail (λ b. b < 256) b bs all))

pairs_plain : (bs : List ℕ) → AreOctets bs → AllPlain (map encode_lower (pairs bs))
pairs_plain [] all = tt
pairs_plain (a ∷ []) all = (hex_plain (a ∷ []) all, tt)
pairs_plain (a ∷ b ∷ rest) all =
    let later = All-tail (λ b. b < 256) a (b ∷ rest) all in
    let two = All-cons (λ b. b < 256) a (b ∷ []) (All-head (λ b. b < 256) a (b ∷ rest) all) (one b rest later) in
    (hex_plain (a ∷ b ∷ []) two, pairs_plain rest (All-tail (λ b. b < 256) b rest later))

-- ---- cells

abbrev pub HasAddress : Cell → Type 0
HasAddress cell = AreOctets (address_of cell)

pub cell_plain : (cell : Cell) → HasAddress cell → IsPlain (cell_text cell)
unfolding cell_text
cell_plain (Number n) all = decimal_plain n
cell_plain (Ipv4 a) all = join_plain 46 (map decimal a) refl (decimals_plain a)
cell_plain (Ipv6 a) all = join_plain 58 (map encode_lower (pairs a)) refl (pairs_plain a all)
cell_plain (Mac a) all = join_plain 58 (map octet_text a) refl (octets_plain a all)

-- what holds of the number and of the addresses that octets may be holds of the cell that they are
pub cell_holds : (P : Cell → Type 0) (octets : List ℕ) → P (Ipv4 octets) → P (Ipv6 octets) → P (Mac octets) → (kind : Kind) → ((n : ℕ) → number_in kind octets ≡ Some n → P (Number n))
    → (c : Cell) → cell_in kind octets ≡ Some c → P c
cell_holds P octets four six mac kinds.Ipv4 number c h = subst P (cond_some (eqb (length octets) 4) (Ipv4 octets) c h).1 four
cell_holds P octets four six mac kinds.Ipv6 number c h = subst P (cond_some (eqb (length octets) 16) (Ipv6 octets) c h).1 six
cell_holds P octets four six mac kinds.Mac number c h = subst P (cond_some (eqb (length octets) 6) (Mac octets) c h).1 mac
cell_holds P octets four six mac kinds.Octets number c h = absurd cc
cell_holds P octets four six mac (kinds.Unsigned width) number c h =
    let read = mapped (λ n. Number n) (number_in (kinds.Unsigned width) octets) c h in
    subst P read.2 (number read.0 read.1)
cell_holds P octets four six mac kinds.Seconds number c h = let read = mapped (λ n. Number n) (number_in kinds.Seconds octets) c h in subst P read.2 (number read.0 read.1)
cell_holds P octets four six mac kinds.Millis number c h = let read = mapped (λ n. Number n) (number_in kinds.Millis octets) c h in subst P read.2 (number read.0 read.1)

pub has_address : (kind : Kind) (octets : List ℕ) → AreOctets octets → (c : Cell) → cell_in kind octets ≡ Some c → HasAddress c
has_address kind octets all = cell_holds HasAddress octets all all all kind (λ n h. All-nil (λ b. b < 256))

mark_plain : (kind : Kind) → IsPlain (hex_mark kind)
mark_plain kinds.Octets = refl
mark_plain (kinds.Unsigned width) = refl
mark_plain kinds.Ipv4 = refl
mark_plain kinds.Ipv6 = refl
mark_plain kinds.Mac = refl
mark_plain kinds.Seconds = refl
mark_plain kinds.Millis = refl

-- octets that are no cell
pub marked_plain : (kind : Kind) (octets : List ℕ) → AreOctets octets → IsPlain (hex_mark kind ++ encode_lower octets)
marked_plain kind octets all = both is_plain (hex_mark kind) (encode_lower octets) (mark_plain kind) (hex_plain octets all)

pub misfit_plain : (octets : List ℕ) → AreOctets octets → IsPlain (misfit_text octets)
misfit_plain octets all = marked_plain kinds.Octets octets all

-- ---- names

abbrev HasName : Entry → Bool
HasName r = list_all is_plain_octet r.name

names_plain : list_all HasName elements ≡ true
unfolding elements
names_plain = refl

numbered_plain : (e : ElementId) → Pass is_plain_octet (numbered_text e)
numbered_plain e =
    subst (Pass is_plain_octet) (sym (numbered_parts e))
    (both is_plain_octet (decimal e.pen) (46 ∷ decimal e.number) (decimal_passes is_plain_octet refl e.pen) (decimal_passes is_plain_octet refl e.number))

in_elements : (e : ElementId) (r : Entry) → entry_of e ≡ Some r → HasName r ≡ true
in_elements e r h = by (eqb e.pen 0) h
  where
    by : (b : Bool) → cond b (find (λ x. eqb x.number e.number) elements) None ≡ Some r → HasName r ≡ true
    by true k = find_all HasName (λ x. eqb x.number e.number) elements r names_plain k
    by false k = absurd cc

listed_plain : (e : ElementId) (o : Option Entry) (f : Option Known) → ((r : Entry) → o ≡ Some r → HasName r ≡ true) → ((k : Known) → f ≡ Some k → has_plain_name k ≡ true)
    → Pass is_plain_octet (unwrap_or (option_or (option_map (λ r. r.name) o) (option_map (λ k. k.name) f)) (numbered_text e))
listed_plain e (Some r) f h g = h r refl
listed_plain e None (Some k) h g = g k refl
listed_plain e None None h g = numbered_plain e

-- letters, digits and what else is plain in names of files
pub plain_octet : (test : ℕ → Bool) → below (λ b. not (is_plain_octet b) || test b) 123 ≡ true → (b : ℕ) → is_plain_octet b ≡ true → test b ≡ true
plain_octet test all b h =
    let few : b < 123 = grind (arith, nat_tests) in
    let either : (not (is_plain_octet b) || test b) ≡ true = passes (λ b. not (is_plain_octet b) || test b) 123 all b few in
    ap (λ (p : Bool). not p || test b) (sym h) ∙ either

module _ (known : List Known) (plain : have_plain_names known ≡ true) where
  pub name_octets : (e : ElementId) → Pass is_plain_octet (element_name known e)
  name_octets e = listed_plain e (entry_of e) (find (is_of e) known) (in_elements e) (λ k found. find_all has_plain_name (is_of e) known k plain found)

  pub name_plain : (e : ElementId) → IsPlain (element_name known e)
  name_plain e = weaker is_plain_octet is_plain (plain_octet is_plain refl) (element_name known e) (name_octets e)

  pub key_name_octets : (e : ElementId) → Pass is_plain_octet (key_name known e)
  key_name_octets e =
      has_key_name (Pass is_plain_octet) (record { exporter = refl; exporter_ipv4 = refl; exporter_ipv6 = refl; observation_domain = refl }) known e (name_octets e)

  key_name_plain : (e : ElementId) → IsPlain (key_name known e)
  key_name_plain e = weaker is_plain_octet is_plain (plain_octet is_plain refl) (key_name known e) (key_name_octets e)

  prefix_plain : (o : Option ℕ) → IsPlain (prefix_text o)
  prefix_plain None = refl
  prefix_plain (Some bits) = decimal_plain bits

  keys_plain : (keys : List Key) (rest : List (List ℕ)) → AllPlain rest → AllPlain (map (key_text known) keys ++ rest)
  keys_plain [] rest all = all
  keys_plain (k ∷ ks) rest all = (both is_plain (key_name known k.element) (prefix_text k.prefix) (key_name_plain k.element) (prefix_plain k.prefix), keys_plain ks rest all)

  names_are_plain : (elements : List ElementId) (rest : List (List ℕ)) → AllPlain rest → AllPlain (map (element_name known) elements ++ rest)
  names_are_plain [] rest all = all
  names_are_plain (e ∷ es) rest all = (name_plain e, names_are_plain es rest all)

  pub heading_plain : (plan : PlanValue) → AllPlain (heading known plan)
  heading_plain plan = (refl, (refl, keys_plain plan.keys _ (names_are_plain plan.counters _ (refl, tt))))
