-- The cells of a key as they are shown have what holds of all cells.
use Rattle.std.proofs.Common.{ℕ, Bool, true, false, cond, List, [], ◌∷◌, All, drop}
use Rattle.std.proofs.lemmas.List.Elements.{All-cons, All-head, All-nil, All-tail}
use Rattle.ipfix_elements.specs.declared.cell.Cell.{Cell}
use Rattle.ipfix_elements.specs.declared.cell.Cell.TheVariants.{Number, Ipv4, Ipv6, Mac}
use Rattle.flow_table.specs.declared.key.Key.{Key}
use Rattle.flow_table.specs.Plans.{exporter, same_element}
use Rattle.flow_export.specs.Shown.{is_mapped, shown_cell, shown_cells}

shown_has : (P : Cell → Type 0) → ((address : List ℕ) → P (Ipv6 address) → P (Ipv4 (drop 12 address))) → (k : Key) (c : Cell) → P c → P (shown_cell k c)
shown_has P less k (Number n) has = has
shown_has P less k (Ipv4 address) has = has
shown_has P less k (Ipv6 address) has = by (same_element k.element exporter) (is_mapped address)
  where
    by : (a b : Bool) → P (cond a (cond b (Ipv4 (drop 12 address)) (Ipv6 address)) (Ipv6 address))
    by true true = less address has
    by true false = has
    by false b = has
shown_has P less k (Mac address) has = has

-- what holds of the last octets of an address, if it does of all
pub all_shown : (P : Cell → Type 0) → ((address : List ℕ) → P (Ipv6 address) → P (Ipv4 (drop 12 address))) → (ks : List Key) (cs : List Cell) → All P cs → All P (shown_cells ks cs)
all_shown P less [] cs all = all
all_shown P less (k ∷ ks) [] all = All-nil P
all_shown P less (k ∷ ks) (c ∷ cs) all = All-cons P (shown_cell k c) (shown_cells ks cs) (shown_has P less k c (All-head P c cs all)) (all_shown P less ks cs (All-tail P c cs all))
