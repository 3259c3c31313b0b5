-- The order of cells, and their octets.
use Rattle.std.proofs.Common.{◌≡◌, ℕ, zero, suc, ◌+◌, ◌-◌, ◌<◌, ◌≤◌, ◌%◌, ◌^◌, List, [], ◌∷◌, ◌++◌, length, take, replicate, refl, sym, ap, ◌∙◌, append_assoc, arith}
use Rattle.std.proofs.lemmas.List.{take_all}
use Rattle.std.specs.Cmp.{IsTotalOrder}
use Rattle.std.specs.Cmp.Lexicographic.{slice_cmp}
use Rattle.std.specs.Ordering.{nat_cmp, on, then_cmp, ordering_then, ordering_reverse, is_eq}
use Rattle.std.specs.declared.cmp.Ordering.{Ordering}
use Rattle.std.specs.declared.cmp.Ordering.TheVariants.{Less, Equal, Greater}
use Rattle.std.proofs.lemmas.Cmp.{ranked, nat_cmp_total, nat_list_cmp_total, on_total, then_total}
use Rattle.std.proofs.lemmas.Map.Text.{is_eq-slice_cmp}
use Rattle.std.proofs.lemmas.Slice.Eq.{bytes_eq-Decides}
use Rattle.std.proofs.Math.Nat.{div-eq_of_lt, pow-le-pow_right}
use Rattle.std.specs.Int.{byte_at}
use Rattle.byteorder.specs.Endian.{big_bytes}
use Rattle.ipfix_elements.specs.declared.cell.Cell.{Cell}
use Rattle.ipfix_elements.specs.declared.cell.Cell.TheVariants.{Number, Ipv4, Ipv6, Mac}
use Rattle.ipfix_elements.specs.Cells.{variant_of, cell_cmp}

value_of : Cell → List ℕ
value_of (Number n) = n ∷ []
value_of (Ipv4 address) = address
value_of (Ipv6 address) = address
value_of (Mac address) = address

then_equal : (o : Ordering) → ordering_then o Equal ≡ o
then_equal Less = refl
then_equal Equal = refl
then_equal Greater = refl

-- by variant, and then by value
cell_cmp-is : (a b : Cell) → cell_cmp a b ≡ then_cmp (on variant_of nat_cmp) (on value_of (slice_cmp nat_cmp)) a b
unfolding value_of
cell_cmp-is (Number m) (Number n) = sym (then_equal (nat_cmp m n))
cell_cmp-is (Ipv4 a) (Ipv4 b) = refl
cell_cmp-is (Ipv6 a) (Ipv6 b) = refl
cell_cmp-is (Mac a) (Mac b) = refl
cell_cmp-is a b = refl

total_alike : {K : Type 0} {R S : K → K → Ordering} → ((a b : K) → S a b ≡ R a b) → IsTotalOrder R → IsTotalOrder S
total_alike same order = record {
  antisymm = λ x y. same x y ∙ order.antisymm x y ∙ ap ordering_reverse (sym (same y x));
  trans = λ x y z p q. same x z ∙ order.trans x y z (sym (same x y) ∙ p) (sym (same y z) ∙ q);
  congr = λ x y z p. same x z ∙ order.congr x y z (sym (same x y) ∙ p) ∙ sym (same y z);
}

pub cell_cmp-total : IsTotalOrder cell_cmp
cell_cmp-total = total_alike cell_cmp-is (then_total (on_total variant_of nat_cmp_total) (on_total value_of nat_list_cmp_total))

octets_equal : (a b : List ℕ) → slice_cmp nat_cmp a b ≡ Equal → a ≡ b
octets_equal a b h = (bytes_eq-Decides a b).0 (sym (is_eq-slice_cmp a b) ∙ ap is_eq h)

pub cell_equal : (a b : Cell) → cell_cmp a b ≡ Equal → a ≡ b
cell_equal (Number m) (Number n) h = ap (λ (k : ℕ). Number k) (ranked m n Equal (sym h))
cell_equal (Ipv4 a) (Ipv4 b) h = ap (λ (k : List ℕ). Ipv4 k) (octets_equal a b h)
cell_equal (Ipv6 a) (Ipv6 b) h = ap (λ (k : List ℕ). Ipv6 k) (octets_equal a b h)
cell_equal (Mac a) (Mac b) h = ap (λ (k : List ℕ). Mac k) (octets_equal a b h)
cell_equal a b h = cc

-- a number of 8 octets, in more
pub wide_number : (k n : ℕ) → n < 2 ^ 64 → big_bytes (k + 8) n ≡ replicate k 0 ++ big_bytes 8 n
wide_number zero n small = refl
wide_number (suc k) n small =
    let next : suc k + 8 ≡ suc (k + 8) = omega arith in
    let place : k + 8 ≡ suc (k + 7) = omega arith in
    let least : 0 < 256 = omega arith in
    let more : 8 ≤ suc (k + 7) = omega arith in
    let above : 256 ^ 8 ≤ 256 ^ suc (k + 7) = pow-le-pow_right least more in
    let below : n < 256 ^ suc (k + 7) = omega arith in
    let top : byte_at (k + 8) n ≡ 0 = ap (λ (p : ℕ). byte_at p n) place ∙ ap (λ (q : ℕ). q % 256) (div-eq_of_lt below) in
    ap (λ (w : ℕ). big_bytes w n) next ∙ ap (λ (b : ℕ). b ∷ big_bytes (k + 8) n) top ∙ ap (λ (t : List ℕ). 0 ∷ t) (wide_number k n small)

-- zeros, and then the 8 octets, after what was there
pub wide_written : (old sized new octets : List ℕ) (start count width n : ℕ) → start ≡ length old → count ≡ length old → 8 ≤ width → n < 2 ^ 64 → octets ≡ big_bytes 8 n
    → sized ≡ take (start + width - 8) old ++ replicate (start + width - 8 - count) 0 → new ≡ sized ++ octets → new ≡ old ++ big_bytes width n
wide_written old sized new octets start count width n s l most small o e f =
    let zeros : start + width - 8 - count ≡ width - 8 = omega arith in
    let all : take (start + width - 8) old ≡ old = take_all (start + width - 8) old (omega arith) in
    let back : width - 8 + 8 ≡ width = omega arith in
    f ∙ ap (λ (t : List ℕ). t ++ octets) (e ∙ ap (λ (t : List ℕ). t ++ replicate (start + width - 8 - count) 0) all ∙ ap (λ (k : ℕ). old ++ replicate k 0) zeros)
    ∙ append_assoc old (replicate (width - 8) 0) octets
    ∙ ap (λ (t : List ℕ). old ++ (replicate (width - 8) 0 ++ t)) o
    ∙ ap (λ (t : List ℕ). old ++ t) (sym (wide_number (width - 8) n small) ∙ ap (λ (w : ℕ). big_bytes w n) back)
