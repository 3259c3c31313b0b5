-- The words of cells, keys and places compare as these do, and tell them.
use Rattle.std.proofs.Common.{◌≡◌, ℕ, zero, suc, ◌-◌, ◌^◌, ◌<◌, ◌≤◌, leb, ltb, Bool, true, false, cond, List, [], ◌∷◌, ◌++◌, length, take, drop, get_or, Option, Some, None, refl, sym, ap, ◌∙◌, subst, append-nil, append_assoc, arith}
use Rattle.std.specs.Cmp.Lexicographic.{slice_cmp}
use Rattle.std.specs.Int.{to_be_bytes, w64}
use Rattle.std.specs.Ordering.{nat_cmp, ordering_then}
use Rattle.std.specs.declared.cmp.Ordering.{Ordering}
use Rattle.std.proofs.lemmas.List.{length-take-le, length-drop, take-append-drop}
use Rattle.ipfix_elements.specs.Cells.{cell_cmp}
use Rattle.ipfix_elements.specs.declared.cell.Cell.{Cell}
use Rattle.ipfix_elements.specs.declared.cell.Cell.TheVariants.{Number, Ipv4, Ipv6, Mac}
use Rattle.ipfix_elements.specs.declared.kind.Kind.{Kind}
use Rattle.ipfix_elements.specs.declared.kind.Kind.TheVariants as kinds
use Rattle.ipfix_elements.specs.declared.kind.Width.{Width}
use Rattle.ipfix_elements.specs.declared.kind.Width.TheVariants.{One, Two, Four, Eight}
use Rattle.ipfix_elements.specs.Values.{octets_of as width_of}
use Rattle.ipfix_elements.proofs.Lookups.{mapped}
use Rattle.std.proofs.lemmas.Bool.{ltb-true}
use Rattle.flow_rows.specs.Rows.{words_cmp}
use Rattle.flow_table.specs.Tables.{key_cmp}
use Rattle.flow_table.specs.Words.{spelled, are_octets, cell_words, both_words, key_words, pack, plain_from, plain_words, shorts, shorts_of_kind, words_of_kind, word_count, padded, cell_from, key_from}
use Rattle.flow_table.proofs.Packing.{AreBeside, beside_long, beside_more, pack_back, pack_long, pack_rank}
use Rattle.flow_table.proofs.Octets.{Octets, octets_of, octets_rank, parts_rank, take_octets, drop_octets, eight_back, then_then}

-- ---- one cell

some_same : (xs ys : List ℕ) → Some xs ≡ Some ys → xs ≡ ys
some_same xs ys h = cc

chosen : (b : Bool) (xs ys : List ℕ) → cond b (Some xs) None ≡ Some ys → (b ≡ true) × (ys ≡ xs)
chosen true xs ys h = (refl, sym (some_same xs ys h))
chosen false xs ys h = absurd cc

of_number : (width : Width) (cell : Cell) (ws : List ℕ) → cell_words (kinds.Unsigned width) cell ≡ Some ws → (n : ℕ) × (cell ≡ Number n) × (ws ≡ n ∷ []) × (n < 256 ^ width_of width)
of_number width (Number n) ws h =
    let c = chosen (ltb n (256 ^ width_of width)) (n ∷ []) ws h in
    (n, refl, c.1, ltb-true n (256 ^ width_of width) c.0)
of_number width (Ipv4 a) ws h = absurd cc
of_number width (Ipv6 a) ws h = absurd cc
of_number width (Mac a) ws h = absurd cc

of_ipv4 : (cell : Cell) (ws : List ℕ) → cell_words kinds.Ipv4 cell ≡ Some ws → (a : List ℕ) × (cell ≡ Ipv4 a) × (ws ≡ spelled 0 a ∷ []) × (length a ≡ 4) × Octets a
of_ipv4 (Number n) ws h = absurd cc
of_ipv4 (Ipv4 a) ws h =
    let c = chosen (are_octets 4 a) (spelled 0 a ∷ []) ws h in
    let o = octets_of 4 a c.0 in
    (a, refl, c.1, o.0, o.1)
of_ipv4 (Ipv6 a) ws h = absurd cc
of_ipv4 (Mac a) ws h = absurd cc

of_mac : (cell : Cell) (ws : List ℕ) → cell_words kinds.Mac cell ≡ Some ws → (a : List ℕ) × (cell ≡ Mac a) × (ws ≡ spelled 0 a ∷ []) × (length a ≡ 6) × Octets a
of_mac (Number n) ws h = absurd cc
of_mac (Ipv4 a) ws h = absurd cc
of_mac (Ipv6 a) ws h = absurd cc
of_mac (Mac a) ws h =
    let c = chosen (are_octets 6 a) (spelled 0 a ∷ []) ws h in
    let o = octets_of 6 a c.0 in
    (a, refl, c.1, o.0, o.1)

of_ipv6 : (cell : Cell) (ws : List ℕ) → cell_words kinds.Ipv6 cell ≡ Some ws → (a : List ℕ) × (cell ≡ Ipv6 a) × (ws ≡ spelled 0 (take 8 a) ∷ spelled 0 (drop 8 a) ∷ []) × (length a ≡ 16) × Octets a
of_ipv6 (Number n) ws h = absurd cc
of_ipv6 (Ipv4 a) ws h = absurd cc
of_ipv6 (Ipv6 a) ws h =
    let c = chosen (are_octets 16 a) (spelled 0 (take 8 a) ∷ spelled 0 (drop 8 a) ∷ []) ws h in
    let o = octets_of 16 a c.0 in
    (a, refl, c.1, o.0, o.1)
of_ipv6 (Mac a) ws h = absurd cc

none_of : (kind : Kind) (cell : Cell) (ws : List ℕ) → cell_words kind cell ≡ None → cell_words kind cell ≡ Some ws → ⊥
none_of kind cell ws e h = let t : None ≡ Some ws = sym e ∙ h in cc

-- words that begin with those of cells compare as the cells, and then as the others
abbrev Ranks : Cell → Cell → List ℕ → List ℕ → Type 0
Ranks c d ws vs = (r s : List ℕ) → words_cmp (ws ++ r) (vs ++ s) ≡ ordering_then (cell_cmp c d) (words_cmp r s)

one_word : (c d : Cell) (m n : ℕ) (ws vs : List ℕ) → ws ≡ m ∷ [] → vs ≡ n ∷ [] → nat_cmp m n ≡ cell_cmp c d → Ranks c d ws vs
one_word c d m n ws vs e f h r s =
    ap (λ (xs : List ℕ). words_cmp (xs ++ r) (vs ++ s)) e ∙ ap (λ (ys : List ℕ). words_cmp (m ∷ r) (ys ++ s)) f
    ∙ ap (λ (o : Ordering). ordering_then o (words_cmp r s)) h

two_words : (c d : Cell) (a b : List ℕ) (ws vs : List ℕ) → ws ≡ spelled 0 (take 8 a) ∷ spelled 0 (drop 8 a) ∷ [] → vs ≡ spelled 0 (take 8 b) ∷ spelled 0 (drop 8 b) ∷ []
    → length a ≡ 16 → length b ≡ 16 → Octets a → Octets b → slice_cmp nat_cmp a b ≡ cell_cmp c d → Ranks c d ws vs
two_words c d a b ws vs e f l m p q h r s =
    let first : nat_cmp (spelled 0 (take 8 a)) (spelled 0 (take 8 b)) ≡ slice_cmp nat_cmp (take 8 a) (take 8 b) = octets_rank (take 8 a) (take 8 b) (omega (arith, length-take-le 8 a (omega arith), length-take-le 8 b (omega arith))) (take_octets 8 a p) (take_octets 8 b q) in
    let second : nat_cmp (spelled 0 (drop 8 a)) (spelled 0 (drop 8 b)) ≡ slice_cmp nat_cmp (drop 8 a) (drop 8 b) = octets_rank (drop 8 a) (drop 8 b) (omega (arith, length-drop 8 a, length-drop 8 b)) (drop_octets 8 a p) (drop_octets 8 b q) in
    ap (λ (xs : List ℕ). words_cmp (xs ++ r) (vs ++ s)) e ∙ ap (λ (ys : List ℕ). words_cmp (spelled 0 (take 8 a) ∷ spelled 0 (drop 8 a) ∷ r) (ys ++ s)) f
    ∙ ap (λ (o : Ordering). ordering_then o (ordering_then (nat_cmp (spelled 0 (drop 8 a)) (spelled 0 (drop 8 b))) (words_cmp r s))) first
    ∙ ap (λ (o : Ordering). ordering_then (slice_cmp nat_cmp (take 8 a) (take 8 b)) (ordering_then o (words_cmp r s))) second
    ∙ sym (then_then (slice_cmp nat_cmp (take 8 a) (take 8 b)) (slice_cmp nat_cmp (drop 8 a) (drop 8 b)) (words_cmp r s))
    ∙ ap (λ (o : Ordering). ordering_then o (words_cmp r s)) (sym (parts_rank 8 a b (omega arith) (omega arith)) ∙ h)

cells_same : (c d c2 d2 : Cell) → c ≡ c2 → d ≡ d2 → cell_cmp c2 d2 ≡ cell_cmp c d
cells_same c d c2 d2 e f = ap (λ (x : Cell). cell_cmp x d2) (sym e) ∙ ap (λ (y : Cell). cell_cmp c y) (sym f)

cell_rank : (kind : Kind) (c d : Cell) (ws vs : List ℕ) → cell_words kind c ≡ Some ws → cell_words kind d ≡ Some vs → Ranks c d ws vs
cell_rank (kinds.Unsigned width) c d ws vs h k =
    let x = of_number width c ws h in
    let y = of_number width d vs k in
    one_word c d x.0 y.0 ws vs x.2 y.2 (cells_same c d (Number x.0) (Number y.0) x.1 y.1)
cell_rank kinds.Ipv4 c d ws vs h k =
    let x = of_ipv4 c ws h in
    let y = of_ipv4 d vs k in
    one_word c d (spelled 0 x.0) (spelled 0 y.0) ws vs x.2 y.2 (octets_rank x.0 y.0 (omega (arith, x.3, y.3)) x.4 y.4 ∙ cells_same c d (Ipv4 x.0) (Ipv4 y.0) x.1 y.1)
cell_rank kinds.Ipv6 c d ws vs h k =
    let x = of_ipv6 c ws h in
    let y = of_ipv6 d vs k in
    two_words c d x.0 y.0 ws vs x.2 y.2 x.3 y.3 x.4 y.4 (cells_same c d (Ipv6 x.0) (Ipv6 y.0) x.1 y.1)
cell_rank kinds.Mac c d ws vs h k =
    let x = of_mac c ws h in
    let y = of_mac d vs k in
    one_word c d (spelled 0 x.0) (spelled 0 y.0) ws vs x.2 y.2 (octets_rank x.0 y.0 (omega (arith, x.3, y.3)) x.4 y.4 ∙ cells_same c d (Mac x.0) (Mac y.0) x.1 y.1)
cell_rank kinds.Seconds c d ws vs h k = absurd (none_of kinds.Seconds c ws refl h)
cell_rank kinds.Millis c d ws vs h k = absurd (none_of kinds.Millis c ws refl h)
cell_rank kinds.Octets c d ws vs h k = absurd (none_of kinds.Octets c ws refl h)

-- ---- keys

pub both_some : (a b : Option (List ℕ)) (ws : List ℕ) → both_words a b ≡ Some ws → (us : List ℕ) × (vs : List ℕ) × (a ≡ Some us) × (b ≡ Some vs) × (ws ≡ us ++ vs)
both_some None b ws h = absurd cc
both_some (Some us) None ws h = absurd cc
both_some (Some us) (Some vs) ws h = (us, vs, refl, refl, sym (some_same (us ++ vs) ws h))

pub plain_rank : (kinds : List Kind) (cs ds : List Cell) (ws vs : List ℕ) → plain_words kinds cs ≡ Some ws → plain_words kinds ds ≡ Some vs → (r s : List ℕ) → words_cmp (ws ++ r) (vs ++ s) ≡ ordering_then (key_cmp cs ds) (words_cmp r s)
plain_rank [] [] [] ws vs h k r s =
    ap (λ (xs : List ℕ). words_cmp (xs ++ r) (vs ++ s)) (sym (some_same [] ws h)) ∙ ap (λ (ys : List ℕ). words_cmp r (ys ++ s)) (sym (some_same [] vs k))
plain_rank [] (c ∷ cs) ds ws vs h k r s = absurd cc
plain_rank [] [] (d ∷ ds) ws vs h k r s = absurd cc
plain_rank (kind ∷ kinds) [] ds ws vs h k r s = absurd cc
plain_rank (kind ∷ kinds) (c ∷ cs) [] ws vs h k r s = absurd cc
plain_rank (kind ∷ kinds) (c ∷ cs) (d ∷ ds) ws vs h k r s =
    let x = both_some (cell_words kind c) (plain_words kinds cs) ws h in
    let y = both_some (cell_words kind d) (plain_words kinds ds) vs k in
    ap (λ (xs : List ℕ). words_cmp (xs ++ r) (vs ++ s)) x.4 ∙ ap (λ (ys : List ℕ). words_cmp ((x.0 ++ x.1) ++ r) (ys ++ s)) y.4
    ∙ ap (λ (xs : List ℕ). words_cmp xs ((y.0 ++ y.1) ++ s)) (append_assoc x.0 x.1 r) ∙ ap (λ (ys : List ℕ). words_cmp (x.0 ++ (x.1 ++ r)) ys) (append_assoc y.0 y.1 s)
    ∙ cell_rank kind c d x.0 y.0 x.2 y.2 (x.1 ++ r) (y.1 ++ s)
    ∙ ap (λ (o : Ordering). ordering_then (cell_cmp c d) o) (plain_rank kinds cs ds x.1 y.1 x.3 y.3 r s)
    ∙ sym (then_then (cell_cmp c d) (key_cmp cs ds) (words_cmp r s))

-- ---- which of them are short

number_short : (width : Width) (n : ℕ) → n < 256 ^ width_of width → leb (width_of width) 4 ≡ true → n < 2 ^ 32
number_short One n l h = let k : n < 256 = l in omega arith
number_short Two n l h = let k : n < 65536 = l in omega arith
number_short Four n l h = l
number_short Eight n l h = absurd cc

four_short : (xs : List ℕ) → length xs ≡ 4 → Octets xs → spelled 0 xs < 2 ^ 32
four_short [] l h = absurd (omega arith)
four_short (a ∷ []) l h = absurd (omega arith)
four_short (a ∷ b ∷ []) l h = absurd (omega arith)
four_short (a ∷ b ∷ c ∷ []) l h = absurd (omega arith)
four_short (a ∷ b ∷ c ∷ d ∷ []) l h = omega (arith, h.0, h.1.0, h.1.1.0, h.1.1.1.0)
four_short (a ∷ b ∷ c ∷ d ∷ e ∷ xs) l h = absurd (omega arith)

-- one word, or two
one_beside : (f : Bool) (w : ℕ) (ws : List ℕ) → ws ≡ w ∷ [] → (f ≡ true → w < 2 ^ 32) → AreBeside (f ∷ []) ws
one_beside f w ws e h = subst (AreBeside (f ∷ [])) (sym e) (h, tt)

never_short : (w : ℕ) → false ≡ true → w < 2 ^ 32
never_short w h = absurd cc

cell_beside : (kind : Kind) (c : Cell) (ws : List ℕ) → cell_words kind c ≡ Some ws → AreBeside (shorts_of_kind kind) ws
cell_beside (kinds.Unsigned width) c ws h =
    let x = of_number width c ws h in
    one_beside (leb (width_of width) 4) x.0 ws x.2 (number_short width x.0 x.3)
cell_beside kinds.Ipv4 c ws h = let x = of_ipv4 c ws h in one_beside true (spelled 0 x.0) ws x.2 (λ t. four_short x.0 x.3 x.4)
cell_beside kinds.Ipv6 c ws h = let x = of_ipv6 c ws h in subst (AreBeside (false ∷ false ∷ [])) (sym x.2) (never_short (spelled 0 (take 8 x.0)), (never_short (spelled 0 (drop 8 x.0)), tt))
cell_beside kinds.Mac c ws h = let x = of_mac c ws h in one_beside false (spelled 0 x.0) ws x.2 (never_short (spelled 0 x.0))
cell_beside kinds.Seconds c ws h = absurd (none_of kinds.Seconds c ws refl h)
cell_beside kinds.Millis c ws h = absurd (none_of kinds.Millis c ws refl h)
cell_beside kinds.Octets c ws h = absurd (none_of kinds.Octets c ws refl h)

pub plain_beside : (kinds : List Kind) (cs : List Cell) (ws : List ℕ) → plain_words kinds cs ≡ Some ws → AreBeside (shorts kinds) ws
plain_beside [] [] ws h = subst (AreBeside []) (some_same [] ws h) tt
plain_beside [] (c ∷ cs) ws h = absurd cc
plain_beside (kind ∷ kinds) [] ws h = absurd cc
plain_beside (kind ∷ kinds) (c ∷ cs) ws h =
    let x = both_some (cell_words kind c) (plain_words kinds cs) ws h in
    subst (AreBeside (shorts (kind ∷ kinds))) (sym x.4) (beside_more (shorts_of_kind kind) (shorts kinds) x.0 x.1 (cell_beside kind c x.0 x.2) (plain_beside kinds cs x.1 x.3))

-- ---- and back

first_back : (kind : Kind) (c : Cell) (ws r : List ℕ) → cell_words kind c ≡ Some ws → cell_from kind (get_or (ws ++ r) 0 0) (get_or (ws ++ r) 1 0) ≡ c
first_back (kinds.Unsigned width) c ws r h =
    let x = of_number width c ws h in
    ap (λ (vs : List ℕ). Number (get_or (vs ++ r) 0 0)) x.2 ∙ sym x.1
first_back kinds.Ipv4 c ws r h =
    let x = of_ipv4 c ws h in
    ap (λ (vs : List ℕ). Ipv4 (drop 4 (to_be_bytes w64 (get_or (vs ++ r) 0 0)))) x.2
    ∙ ap (λ (bs : List ℕ). Ipv4 (drop 4 bs)) (eight_back (0 ∷ 0 ∷ 0 ∷ 0 ∷ x.0) (omega (arith, x.3)) (omega arith, (omega arith, (omega arith, (omega arith, x.4))))) ∙ sym x.1
first_back kinds.Ipv6 c ws r h =
    let x = of_ipv6 c ws h in
    ap (λ (vs : List ℕ). Ipv6 (to_be_bytes w64 (get_or (vs ++ r) 0 0) ++ to_be_bytes w64 (get_or (vs ++ r) 1 0))) x.2
    ∙ ap (λ (bs : List ℕ). Ipv6 (bs ++ to_be_bytes w64 (spelled 0 (drop 8 x.0)))) (eight_back (take 8 x.0) (length-take-le 8 x.0 (omega (arith, x.3))) (take_octets 8 x.0 x.4))
    ∙ ap (λ (bs : List ℕ). Ipv6 (take 8 x.0 ++ bs)) (eight_back (drop 8 x.0) (omega (arith, x.3, length-drop 8 x.0)) (drop_octets 8 x.0 x.4))
    ∙ ap (λ (bs : List ℕ). Ipv6 bs) (take-append-drop 8 x.0) ∙ sym x.1
first_back kinds.Mac c ws r h =
    let x = of_mac c ws h in
    ap (λ (vs : List ℕ). Mac (drop 2 (to_be_bytes w64 (get_or (vs ++ r) 0 0)))) x.2
    ∙ ap (λ (bs : List ℕ). Mac (drop 2 bs)) (eight_back (0 ∷ 0 ∷ x.0) (omega (arith, x.3)) (omega arith, (omega arith, x.4))) ∙ sym x.1
first_back kinds.Seconds c ws r h = absurd (none_of kinds.Seconds c ws refl h)
first_back kinds.Millis c ws r h = absurd (none_of kinds.Millis c ws refl h)
first_back kinds.Octets c ws r h = absurd (none_of kinds.Octets c ws refl h)

drop_front : (xs ys : List ℕ) → drop (length xs) (xs ++ ys) ≡ ys
drop_front [] ys = refl
drop_front (x ∷ xs) ys = drop_front xs ys

cells_cons : (a b : Cell) (cs ds : List Cell) → a ≡ b → cs ≡ ds → a ∷ cs ≡ b ∷ ds
cells_cons a b cs ds p q = cc

pub plain_back : (kinds : List Kind) (cs : List Cell) (ws r : List ℕ) → plain_words kinds cs ≡ Some ws → plain_from kinds (ws ++ r) ≡ cs
plain_back [] [] ws r h = refl
plain_back [] (c ∷ cs) ws r h = absurd cc
plain_back (kind ∷ kinds) [] ws r h = absurd cc
plain_back (kind ∷ kinds) (c ∷ cs) ws r h =
    let x = both_some (cell_words kind c) (plain_words kinds cs) ws h in
    let split : ws ++ r ≡ x.0 ++ (x.1 ++ r) = ap (λ (vs : List ℕ). vs ++ r) x.4 ∙ append_assoc x.0 x.1 r in
    let later : drop (words_of_kind kind) (x.0 ++ (x.1 ++ r)) ≡ x.1 ++ r = ap (λ (n : ℕ). drop n (x.0 ++ (x.1 ++ r))) (sym (beside_long (shorts_of_kind kind) x.0 (cell_beside kind c x.0 x.2))) ∙ drop_front x.0 (x.1 ++ r) in
    ap (λ (vs : List ℕ). plain_from (kind ∷ kinds) vs) split
    ∙ cells_cons _ c (plain_from kinds (drop (words_of_kind kind) (x.0 ++ (x.1 ++ r)))) cs (first_back kind c x.0 (x.1 ++ r) x.2)
    (ap (λ (vs : List ℕ). plain_from kinds vs) later ∙ plain_back kinds cs x.1 r x.3)

-- ---- packed

packed_of : (kinds : List Kind) (cs : List Cell) (ws : List ℕ) → key_words kinds cs ≡ Some ws → (us : List ℕ) × (plain_words kinds cs ≡ Some us) × (pack (shorts kinds) us ≡ ws)
packed_of kinds cs ws h = mapped (pack (shorts kinds)) (plain_words kinds cs) ws h

pub key_rank : (kinds : List Kind) (cs ds : List Cell) (ws vs : List ℕ) → key_words kinds cs ≡ Some ws → key_words kinds ds ≡ Some vs → (r s : List ℕ) → words_cmp (ws ++ r) (vs ++ s) ≡ ordering_then (key_cmp cs ds) (words_cmp r s)
key_rank kinds cs ds ws vs h k r s =
    let x = packed_of kinds cs ws h in
    let y = packed_of kinds ds vs k in
    ap (λ (xs : List ℕ). words_cmp (xs ++ r) (vs ++ s)) (sym x.2) ∙ ap (λ (ys : List ℕ). words_cmp (pack (shorts kinds) x.0 ++ r) (ys ++ s)) (sym y.2)
    ∙ pack_rank (shorts kinds) x.0 y.0 (plain_beside kinds cs x.0 x.1) (plain_beside kinds ds y.0 y.1) r s
    ∙ plain_rank kinds cs ds x.0 y.0 x.1 y.1 r s

pub key_long : (kinds : List Kind) (cs : List Cell) (ws : List ℕ) → key_words kinds cs ≡ Some ws → length ws ≡ word_count kinds
key_long kinds cs ws h = let x = packed_of kinds cs ws h in ap length (sym x.2) ∙ pack_long (shorts kinds) x.0 []

pub key_back : (kinds : List Kind) (cs : List Cell) (ws r : List ℕ) → key_words kinds cs ≡ Some ws → key_from kinds (ws ++ r) ≡ cs
key_back kinds cs ws r h =
    let x = packed_of kinds cs ws h in
    ap (λ (vs : List ℕ). key_from kinds (vs ++ r)) (sym x.2) ∙ ap (plain_from kinds) (pack_back (shorts kinds) x.0 r (plain_beside kinds cs x.0 x.1) ∙ sym (append-nil x.0)) ∙ plain_back kinds cs x.0 [] x.1

-- ---- padded

abbrev no_numbers : List ℕ
no_numbers = []

none_off : (n : ℕ) → n ≡ n - length no_numbers
none_off n = omega arith

pub padded_is : (n : ℕ) (ws : List ℕ) → length ws ≤ n → padded n ws ≡ ws ++ padded (n - length ws) []
padded_is n [] l = ap (λ (m : ℕ). padded m []) (none_off n)
padded_is zero (w ∷ ws) l = absurd (omega arith)
padded_is (suc n) (w ∷ ws) l =
    let less : n - length ws ≡ suc n - suc (length ws) = omega arith in
    ap (λ (vs : List ℕ). w ∷ vs) (padded_is n ws (omega arith)) ∙ ap (λ (m : ℕ). w ∷ (ws ++ padded m [])) less

pub get_or-padded : (n : ℕ) (ws : List ℕ) (i : ℕ) → length ws ≤ n → get_or (padded n ws) i 0 ≡ get_or ws i 0
get_or-padded zero [] i l = refl
get_or-padded zero (w ∷ ws) i l = absurd (omega arith)
get_or-padded (suc n) [] zero l = refl
get_or-padded (suc n) [] (suc i) l = get_or-padded n [] i (omega arith)
get_or-padded (suc n) (w ∷ ws) zero l = refl
get_or-padded (suc n) (w ∷ ws) (suc i) l = get_or-padded n ws i (omega arith)

words_cons : (v w : ℕ) (vs ws : List ℕ) → v ≡ w → vs ≡ ws → v ∷ vs ≡ w ∷ ws
words_cons v w vs ws p q = cc

pub padded_done : (n : ℕ) (ws out : List ℕ) → length out ≡ n → ((k : ℕ) → k < n → get_or out k 0 ≡ get_or ws k 0) → out ≡ padded n ws
padded_done zero ws [] l h = refl
padded_done zero ws (x ∷ xs) l h = absurd (omega arith)
padded_done (suc n) ws [] l h = absurd (omega arith)
padded_done (suc n) [] (x ∷ xs) l h = words_cons x 0 xs (padded n []) (h 0 (omega arith)) (padded_done n [] xs (omega arith) (λ k m. h (suc k) (omega arith)))
padded_done (suc n) (w ∷ ws) (x ∷ xs) l h = words_cons x w xs (padded n ws) (h 0 (omega arith)) (padded_done n ws xs (omega arith) (λ k m. h (suc k) (omega arith)))
