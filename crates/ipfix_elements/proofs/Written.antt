-- Texts of addresses and octets, as they are written piece by piece.
use Rattle.std.proofs.Common.{◌≡◌, ℕ, zero, suc, ◌+◌, ◌*◌, ◌<◌, ◌≤◌, ◌/◌, ◌%◌, List, [], ◌∷◌, ◌++◌, length, map, get_or, take, Option, Some, None, refl, sym, ap, subst, ◌∙◌, append_assoc, append-nil, arith}
use Rattle.std.specs.List.{join_with_byte}
use Rattle.std.specs.Fmt.{decimal}
use Rattle.std.specs.Io.KnownBytes.{Appends}
use Rattle.std.proofs.lemmas.List.{map_push, take_more, length-take-le, length-map}
use Rattle.std.proofs.lemmas.Fmt.{decimal_step}
use Rattle.hex.specs.Hex.{encode_with, encode_lower, lower_digits}
use Rattle.itoa.proofs.Decimal.{decimal_two}
use Rattle.ipfix_elements.specs.Texts.{octet_text, pairs, ipv4_text, ipv6_text}

-- what two writes append
pub appends_both : (a b c : Option (List ℕ)) (x y : List ℕ) → Appends a b x → Appends b c y → Appends a c (x ++ y)
appends_both None b c x y p q = tt
appends_both (Some a) None c x y p q = absurd p
appends_both (Some a) (Some b) None x y p q = absurd q
appends_both (Some a) (Some b) (Some c) x y p q = q ∙ ap (λ (t : List ℕ). t ++ y) p ∙ append_assoc a x y

pub encode-append : (xs ys : List ℕ) → encode_lower (xs ++ ys) ≡ encode_lower xs ++ encode_lower ys
unfolding encode_with
encode-append [] ys = refl
encode-append (x ∷ xs) ys = ap (λ (t : List ℕ). get_or lower_digits (x / 16) 0 ∷ get_or lower_digits (x % 16) 0 ∷ t) (encode-append xs ys)

-- an octet of three digits
pub decimal_three : (n : ℕ) → 100 ≤ n → n < 256 → decimal n ≡ (48 + n / 100) ∷ (48 + n / 10 % 10) ∷ (48 + n % 10) ∷ []
decimal_three n lo hi =
    let hundreds : n / 10 / 10 ≡ n / 100 = omega arith in
    rw (decimal_step n (omega arith) (omega arith), decimal_two (n / 10) (omega arith) (omega arith), hundreds)

-- an address of four octets, as written
pub dotted_text : (a : List ℕ) → length a ≡ 4
    → (((((decimal (get_or a 0 0) ++ 46 ∷ []) ++ decimal (get_or a 1 0)) ++ 46 ∷ []) ++ decimal (get_or a 2 0)) ++ 46 ∷ []) ++ decimal (get_or a 3 0) ≡ ipv4_text a
dotted_text [] h = absurd (omega arith)
dotted_text (a ∷ []) h = absurd (omega arith)
dotted_text (a ∷ b ∷ []) h = absurd (omega arith)
dotted_text (a ∷ b ∷ c ∷ []) h = absurd (omega arith)
dotted_text (a ∷ b ∷ c ∷ d ∷ []) h = simp append_assoc
dotted_text (a ∷ b ∷ c ∷ d ∷ e ∷ rest) h = absurd (omega arith)

-- one more piece after others
join-push : (c : ℕ) (xs : List (List ℕ)) (y : List ℕ) → 0 < length xs → join_with_byte c (xs ++ y ∷ []) ≡ join_with_byte c xs ++ (c ∷ y)
join-push c [] y some = absurd (omega arith)
join-push c (x ∷ []) y some = refl
join-push c (x ∷ z ∷ xs) y some =
    ap (λ (t : List ℕ). x ++ (c ∷ t)) (join-push c (z ∷ xs) y (omega arith)) ∙ sym (append_assoc x (c ∷ join_with_byte c (z ∷ xs)) (c ∷ y))

pairs-push : (k : ℕ) (xs : List ℕ) (a b : ℕ) → length xs ≡ 2 * k → pairs (xs ++ a ∷ b ∷ []) ≡ pairs xs ++ (a ∷ b ∷ []) ∷ []
pairs-push k [] a b h = refl
pairs-push k (x ∷ []) a b h = absurd (omega arith)
pairs-push zero (x ∷ y ∷ xs) a b h = absurd (omega arith)
pairs-push (suc k) (x ∷ y ∷ xs) a b h = ap (λ (t : List (List ℕ)). (x ∷ y ∷ []) ∷ t) (pairs-push k xs a b (omega arith))

length-pairs : (k : ℕ) (xs : List ℕ) → length xs ≡ 2 * k → length (pairs xs) ≡ k
length-pairs k [] h = omega arith
length-pairs k (x ∷ []) h = absurd (omega arith)
length-pairs zero (x ∷ y ∷ xs) h = absurd (omega arith)
length-pairs (suc k) (x ∷ y ∷ xs) h = omega (arith, length-pairs k xs (omega arith))

-- the first group of two octets
pub ipv6_first : (a : List ℕ) → 2 ≤ length a → octet_text (get_or a 0 0) ++ octet_text (get_or a 1 0) ≡ ipv6_text (take 2 a)
ipv6_first [] h = absurd (omega arith)
ipv6_first (x ∷ []) h = absurd (omega arith)
ipv6_first (x ∷ y ∷ rest) h = sym (encode-append (x ∷ []) (y ∷ []))

-- one more group of two octets
pub ipv6_more : (a : List ℕ) (i : ℕ) → 0 < i → 2 * i + 1 < length a
    → ((ipv6_text (take (2 * i) a) ++ 58 ∷ []) ++ octet_text (get_or a (2 * i) 0)) ++ octet_text (get_or a (2 * i + 1) 0) ≡ ipv6_text (take (2 * (i + 1)) a)
ipv6_more a i some within =
    let front = take (2 * i) a in
    let x = get_or a (2 * i) 0 in
    let y = get_or a (2 * i + 1) 0 in
    let even : length front ≡ 2 * i = length-take-le (2 * i) a (omega arith) in
    let groups = map encode_lower (pairs front) in
    let long : 0 < length groups = omega (arith, length-map (pairs front) encode_lower, length-pairs i front even) in
    let next : take (2 * (i + 1)) a ≡ front ++ x ∷ y ∷ [] =
    ap (λ (n : ℕ). take n a) (omega arith) ∙ take_more a (2 * i + 1) 0 within ∙ ap (λ (t : List ℕ). t ++ y ∷ []) (take_more a (2 * i) 0 (omega arith)) ∙ append_assoc front (x ∷ []) (y ∷ []) in
    append_assoc (ipv6_text front ++ 58 ∷ []) (octet_text x) (octet_text y)
    ∙ ap (λ (t : List ℕ). (ipv6_text front ++ 58 ∷ []) ++ t) (sym (encode-append (x ∷ []) (y ∷ [])))
    ∙ append_assoc (ipv6_text front) (58 ∷ []) (encode_lower (x ∷ y ∷ []))
    ∙ sym (join-push 58 groups (encode_lower (x ∷ y ∷ [])) long)
    ∙ ap (join_with_byte 58) (sym (map_push encode_lower (pairs front) (x ∷ y ∷ [])))
    ∙ ap (λ (t : List (List ℕ)). join_with_byte 58 (map encode_lower t)) (sym (pairs-push i front x y even))
    ∙ ap ipv6_text (sym next)

-- nothing is left to write
pub appends_all : (a b : Option (List ℕ)) (done rest whole : List ℕ) → length rest ≡ 0 → Appends a b done → done ++ encode_lower rest ≡ whole → Appends a b whole
unfolding encode_with
appends_all a b done [] whole none written is = subst (Appends a b) (sym (append-nil done) ∙ is) written
appends_all a b done (x ∷ rest) whole none written is = absurd (omega arith)
