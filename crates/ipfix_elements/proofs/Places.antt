-- Pieces that are written at places, one after another.
use Rattle.std.proofs.Common.{◌≡◌, ℕ, ◌+◌, ◌<◌, List, [], ◌∷◌, ◌++◌, length, get_or, take, drop, refl, sym, ap, ◌∙◌, append_assoc, length-append, take-add, arith}
use Rattle.std.specs.List.{flat_map}
use Rattle.std.proofs.lemmas.List.{append-nil, drop-drop, take_more}
use Rattle.std.proofs.lemmas.Grind.{flat_map-append}
use Rattle.ipfix_elements.specs.Placed.{Placed}

-- the next piece begins where the one before it ended
pub then_placed : {a b c xs ys : List ℕ} {i j k : ℕ} → Placed a b i xs j → Placed b c j ys k → Placed a c i (xs ++ ys) k
then_placed {a} {b} {c} {xs} {ys} {i} {j} {k} p q = record {
  written = q.written ∙ ap (λ (t : List ℕ). t ++ ys) p.written ∙ append_assoc (take i a) xs ys;
  behind = q.behind ∙ ap (λ (m : ℕ). drop m b) q.moved ∙ sym (drop-drop (length ys) j b) ∙ ap (drop (length ys)) p.behind ∙ drop-drop (length ys) j a ∙ ap (λ (m : ℕ). drop m a) (sym q.moved);
  moved = omega (arith, p.moved, q.moved, length-append xs ys);
  room = q.room ∙ p.room;
}

-- the piece by another name
pub placed_as : {a b xs ys : List ℕ} {i j : ℕ} → xs ≡ ys → Placed a b i xs j → Placed a b i ys j
placed_as {a} {b} {xs} {ys} {i} {j} same p = rw same at p

-- one more, after those that were written
pub one_more_placed : {X : Type 0} {a b c : List ℕ} {i j k : ℕ} (text : X → List ℕ) (xs : List X) (n : ℕ) (d x : X) → n < length xs → x ≡ get_or xs n d
    → Placed a b i (flat_map text (take n xs)) j → Placed b c j (text x) k → Placed a c i (flat_map text (take (n + 1) xs)) k
one_more_placed {X} text xs n d x inside is_x p q =
    let more : take (n + 1) xs ≡ take n xs ++ x ∷ [] = take_more xs n d inside ∙ ap (λ (y : X). take n xs ++ y ∷ []) (sym is_x) in
    let text_more : flat_map text (take n xs) ++ text x ≡ flat_map text (take (n + 1) xs) =
    ap (λ (t : List ℕ). flat_map text (take n xs) ++ t) (sym (append-nil (text x))) ∙ sym (flat_map-append text (take n xs) (x ∷ [])) ∙ ap (flat_map text) (sym more) in
    placed_as text_more (then_placed p q)

-- no piece, where it begins
pub none_placed : (octets : List ℕ) (at : ℕ) → Placed octets octets at [] at
none_placed octets at = record { written = sym (append-nil (take at octets)); behind = refl; moved = omega arith; room = refl }

-- one piece alone
pub one_placed : {X : Type 0} {a b : List ℕ} {i j : ℕ} (text : X → List ℕ) (xs rest : List X) (x : X) → xs ≡ x ∷ rest → Placed a b i (text x) j → Placed a b i (flat_map text (take 1 xs)) j
one_placed text xs rest x is p = placed_as (sym (append-nil (text x)) ∙ ap (λ ys. flat_map text (take 1 ys)) (sym is)) p

-- the pieces of the next of what is left, after those that were written
pub next_placed : {X : Type 0} {a b c : List ℕ} {i j k : ℕ} (text : X → List ℕ) (all left : List X) (n : ℕ) → left ≡ drop n all
    → Placed a b i (flat_map text (take n all)) j → Placed b c j (flat_map text (take 1 left)) k → Placed a c i (flat_map text (take (n + 1) all)) k
next_placed {X} text all left n is p q =
    let more : flat_map text (take n all) ++ flat_map text (take 1 left) ≡ flat_map text (take (n + 1) all) =
    ap (λ (xs : List X). flat_map text (take n all) ++ flat_map text (take 1 xs)) is ∙ sym (flat_map-append text (take n all) (take 1 (drop n all))) ∙ ap (flat_map text) (sym (take-add n 1 all)) in
    placed_as more (then_placed p q)
