-- Steps of the loops over the words of keys.
use Rattle.std.proofs.Common.{◌≡◌, ℕ, zero, suc, ◌+◌, ◌*◌, ◌/◌, ◌%◌, ◌^◌, ◌<◌, ◌≤◌, ◌&&◌, Bool, true, false, cond, not, List, [], ◌∷◌, ◌++◌, length, length-append, take, drop, drop-cons, get_or, Option, Some, None, option_map, refl, sym, ap, ◌∙◌, subst, append-nil, append_assoc, add-one, arith}
use Rattle.std.specs.Int.{from_be_bytes, w128}
use Rattle.std.specs.List.{AllZip}
use Rattle.std.proofs.lemmas.Bool.{and_parts, leb-true}
use Rattle.std.proofs.lemmas.List.{drop_all, take_all}
use Rattle.ipfix_elements.specs.declared.cell.Cell.{Cell}
use Rattle.ipfix_elements.specs.declared.kind.Kind.{Kind}
use Rattle.flow_table.specs.Fitting.{IsCellOf}
use Rattle.ipfix_elements.specs.declared.kind.Kind.TheVariants.{Unsigned, Ipv4, Ipv6, Mac, Seconds, Millis, Octets}
use Rattle.flow_table.specs.Plans.{IsPlan, PlanValue}
use Rattle.flow_table.specs.declared.words.CellWords.{CellWords}
use Rattle.flow_table.specs.declared.words.CellWords.TheVariants.{Short, One, Two}
use Rattle.flow_table.specs.Words.{HasWords, Pushes, address_words, begins_pair, both_words, cell_from, cell_words, first_of, is_short, key_from, key_words, pack, pack_after, plain_words, shorts, shorts_in, shorts_of_kind, spelled, unpack, waiting, word_count, words_in, words_of_kind}
use Rattle.flow_table.proofs.CellWords.{both_some}
use Rattle.flow_table.proofs.Octets.{octets_pass}

-- ---- counting

pack_few : (fs : List Bool) (ws : List ℕ) → length (pack fs ws) ≤ length fs
pack_few [] ws = omega arith
pack_few (false ∷ fs) ws = let rest = pack_few fs (drop 1 ws) in omega arith
pack_few (true ∷ []) ws = omega arith
pack_few (true ∷ false ∷ fs) ws = let rest = pack_few (false ∷ fs) (drop 1 ws) in omega arith
pack_few (true ∷ true ∷ fs) ws = let rest = pack_few fs (drop 2 ws) in omega arith

shorts_few : (kinds : List Kind) → length (shorts kinds) ≤ 2 * length kinds
shorts_few [] = omega arith
shorts_few (kind ∷ kinds) = let rest = shorts_few kinds in let first = one_few kind in omega (arith, length-append (shorts_of_kind kind) (shorts kinds))
  where
    one_few : (kind : Kind) → words_of_kind kind ≤ 2
    one_few (Unsigned width) = omega arith
    one_few Ipv4 = omega arith
    one_few Ipv6 = omega arith
    one_few Mac = omega arith
    one_few Seconds = omega arith
    one_few Millis = omega arith
    one_few Octets = omega arith

-- a plan has up to eight keys
pub kinds_few : (plan : PlanValue) → IsPlan plan → length plan.kinds ≤ 8
kinds_few plan h = let few = leb-true (length plan.keys) 8 h.few in omega (arith, h.beside)

pub words_few : (plan : PlanValue) → IsPlan plan → word_count plan.kinds ≤ 16
words_few plan h = let few = kinds_few plan h in omega (arith, pack_few (shorts plan.kinds) [], shorts_few plan.kinds)

-- how many words there are with those of kinds that are left, where the first is counted already if a short one waits
abbrev pub left_count : Bool → List Kind → ℕ
left_count waits kinds = length (pack (cond waits (true ∷ []) [] ++ shorts kinds) [])

one_counted : (short waits : Bool) (gs : List Bool) (count total : ℕ) → count + length (pack (cond waits (true ∷ []) [] ++ short ∷ gs) []) ≡ total + cond waits 1 0
    → (count + cond (waits && short) 0 1) + length (pack (cond (short && not waits) (true ∷ []) [] ++ gs) []) ≡ total + cond (short && not waits) 1 0
one_counted false false gs count total h = omega arith
one_counted false true gs count total h = omega arith
one_counted true false gs count total h = omega arith
one_counted true true gs count total h = omega arith

kind_counted : (kind : Kind) (waits : Bool) (kinds : List Kind) (count total : ℕ) → count + left_count waits (kind ∷ kinds) ≡ total + cond waits 1 0
    → (count + cond (waits && is_short kind) 0 (words_of_kind kind)) + left_count (is_short kind && not waits) kinds ≡ total + cond (is_short kind && not waits) 1 0
kind_counted (Unsigned width) waits kinds count total h = one_counted (is_short (Unsigned width)) waits (shorts kinds) count total h
kind_counted Ipv4 waits kinds count total h = one_counted true waits (shorts kinds) count total h
kind_counted Ipv6 true kinds count total h = omega arith
kind_counted Ipv6 false kinds count total h = omega arith
kind_counted Mac waits kinds count total h = one_counted false waits (shorts kinds) count total h
kind_counted Seconds waits kinds count total h = one_counted false waits (shorts kinds) count total h
kind_counted Millis waits kinds count total h = one_counted false waits (shorts kinds) count total h
kind_counted Octets waits kinds count total h = one_counted false waits (shorts kinds) count total h

-- with one kind more
pub count_more : (kinds : List Kind) (i : ℕ) (k : Kind) (waits now : Bool) (count more total : ℕ) → i < length kinds → more ≡ cond (waits && is_short (get_or kinds i k)) 0 (words_of_kind (get_or kinds i k))
    → now ≡ is_short (get_or kinds i k) && not waits → count + left_count waits (drop i kinds) ≡ total + cond waits 1 0 → count + more + left_count now (drop (i + 1) kinds) ≡ total + cond now 1 0
count_more kinds i k waits now count more total inside e f h =
    rw (e, f, add-one i) (kind_counted (get_or kinds i k) waits (drop (suc i) kinds) count total (ap (λ (ks : List Kind). count + left_count waits ks) (sym (drop-cons kinds i k inside)) ∙ h))

-- ---- pushing

after_half : (half : Option ℕ) (old mid ws new rest : List ℕ) → mid ≡ old ++ waiting half → new ≡ mid ++ ws → new ++ rest ≡ old ++ (waiting half ++ (ws ++ rest))
after_half half old mid ws new rest e f = rw (f, e) (append_assoc (old ++ waiting half) ws rest ∙ append_assoc old (waiting half) (ws ++ rest))

pub push_pair : (half : Option ℕ) (first word : ℕ) (old new : List ℕ) → half ≡ Some first → new ≡ old ++ (first * 2 ^ 32 + word) ∷ [] → Pushes half (Short word) old new None
push_pair half first word old new is e fs ws = rw is (rw e (append_assoc old ((first * 2 ^ 32 + word) ∷ []) (pack fs ws)))

pub push_one : (half : Option ℕ) (word : ℕ) (old mid new : List ℕ) → mid ≡ old ++ waiting half → new ≡ mid ++ word ∷ [] → Pushes half (One word) old new None
push_one None word old mid new e f fs ws = after_half None old mid (word ∷ []) new (pack fs ws) e f
push_one (Some first) word old mid new e f fs ws = after_half (Some first) old mid (word ∷ []) new (pack fs ws) e f

pub push_two : (half : Option ℕ) (high low : ℕ) (old mid more new : List ℕ) → mid ≡ old ++ waiting half → more ≡ mid ++ high ∷ [] → new ≡ more ++ low ∷ [] → Pushes half (Two high low) old new None
push_two None high low old mid more new e f g fs ws = after_half None old mid (high ∷ low ∷ []) new (pack fs ws) e (rw (g, f) (append_assoc mid (high ∷ []) (low ∷ [])))
push_two (Some first) high low old mid more new e f g fs ws = after_half (Some first) old mid (high ∷ low ∷ []) new (pack fs ws) e (rw (g, f) (append_assoc mid (high ∷ []) (low ∷ [])))

-- ---- the words of the first cells, of which a short one may wait

pub record FirstWords (kinds : List Kind) (found : List Cell) (i : ℕ) (half : Option ℕ) (words : List ℕ) : Type 0 where
  pub plain : List ℕ
  pub are : plain_words (take i kinds) found ≡ Some plain
  pub pushed : (ws : List ℕ) → words ++ pack_after half (shorts (drop i kinds)) ws ≡ pack (shorts kinds) (plain ++ ws)

pub words_begin : (kinds : List Kind) (words : List ℕ) → words ≡ [] → FirstWords kinds [] 0 None words
words_begin kinds words e = record { plain = []; are = refl; pushed = λ ws. ap (λ (vs : List ℕ). vs ++ pack (shorts kinds) ws) e }

-- the plain words so far, with those of one more cell
more_words : (kinds : List Kind) (found : List Cell) (words ws : List ℕ) (i : ℕ) (k : Kind) (cell : Cell) → i < length kinds
    → plain_words (take i kinds) found ≡ Some words → cell_words (get_or kinds i k) cell ≡ Some ws → plain_words (take (suc i) kinds) (found ++ cell ∷ []) ≡ Some (words ++ ws)
more_words [] found words ws i k cell inside so_far here = absurd (omega arith)
more_words (kind ∷ kinds) [] words ws zero k cell inside so_far here =
    let none : [] ≡ words = cc in
    ap (λ (o : Option (List ℕ)). both_words o (Some [])) here ∙ ap (λ (vs : List ℕ). Some vs) (append-nil ws) ∙ ap (λ (vs : List ℕ). Some (vs ++ ws)) none
more_words (kind ∷ kinds) (c ∷ found) words ws zero k cell inside so_far here = absurd cc
more_words (kind ∷ kinds) [] words ws (suc i) k cell inside so_far here = absurd cc
more_words (kind ∷ kinds) (c ∷ found) words ws (suc i) k cell inside so_far here =
    let x = both_some (cell_words kind c) (plain_words (take i kinds) found) words so_far in
    ap (λ (o : Option (List ℕ)). both_words o (plain_words (take (suc i) kinds) (found ++ cell ∷ []))) x.2
    ∙ ap (λ (o : Option (List ℕ)). both_words (Some x.0) o) (more_words kinds found x.1 ws i k cell (omega arith) x.3 here)
    ∙ ap (λ (vs : List ℕ). Some vs) (sym (append_assoc x.0 x.1 ws)) ∙ ap (λ (vs : List ℕ). Some (vs ++ ws)) (sym x.4)

pub words_more : (kinds : List Kind) (found : List Cell) (i : ℕ) (half now : Option ℕ) (words new : List ℕ) (k : Kind) (cell : Cell) (of : CellWords) → i < length kinds
    → HasWords (get_or kinds i k) cell of → Pushes half of words new now → FirstWords kinds found i half words → FirstWords kinds (found ++ cell ∷ []) (i + 1) now new
words_more kinds found i half now words new k cell of inside has pushes first =
    let next : shorts (drop i kinds) ≡ shorts_in of ++ shorts (drop (i + 1) kinds) = rw (add-one i, drop-cons kinds i k) (ap (λ (fs : List Bool). fs ++ shorts (drop (suc i) kinds)) has.short) in
    record {
      plain = first.plain ++ words_in of;
      are = rw (add-one i) (more_words kinds found first.plain (words_in of) i k cell inside first.are has.are);
      pushed = λ ws.
          pushes (shorts (drop (i + 1) kinds)) ws ∙ ap (λ (fs : List Bool). words ++ pack_after half fs (words_in of ++ ws)) (sym next)
          ∙ first.pushed (words_in of ++ ws) ∙ ap (pack (shorts kinds)) (sym (append_assoc first.plain (words_in of) ws));
    }

pub words_done : (kinds : List Kind) (found : List Cell) (i : ℕ) (half : Option ℕ) (words new : List ℕ) → length kinds ≤ i → new ≡ words ++ waiting half → FirstWords kinds found i half words → key_words kinds found ≡ Some new
words_done kinds found i half words new past last first =
    let all : plain_words kinds found ≡ Some first.plain = subst (λ (ks : List Kind). plain_words ks found ≡ Some first.plain) (take_all i kinds past) first.are in
    let packed : pack (shorts kinds) first.plain ≡ new =
    ap (pack (shorts kinds)) (sym (append-nil first.plain)) ∙ sym (first.pushed [])
    ∙ ap (λ (ks : List Kind). words ++ pack_after half (shorts ks) []) (drop_all i kinds past) ∙ ap (λ (ws : List ℕ). words ++ ws) (left_over half) ∙ sym last in
    ap (option_map (pack (shorts kinds))) all ∙ ap (λ (ws : List ℕ). Some ws) packed
  where
    left_over : (half : Option ℕ) → pack_after half [] [] ≡ waiting half
    left_over None = refl
    left_over (Some word) = refl

-- a cell of each kind
pub cell_at : (kinds : List Kind) (cells : List Cell) (i : ℕ) (k : Kind) (c : Cell) → i < length cells → AllZip IsCellOf kinds cells → IsCellOf (get_or kinds i k) (get_or cells i c)
cell_at [] [] i k c inside fits = absurd (omega arith)
cell_at [] (cell ∷ cells) i k c inside fits = absurd fits
cell_at (kind ∷ kinds) [] i k c inside fits = absurd (omega arith)
cell_at (kind ∷ kinds) (cell ∷ cells) zero k c inside fits = fits.0
cell_at (kind ∷ kinds) (cell ∷ cells) (suc i) k c inside fits = cell_at kinds cells i k c (omega arith) fits.1

pub as_many : (kinds : List Kind) (cells : List Cell) → AllZip IsCellOf kinds cells → length kinds ≡ length cells
as_many [] [] fits = refl
as_many [] (cell ∷ cells) fits = absurd fits
as_many (kind ∷ kinds) [] fits = absurd fits
as_many (kind ∷ kinds) (cell ∷ cells) fits = ap suc (as_many kinds cells fits.1)

-- ---- and back

-- the cells that are left, the first of which has the second half of a word if that was read
abbrev pub left_cells : Option ℕ → List Kind → List ℕ → List Cell
left_cells None kinds ws = key_from kinds ws
left_cells (Some half) [] ws = []
left_cells (Some half) (kind ∷ kinds) ws = cell_from kind half 0 ∷ key_from kinds ws

cells_cons : (a b : Cell) (cs ds : List Cell) → a ≡ b → cs ≡ ds → a ∷ cs ≡ b ∷ ds
cells_cons a b cs ds p q = cc

short_alone : (kind : Kind) → is_short kind ≡ true → (shorts_of_kind kind ≡ true ∷ []) × ((x y : ℕ) → cell_from kind x y ≡ cell_from kind x 0)
short_alone (Unsigned width) h = (ap (λ (f : Bool). f ∷ []) h, λ x y. refl)
short_alone Ipv4 h = (refl, λ x y. refl)
short_alone Ipv6 h = absurd cc
short_alone Mac h = absurd cc
short_alone Seconds h = absurd cc
short_alone Millis h = absurd cc
short_alone Octets h = absurd cc

pub pair_from : (kind : Kind) (kinds : List Kind) (ws : List ℕ) → begins_pair (kind ∷ kinds) ≡ true → key_from (kind ∷ kinds) ws ≡ cell_from kind (get_or ws 0 0 / 2 ^ 32) 0 ∷ left_cells (Some (get_or ws 0 0 % 2 ^ 32)) kinds (drop 1 ws)
pair_from kind [] ws h = absurd cc
pair_from kind (other ∷ kinds) ws h =
    let both = and_parts (is_short kind) (is_short other) h in
    let a = short_alone kind both.0 in
    let b = short_alone other both.1 in
    rw (a.0, b.0) (cells_cons _ _ _ _ (a.1 (get_or ws 0 0 / 2 ^ 32) (get_or ws 0 0 % 2 ^ 32)) (cells_cons _ _ _ _ (b.1 (get_or ws 0 0 % 2 ^ 32) (get_or (unpack (shorts kinds) (drop 1 ws)) 0 0)) refl))

pub one_left : (kinds : List Kind) (i : ℕ) → length kinds ≤ i + 1 → begins_pair (drop i kinds) ≡ false
one_left [] zero l = refl
one_left [] (suc i) l = refl
one_left (kind ∷ []) zero l = refl
one_left (kind ∷ other ∷ kinds) zero l = absurd (omega arith)
one_left (kind ∷ kinds) (suc i) l = one_left kinds i (omega arith)

-- whether the first is short
abbrev first_short : List Bool → Bool
first_short [] = false
first_short (f ∷ fs) = f

unpack_alone : (f : Bool) (gs : List Bool) (ws : List ℕ) → f && first_short gs ≡ false → unpack (f ∷ gs) ws ≡ get_or ws 0 0 ∷ unpack gs (drop 1 ws)
unpack_alone false gs ws h = refl
unpack_alone true [] ws h = refl
unpack_alone true (false ∷ gs) ws h = refl
unpack_alone true (true ∷ gs) ws h = absurd cc

no_pair : (kind : Kind) (kinds : List Kind) → begins_pair (kind ∷ kinds) ≡ false → is_short kind && first_short (shorts kinds) ≡ false
no_pair kind [] h = never (is_short kind)
  where
    never : (b : Bool) → b && false ≡ false
    never true = refl
    never false = refl
no_pair kind (other ∷ kinds) h = ap (λ (b : Bool). is_short kind && b) (first_of_other other) ∙ h
  where
    first_of_other : (other : Kind) → first_short (shorts (other ∷ kinds)) ≡ is_short other
    first_of_other (Unsigned width) = refl
    first_of_other Ipv4 = refl
    first_of_other Ipv6 = refl
    first_of_other Mac = refl
    first_of_other Seconds = refl
    first_of_other Millis = refl
    first_of_other Octets = refl

single_from : (kind : Kind) (kinds : List Kind) (ws : List ℕ) → begins_pair (kind ∷ kinds) ≡ false → shorts_of_kind kind ≡ is_short kind ∷ [] → ((x y z : ℕ) → cell_from kind x y ≡ cell_from kind x z)
    → key_from (kind ∷ kinds) ws ≡ cell_from kind (get_or ws 0 0) (get_or ws 1 0) ∷ key_from kinds (drop (words_of_kind kind) ws)
single_from kind kinds ws h one alone =
    rw (one, unpack_alone (is_short kind) (shorts kinds) ws (no_pair kind kinds h)) (cells_cons _ _ _ _ (alone (get_or ws 0 0) (get_or (unpack (shorts kinds) (drop 1 ws)) 0 0) (get_or ws 1 0)) refl)

pub alone_from : (kind : Kind) (kinds : List Kind) (ws : List ℕ) → begins_pair (kind ∷ kinds) ≡ false → key_from (kind ∷ kinds) ws ≡ cell_from kind (get_or ws 0 0) (get_or ws 1 0) ∷ key_from kinds (drop (words_of_kind kind) ws)
alone_from (Unsigned width) kinds ws h = single_from (Unsigned width) kinds ws h refl (λ x y z. refl)
alone_from Ipv4 kinds ws h = single_from Ipv4 kinds ws h refl (λ x y z. refl)
alone_from Ipv6 kinds [] h = refl
alone_from Ipv6 kinds (w ∷ ws) h = refl
alone_from Mac kinds ws h = single_from Mac kinds ws h refl (λ x y z. refl)
alone_from Seconds kinds ws h = single_from Seconds kinds ws h refl (λ x y z. refl)
alone_from Millis kinds ws h = single_from Millis kinds ws h refl (λ x y z. refl)
alone_from Octets kinds ws h = single_from Octets kinds ws h refl (λ x y z. refl)

-- one cell of those that are left was put after the others
pub cell_more : (cells new : List Cell) (found cell : Cell) (before later all : List Cell) → new ≡ cells ++ found ∷ [] → found ≡ cell → before ≡ cell ∷ later → cells ++ before ≡ all → new ++ later ≡ all
cell_more cells new found cell before later all e f g h = rw (e, f) (append_assoc cells (cell ∷ []) later ∙ ap (λ (cs : List Cell). cells ++ cs) (sym g) ∙ h)

module _ (kinds : List Kind) (i : ℕ) (k : Kind) (half : Option ℕ) (ws : List ℕ) (inside : i < length kinds) where
  pub second_left : (word : ℕ) → half ≡ Some word → left_cells half (drop i kinds) ws ≡ cell_from (get_or kinds i k) word 0 ∷ left_cells None (drop (i + 1) kinds) ws
  second_left word is = rw (is, drop-cons kinds i k, add-one i) refl

  pub first_left : half ≡ None → true ≡ begins_pair (drop i kinds) → left_cells half (drop i kinds) ws ≡ cell_from (get_or kinds i k) (get_or ws 0 0 / 2 ^ 32) 0 ∷ left_cells (Some (get_or ws 0 0 % 2 ^ 32)) (drop (i + 1) kinds) (drop 1 ws)
  first_left none pair =
      let here = drop-cons kinds i k inside in
      rw (none, add-one i) (ap (λ (ks : List Kind). key_from ks ws) here ∙ pair_from (get_or kinds i k) (drop (suc i) kinds) ws (ap begins_pair (sym here) ∙ sym pair))

  pub one_alone : half ≡ None → false ≡ begins_pair (drop i kinds) → left_cells half (drop i kinds) ws ≡ cell_from (get_or kinds i k) (get_or ws 0 0) (get_or ws 1 0) ∷ left_cells half (drop (i + 1) kinds) (drop (words_of_kind (get_or kinds i k)) ws)
  one_alone none alone =
      let here = drop-cons kinds i k inside in
      rw (none, add-one i) (ap (λ (ks : List Kind). key_from ks ws) here ∙ alone_from (get_or kinds i k) (drop (suc i) kinds) ws (ap begins_pair (sym here) ∙ sym alone))

-- ---- numbers

first_next : (n : ℕ) (f : ℕ → ℕ) → first_of (suc n) f ≡ first_of n f ++ f n ∷ []
first_next zero f = refl
first_next (suc n) f = ap (λ (ms : List ℕ). f 0 ∷ ms) (first_next n (λ i. f (suc i)))

pub first_more : (n : ℕ) (f : ℕ → ℕ) → first_of (n + 1) f ≡ first_of n f ++ f n ∷ []
first_more n f = ap (λ (m : ℕ). first_of m f) (add-one n) ∙ first_next n f

-- ---- sixteen octets

-- a number in two halves
higher : (high low : ℕ) → low < 2 ^ 64 → high ≡ (high * 2 ^ 64 + low) / 2 ^ 64
higher high low small = omega arith

lower : (high low : ℕ) → low < 2 ^ 64 → low ≡ (high * 2 ^ 64 + low) % 2 ^ 64
lower high low small = omega arith

sixteen_spell : (a b c d e f g h i j k l m n o p : ℕ) → spelled 0 (a ∷ b ∷ c ∷ d ∷ e ∷ f ∷ g ∷ h ∷ []) * 2 ^ 64 + spelled 0 (i ∷ j ∷ k ∷ l ∷ m ∷ n ∷ o ∷ p ∷ [])
    ≡ from_be_bytes w128 (a ∷ b ∷ c ∷ d ∷ e ∷ f ∷ g ∷ h ∷ i ∷ j ∷ k ∷ l ∷ m ∷ n ∷ o ∷ p ∷ [])
sixteen_spell a b c d e f g h i j k l m n o p = omega arith

eight_small : (a b c d e f g h : ℕ) → a < 256 → b < 256 → c < 256 → d < 256 → e < 256 → f < 256 → g < 256 → h < 256 → spelled 0 (a ∷ b ∷ c ∷ d ∷ e ∷ f ∷ g ∷ h ∷ []) < 2 ^ 64
eight_small a b c d e f g h p q r s t u v w = omega arith

pub sixteen : (xs : List ℕ) → length xs ≡ 16 → ((i : ℕ) → get_or xs i 0 < 256)
    → address_words 16 xs (spelled 0 (take 8 xs) ∷ spelled 0 (drop 8 xs) ∷ []) ≡ Some (from_be_bytes w128 xs / 2 ^ 64 ∷ from_be_bytes w128 xs % 2 ^ 64 ∷ [])
sixteen [] len small = absurd (omega arith)
sixteen (a ∷ []) len small = absurd (omega arith)
sixteen (a ∷ b ∷ []) len small = absurd (omega arith)
sixteen (a ∷ b ∷ c ∷ []) len small = absurd (omega arith)
sixteen (a ∷ b ∷ c ∷ d ∷ []) len small = absurd (omega arith)
sixteen (a ∷ b ∷ c ∷ d ∷ e ∷ []) len small = absurd (omega arith)
sixteen (a ∷ b ∷ c ∷ d ∷ e ∷ f ∷ []) len small = absurd (omega arith)
sixteen (a ∷ b ∷ c ∷ d ∷ e ∷ f ∷ g ∷ []) len small = absurd (omega arith)
sixteen (a ∷ b ∷ c ∷ d ∷ e ∷ f ∷ g ∷ h ∷ []) len small = absurd (omega arith)
sixteen (a ∷ b ∷ c ∷ d ∷ e ∷ f ∷ g ∷ h ∷ i ∷ []) len small = absurd (omega arith)
sixteen (a ∷ b ∷ c ∷ d ∷ e ∷ f ∷ g ∷ h ∷ i ∷ j ∷ []) len small = absurd (omega arith)
sixteen (a ∷ b ∷ c ∷ d ∷ e ∷ f ∷ g ∷ h ∷ i ∷ j ∷ k ∷ []) len small = absurd (omega arith)
sixteen (a ∷ b ∷ c ∷ d ∷ e ∷ f ∷ g ∷ h ∷ i ∷ j ∷ k ∷ l ∷ []) len small = absurd (omega arith)
sixteen (a ∷ b ∷ c ∷ d ∷ e ∷ f ∷ g ∷ h ∷ i ∷ j ∷ k ∷ l ∷ m ∷ []) len small = absurd (omega arith)
sixteen (a ∷ b ∷ c ∷ d ∷ e ∷ f ∷ g ∷ h ∷ i ∷ j ∷ k ∷ l ∷ m ∷ n ∷ []) len small = absurd (omega arith)
sixteen (a ∷ b ∷ c ∷ d ∷ e ∷ f ∷ g ∷ h ∷ i ∷ j ∷ k ∷ l ∷ m ∷ n ∷ o ∷ []) len small = absurd (omega arith)
sixteen (a ∷ b ∷ c ∷ d ∷ e ∷ f ∷ g ∷ h ∷ i ∷ j ∷ k ∷ l ∷ m ∷ n ∷ o ∷ p ∷ []) len small =
    let high = spelled 0 (a ∷ b ∷ c ∷ d ∷ e ∷ f ∷ g ∷ h ∷ []) in
    let low = spelled 0 (i ∷ j ∷ k ∷ l ∷ m ∷ n ∷ o ∷ p ∷ []) in
    let few : low < 2 ^ 64 = eight_small i j k l m n o p (small 8) (small 9) (small 10) (small 11) (small 12) (small 13) (small 14) (small 15) in
    let whole = sixteen_spell a b c d e f g h i j k l m n o p in
    ap (λ (t : Bool). cond t (Some (spelled 0 (a ∷ b ∷ c ∷ d ∷ e ∷ f ∷ g ∷ h ∷ []) ∷ spelled 0 (i ∷ j ∷ k ∷ l ∷ m ∷ n ∷ o ∷ p ∷ []) ∷ [])) None) (octets_pass (a ∷ b ∷ c ∷ d ∷ e ∷ f ∷ g ∷ h ∷ i ∷ j ∷ k ∷ l ∷ m ∷ n ∷ o ∷ p ∷ []) small)
    ∙ ap (λ (w : ℕ). Some (w ∷ low ∷ [])) (higher high low few ∙ ap (λ (n : ℕ). n / 2 ^ 64) whole)
    ∙ ap (λ (w : ℕ). Some (from_be_bytes w128 (a ∷ b ∷ c ∷ d ∷ e ∷ f ∷ g ∷ h ∷ i ∷ j ∷ k ∷ l ∷ m ∷ n ∷ o ∷ p ∷ []) / 2 ^ 64 ∷ w ∷ [])) (lower high low few ∙ ap (λ (n : ℕ). n % 2 ^ 64) whole)
sixteen (a ∷ b ∷ c ∷ d ∷ e ∷ f ∷ g ∷ h ∷ i ∷ j ∷ k ∷ l ∷ m ∷ n ∷ o ∷ p ∷ q ∷ xs) len small = absurd (omega arith)
