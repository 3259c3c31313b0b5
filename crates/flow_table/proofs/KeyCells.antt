-- The cells of a record's key, one after another.
use Rattle.std.proofs.Common.{◌≡◌, ℕ, zero, suc, ◌+◌, ◌<◌, ◌≤◌, List, [], ◌∷◌, ◌++◌, length, get_or, take, drop, drop-cons, append-nil, append_assoc, option_map, Option, Some, None, refl, sym, ap, ◌∙◌, subst, add-one, arith}
use Rattle.std.specs.List.{AllZip}
use Rattle.std.proofs.lemmas.List.{take_all, drop_all}
use Rattle.ipfix_elements.specs.declared.cell.Cell.{Cell}
use Rattle.ipfix_elements.specs.declared.kind.Kind.{Kind}
use Rattle.flow_table.specs.declared.key.Key.{Key}
use Rattle.flow_table.specs.Fitting.{IsCellOf}
use Rattle.flow_table.specs.Missing.{first_without}
use Rattle.flow_table.specs.Reading.{cell_of, cells_of}
use Rattle.flow_table.specs.Readings.{HasCell, HasKey}
use Rattle.flow_table.specs.declared.words.CellWords.{CellWords}
use Rattle.flow_table.specs.Words.{Pushes, waiting}
use Rattle.flow_table.proofs.WordSteps.{FirstWords, words_begin, words_done, words_more}
use Rattle.ipfix_message.specs.declared.record.DataRecord.{DataRecord}

zip_more : {A B : Type 0} (R : A → B → Type 0) (xs : List A) (ys : List B) (i : ℕ) (d : A) (y : B) → i < length xs → AllZip R (take i xs) ys → R (get_or xs i d) y → AllZip R (take (suc i) xs) (ys ++ y ∷ [])
zip_more R [] ys i d y inside all here = absurd (omega arith)
zip_more R (x ∷ xs) [] zero d y inside all here = (here, tt)
zip_more R (x ∷ xs) (z ∷ ys) zero d y inside all here = absurd all
zip_more R (x ∷ xs) [] (suc i) d y inside all here = absurd all
zip_more R (x ∷ xs) (z ∷ ys) (suc i) d y inside all here = (all.0, zip_more R xs ys i d y (omega arith) all.1 here)

-- one more cell that fits
more_fit : (kinds : List Kind) (found news : List Cell) (i : ℕ) (k : Kind) (cell : Cell) → i < length kinds
    → AllZip IsCellOf (take i kinds) found → IsCellOf (get_or kinds i k) cell → news ≡ found ++ cell ∷ [] → AllZip IsCellOf (take (i + 1) kinds) news
more_fit kinds found news i k cell inside all here pushed = rw (add-one i, pushed) (zip_more IsCellOf kinds found i k cell inside all here)

-- the cells so far, with one more
push_all : (found : List Cell) (cell : Cell) (o : Option (List Cell)) → option_map (λ (rest : List Cell). found ++ rest) (option_map (λ (rest : List Cell). cell ∷ rest) o) ≡ option_map (λ (rest : List Cell). (found ++ cell ∷ []) ++ rest) o
push_all found cell None = refl
push_all found cell (Some rest) = ap (λ (cs : List Cell). Some cs) (sym (append_assoc found (cell ∷ []) rest))

cells_more : (keys : List Key) (kinds : List Kind) (r : DataRecord) (found news : List Cell) (i : ℕ) (d : Key) (k : Kind) (cell : Cell) → i < length keys → i < length kinds
    → Some cell ≡ cell_of (get_or keys i d) (get_or kinds i k) r → news ≡ found ++ cell ∷ []
    → cells_of keys kinds r ≡ option_map (λ (rest : List Cell). found ++ rest) (cells_of (drop i keys) (drop i kinds) r)
    → cells_of keys kinds r ≡ option_map (λ (rest : List Cell). news ++ rest) (cells_of (drop (i + 1) keys) (drop (i + 1) kinds) r)
cells_more keys kinds r found news i d k cell inside beside here pushed so_far =
    let first : cells_of (drop i keys) (drop i kinds) r ≡ option_map (λ (rest : List Cell). cell ∷ rest) (cells_of (drop (i + 1) keys) (drop (i + 1) kinds) r) =
    rw (add-one i, drop-cons keys i d, drop-cons kinds i k) (rw (← here) refl) in
    rw pushed (so_far ∙ ap (λ (o : Option (List Cell)). option_map (λ (rest : List Cell). found ++ rest) o) first ∙ push_all found cell (cells_of (drop (i + 1) keys) (drop (i + 1) kinds) r))

-- the first missing key is among those that are left
further : (i : ℕ) (o : Option ℕ) → option_map (λ (k : ℕ). i + k) (option_map (λ (k : ℕ). suc k) o) ≡ option_map (λ (k : ℕ). i + 1 + k) o
further i None = refl
further i (Some k) = let same : i + suc k ≡ i + 1 + k = omega arith in ap (λ (n : ℕ). Some n) same

pub place_more : (keys : List Key) (kinds : List Kind) (r : DataRecord) (i : ℕ) (d : Key) (n : Kind) (cell : Cell) (first : Option ℕ) → i < length keys → i < length kinds
    → Some cell ≡ cell_of (get_or keys i d) (get_or kinds i n) r
    → first ≡ option_map (λ (k : ℕ). i + k) (first_without (drop i keys) (drop i kinds) r)
    → first ≡ option_map (λ (k : ℕ). i + 1 + k) (first_without (drop (i + 1) keys) (drop (i + 1) kinds) r)
place_more keys kinds r i d n cell first inside beside here so_far =
    let next : first_without (drop i keys) (drop i kinds) r ≡ option_map (λ (k : ℕ). suc k) (first_without (drop (i + 1) keys) (drop (i + 1) kinds) r) =
    rw (add-one i, drop-cons keys i d, drop-cons kinds i n) (rw (← here) refl) in
    so_far ∙ ap (option_map (λ (k : ℕ). i + k)) next ∙ further i (first_without (drop (i + 1) keys) (drop (i + 1) kinds) r)

-- ---- the words of the first keys, which have a cell each

pub record FirstKeys (keys : List Key) (kinds : List Kind) (r : DataRecord) (i : ℕ) (half : Option ℕ) (words : List ℕ) : Type 0 where
  pub found : List Cell
  pub cells : cells_of keys kinds r ≡ option_map (λ (rest : List Cell). found ++ rest) (cells_of (drop i keys) (drop i kinds) r)
  pub fits : AllZip IsCellOf (take i kinds) found
  pub are : FirstWords kinds found i half words

pub no_keys : (keys : List Key) (kinds : List Kind) (r : DataRecord) (words : List ℕ) → words ≡ [] → FirstKeys keys kinds r 0 None words
no_keys keys kinds r words e =
    record { found = []; cells = sym (nothing_first (cells_of keys kinds r)); fits = tt; are = words_begin kinds words e }
  where
    nothing_first : (o : Option (List Cell)) → option_map (λ (rest : List Cell). [] ++ rest) o ≡ o
    nothing_first None = refl
    nothing_first (Some cells) = refl

pub one_key_more : (keys : List Key) (kinds : List Kind) (r : DataRecord) (half now : Option ℕ) (words new : List ℕ) (of : CellWords) (i : ℕ) (d : Key) (k : Kind) → i < length keys → i < length kinds
    → HasCell (get_or kinds i k) (cell_of (get_or keys i d) (get_or kinds i k) r) of → Pushes half of words new now → FirstKeys keys kinds r i half words → FirstKeys keys kinds r (i + 1) now new
one_key_more keys kinds r half now words new of i d k inside beside has pushes first =
    record {
      found = first.found ++ has.cell ∷ [];
      cells = cells_more keys kinds r first.found (first.found ++ has.cell ∷ []) i d k has.cell inside beside (sym has.is) refl first.cells;
      fits = more_fit kinds first.found (first.found ++ has.cell ∷ []) i k has.cell beside first.fits has.fits refl;
      are = words_more kinds first.found i half now words new k has.cell of beside has.are pushes first.are;
    }

pub all_keys : (keys : List Key) (kinds : List Kind) (r : DataRecord) (half : Option ℕ) (words new : List ℕ) (i : ℕ) → length keys ≤ i → length kinds ≤ i → new ≡ words ++ waiting half → FirstKeys keys kinds r i half words → HasKey keys kinds r new
all_keys keys kinds r half words new i past beside last first =
    record {
      key = first.found;
      is = first.cells ∙ ap (λ (ks : List Key). option_map (λ (rest : List Cell). first.found ++ rest) (cells_of ks (drop i kinds) r)) (drop_all i keys past) ∙ ap (λ (cs : List Cell). Some cs) (append-nil first.found);
      fits = subst (λ (ks : List Kind). AllZip IsCellOf ks first.found) (take_all i kinds beside) first.fits;
      are = words_done kinds first.found i half words new beside last first.are;
    }

-- ---- the first key that a record lacks

-- where there is no key
abbrev pub nowhere : Key
nowhere = record { element = record { pen = 0; number = 0 }; prefix = None }

pub all_left : (o : Option ℕ) → o ≡ option_map (λ (k : ℕ). 0 + k) o
all_left None = refl
all_left (Some k) = let same : k ≡ 0 + k = omega arith in ap (λ (n : ℕ). Some n) same

pub none_left : (keys : List Key) (kinds : List Kind) (r : DataRecord) (i : ℕ) (first : Option ℕ) → length keys ≤ i → first ≡ option_map (λ (k : ℕ). i + k) (first_without (drop i keys) (drop i kinds) r) → first ≡ None
none_left keys kinds r i first past so_far = so_far ∙ ap (λ (ks : List Key). option_map (λ (k : ℕ). i + k) (first_without ks (drop i kinds) r)) (drop_all i keys past)

pub here_none : (keys : List Key) (kinds : List Kind) (r : DataRecord) (i : ℕ) (d : Key) (n : Kind) (first : Option ℕ) → i < length keys → i < length kinds → cell_of (get_or keys i d) (get_or kinds i n) r ≡ None
    → first ≡ option_map (λ (k : ℕ). i + k) (first_without (drop i keys) (drop i kinds) r) → first ≡ Some i
here_none keys kinds r i d n first inside beside none so_far =
    let here : first_without (drop i keys) (drop i kinds) r ≡ Some 0 = rw (drop-cons keys i d, drop-cons kinds i n, none) refl in
    let same : i + 0 ≡ i = omega arith in
    so_far ∙ ap (option_map (λ (k : ℕ). i + k)) here ∙ ap (λ (k : ℕ). Some k) same

pub no_key : (keys : List Key) (kinds : List Kind) (r : DataRecord) (half : Option ℕ) (words : List ℕ) (i : ℕ) (d : Key) (k : Kind) → i < length keys → i < length kinds → cell_of (get_or keys i d) (get_or kinds i k) r ≡ None
    → FirstKeys keys kinds r i half words → cells_of keys kinds r ≡ None
no_key keys kinds r half words i d k inside beside none first =
    let here : cells_of (drop i keys) (drop i kinds) r ≡ None = rw (drop-cons keys i d, drop-cons kinds i k, none) refl in
    first.cells ∙ ap (option_map (λ (rest : List Cell). first.found ++ rest)) here
