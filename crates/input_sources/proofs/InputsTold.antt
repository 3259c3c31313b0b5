-- Sources that were told one after another.
use Rattle.std.proofs.Common.{◌≡◌, ℕ, ◌+◌, ◌<◌, List, [], ◌∷◌, ◌++◌, suc, length, take, drop, get_or, map, take-append-drop, drop-cons, Option, None, Some, Result, Ok, Err, IfSome, sym, ap, ◌∙◌, subst}
use Rattle.std.specs.Prelude.{IfErr, OnOk, OnErr}
use Rattle.std.specs.Result.{IsErrAnd}
use Rattle.std.specs.List.{AllZip}
use Rattle.std.specs.Io.KnownBytes.{Appends}
use Rattle.std.proofs.lemmas.List.{map-append}
use Rattle.report_writing.specs.OpeningLines.{if_verbose, opened_line}
use Rattle.report_writing.specs.Told.{AreTold}
use Rattle.report_writing.specs.declared.origin.Origin.{Origin}
use Rattle.report_writing.specs.declared.origin.Origin.TheVariants.{File, Peer, Unknown}
use Rattle.report_writing.specs.declared.verbosity.Verbosity.{Verbosity}
use Rattle.report_writing.proofs.LinesTold.{none_told, told_then}
use Rattle.report_writing.proofs.Numbering.{numbered-last}
use Rattle.input_sources.specs.InputsTold.{opened_lines, StopsAt}
use Rattle.input_sources.specs.Origins.{IsFileNamed}

abbrev pub line_of : Verbosity → ℕ → Origin → List ℕ
line_of verbosity session origin = if_verbose verbosity (opened_line session origin)

-- none yet
pub nothing_opened : (a : Option (List ℕ)) (HasFailed : Type 0) (verbosity : Verbosity) (origins : List Origin) → origins ≡ [] → AreTold a a HasFailed (opened_lines verbosity origins)
nothing_opened a HasFailed verbosity origins none = rw none (none_told a HasFailed)

-- one more
pub opened_more : (verbosity : Verbosity) (origins : List Origin) (origin : Origin) (n : ℕ) → length origins ≡ n → opened_lines verbosity (origins ++ origin ∷ []) ≡ opened_lines verbosity origins ++ line_of verbosity (n + 1) origin
opened_more verbosity origins origin n is =
    numbered-last (line_of verbosity) origins origin ∙ ap (λ (k : ℕ). opened_lines verbosity origins ++ line_of verbosity (k + 1) origin) is

-- and its line is told
pub opened_told : (old mid new : Option (List ℕ)) (Before After : Type 0) (verbosity : Verbosity) (origins all : List Origin) (origin : Origin) (n : ℕ) {T E : Type 0} (answer : Result T E) → all ≡ origins ++ origin ∷ [] → length origins ≡ n
    → AreTold old mid Before (opened_lines verbosity origins) → OnOk answer (Appends mid new (line_of verbosity (n + 1) origin)) → OnErr answer After → (Before → After) → AreTold old new After (opened_lines verbosity all)
opened_told old mid new Before After verbosity origins all origin n answer is count first ok err kept =
    rw is (subst (λ (l : List ℕ). AreTold old new After l) (sym (opened_more verbosity origins origin n count))
    (told_then old mid new Before After answer (opened_lines verbosity origins) (line_of verbosity (n + 1) origin) first ok err kept))

-- ---- where it stops

zip_names : {P : Type 0} (HasSize : List ℕ → Option ℕ → Type 0) (name_of : P → List ℕ) (paths : List P) (origins : List Origin)
    → AllZip (λ path. IsFileNamed (HasSize (name_of path)) (name_of path)) paths origins → AllZip (λ path. IsFileNamed (HasSize path) path) (map name_of paths) origins
zip_names HasSize name_of [] [] all = all
zip_names HasSize name_of [] (o ∷ origins) all = absurd all
zip_names HasSize name_of (p ∷ paths) [] all = absurd all
zip_names HasSize name_of (p ∷ paths) (o ∷ origins) all = (all.0, zip_names HasSize name_of paths origins all.1)

-- a list by its item at a place
pub map-at : {P X : Type 0} (f : P → X) (xs : List P) (i : ℕ) (d : P) → i < length xs → map f xs ≡ map f (take i xs) ++ f (get_or xs i d) ∷ map f (drop (suc i) xs)
map-at {P} f xs i d less =
    let place : xs ≡ take i xs ++ (get_or xs i d ∷ drop (suc i) xs) = sym (take-append-drop i xs) ∙ ap (λ (l : List P). take i xs ++ l) (drop-cons xs i d less) in
    ap (map f) place ∙ map-append f (take i xs) (get_or xs i d ∷ drop (suc i) xs)

pub stops_at : {P : Type 0} (HasSize : List ℕ → Option ℕ → Type 0) (name_of : P → List ℕ) (paths : List P) (verbosity : Verbosity) (Told : List ℕ → Type 0) (i : ℕ) (d : P) (stopped : List ℕ) (origins : List Origin) → i < length paths
    → stopped ≡ name_of (get_or paths i d) → AllZip (λ p. IsFileNamed (HasSize (name_of p)) (name_of p)) (take i paths) origins → Told (opened_lines verbosity origins) → StopsAt HasSize (map name_of paths) verbosity Told stopped
stops_at HasSize name_of paths verbosity Told i d stopped origins less same named told =
    record {
      before = map name_of (take i paths);
      later = map name_of (drop (suc i) paths);
      place = rw same (map-at name_of paths i d less);
      origins = origins;
      named = zip_names HasSize name_of (take i paths) origins named;
      told = told;
    }

-- the name of a file and its size, as its origin tells them
pub file_named : (Has Had : Option ℕ → Type 0) (path : List ℕ) (origin : Origin) → ((size : Option ℕ) → Has size → Had size) → IsFileNamed Has path origin → IsFileNamed Had path origin
file_named Has Had path (File name size) had named = (named.0, had size named.1)
file_named Has Had path (Peer address) had named = absurd named
file_named Has Had path Unknown had named = absurd named

-- what holds of each value holds of the one that is there
pub always : {X : Type 0} (o : Option X) {P : X → Type 0} → ((x : X) → P x) → IfSome o P
always None all = tt
always (Some x) all = all x

-- what holds at an error whichever it is
pub even_if_ok : {T E : Type 0} (answer : Result T E) (P : Type 0) → P → OnErr answer P
even_if_ok (Ok x) P p = tt
even_if_ok (Err e) P p = p

-- an error that is passed on
pub passed_on : {T E : Type 0} (answer : Result T E) (passed : E) (P : E → Type 0) → IsErrAnd answer (λ e. e ≡ passed) → P passed → IfErr answer P
passed_on (Ok x) passed P is p = tt
passed_on (Err e) passed P is p = subst P (sym is) p
