-- What is told of sources while they are had.
use Rattle.std.specs.Prelude.{◌≡◌, ℕ, List, ◌∷◌, ◌++◌, Option}
use Rattle.std.specs.List.{AllZip, flat_map, enumerate_from}
use Rattle.std.specs.declared.net.socket_addr.SocketAddr.{SocketAddr}
use Rattle.report_writing.specs.OpeningLines.{if_verbose, opened_line}
use Rattle.report_writing.specs.declared.origin.Origin.{Origin}
use Rattle.report_writing.specs.declared.verbosity.Verbosity.{Verbosity}
use Rattle.input_sources.specs.Origins.{ArePeers, IsFileNamed}

-- what was opened or accepted, counted from 1
abbrev pub opened_lines : Verbosity → List Origin → List ℕ
opened_lines verbosity origins = flat_map (λ x. if_verbose verbosity (opened_line x.0 x.1)) (enumerate_from 1 origins)

-- all before this name were had, each of them was told, and nothing else
pub record StopsAt (HasSize : List ℕ → Option ℕ → Type 0) (names : List (List ℕ)) (verbosity : Verbosity) (AreTold : List ℕ → Type 0) (name : List ℕ) : Type 0 where
  pub before : List (List ℕ)
  pub later : List (List ℕ)
  pub place : names ≡ before ++ name ∷ later
  pub origins : List Origin
  pub named : AllZip (λ path. IsFileNamed (HasSize path) path) before origins
  pub told : AreTold (opened_lines verbosity origins)

-- connections were accepted, each of them was told by its peer, and nothing else
pub record TellsPeers {S : Type 0} (IsOf : S → SocketAddr → Type 0) (verbosity : Verbosity) (AreTold : List ℕ → Type 0) : Type 0 where
  pub sources : List S
  pub origins : List Origin
  pub peers : ArePeers IsOf sources origins
  pub told : AreTold (opened_lines verbosity origins)
