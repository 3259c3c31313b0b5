-- The maps of files, and what is told of one that has none.
use Rattle.std.specs.Prelude.{◌≡◌, ◌⊎◌, ℕ, List, [], ◌∷◌, codes, length}
use Rattle.std.specs.List.{AllZip}
use Rattle.prefix_numbers.specs.Maps.{IsMapError, IsMapOf}
use Rattle.prefix_numbers.specs.declared.error.MapError.{MapError}
use Rattle.sha2.specs.Sha256.{sha256}
use Rattle.report_writing.specs.OpeningLines.{not_had_lines}
use Rattle.report_writing.specs.declared.reason.Reason.{Reason}
use Rattle.report_writing.specs.declared.verbosity.Verbosity.{Verbosity}
use Rattle.input_sources.specs.MapLines.{file_line}
use Rattle.input_sources.specs.declared.maps.LoadedMap.{LoadedMap}

-- a text gives a map; the number and the digest (FIPS 180-4) of its octets are those that are told of it
pub record IsLoadedFrom (octets : List ℕ) (m : LoadedMap) : Type 0 where
  pub map : IsMapOf octets m.map
  pub octets_are : m.octets ≡ length octets
  pub digest : m.sha256 ≡ sha256 octets

module _ (Has : List ℕ → List ℕ → Type 0) where
  -- a path has a text, which gave this map
  abbrev pub IsMapAt : List ℕ → LoadedMap → Type 0
  IsMapAt path m = (octets : List ℕ) × Has path octets × IsLoadedFrom octets m

  abbrev pub AreMapsOf : List (List ℕ) → List LoadedMap → Type 0
  AreMapsOf paths maps = AllZip IsMapAt paths maps

  module _ (Refuses : List ℕ → Reason → Type 0) (verbosity : Verbosity) where
    -- what there is to tell of a path whose text can't be had, or gives no map
    abbrev pub HasNoMap : List ℕ → List ℕ → Type 0
    HasNoMap path lines =
        ((reason : Reason) × Refuses path reason × (lines ≡ not_had_lines verbosity (codes "open") path reason))
        ⊎ ((octets : List ℕ) × Has path octets × ((error : MapError) × IsMapError octets error × (lines ≡ file_line path error)))

    -- and of the first of some paths that is one
    abbrev pub HaveNoMaps : List (List ℕ) → List ℕ → Type 0
    HaveNoMaps [] lines = ⊥
    HaveNoMaps (path ∷ paths) lines = HasNoMap path lines ⊎ ((m : LoadedMap) × IsMapAt path m × HaveNoMaps paths lines)

    abbrev pub TellsNoMap : List ℕ → (List ℕ → Type 0) → Type 0
    TellsNoMap path AreTold = (lines : List ℕ) × HasNoMap path lines × AreTold lines

    abbrev pub TellsNoMaps : List (List ℕ) → (List ℕ → Type 0) → Type 0
    TellsNoMaps paths AreTold = (lines : List ℕ) × HaveNoMaps paths lines × AreTold lines
