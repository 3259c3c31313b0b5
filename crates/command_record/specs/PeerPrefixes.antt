-- Which peers may send, by words that are prefixes, and the line of the first word that is none.
use Rattle.std.specs.Prelude.{◌≡◌, ◌↔◌, ℕ, ◌++◌, Some, List, take, codes, option_map, slice_get}
use denote.Bor.{Bor}
use Rattle.std.specs.List.{AllZip}
use Rattle.network_prefixes.specs.Prefixes.{IsPrefixWord, IsWordWithBitsAfter}
use Rattle.network_prefixes.specs.declared.peer_filter.PeerFilter.{PeerFilter}
use Rattle.network_prefixes.specs.declared.prefix.Prefix.{Prefix}
use Rattle.network_prefixes.specs.declared.prefix.PrefixFault.{PrefixFault}
use Rattle.network_prefixes.specs.declared.prefix.PrefixFault.TheVariants.{NotAPrefix, BitsAfter}
use Rattle.report_writing.specs.Lines.{LinesView}
use Rattle.report_writing.specs.Told.{AreToldTo}
use Rattle.command_record.specs.declared.peer_prefixes.WordFault.{WordFault}
use Rattle.command_record.specs.declared.peer_prefixes.WordFault.TheVariants.{NoPrefix, OutOfMemory}

-- each word spells the prefix that has its place
abbrev pub ArePrefixes : List (Bor (List ℕ)) → List Prefix → Type 0
ArePrefixes words prefixes = AllZip (λ word prefix. IsPrefixWord word.now prefix) words prefixes

-- those of a filter
abbrev pub IsFilterOf : List (Bor (List ℕ)) → PeerFilter → Type 0
IsFilterOf words filter = ArePrefixes words filter.prefixes.items

-- a word spells no prefix, and whether it would but for the bits after it
pub record IsNoPrefix (word : List ℕ) (fault : PrefixFault) : Type 0 where
  pub none : (prefix : Prefix) → ¬ (IsPrefixWord word prefix)
  pub bits_after : (fault ≡ BitsAfter) ↔ IsWordWithBitsAfter word

-- a word is the first of these that spells no prefix
pub record IsFirstWrong (words : List (Bor (List ℕ))) (word : List ℕ) (fault : PrefixFault) : Type 0 where
  pub place : ℕ
  pub here : option_map (λ w. w.now) (slice_get words place) ≡ Some word
  pub earlier : List Prefix
  pub before : ArePrefixes (take place words) earlier
  pub wrong : IsNoPrefix word fault

-- memory may run out at any
abbrev pub IsWordFault : List (Bor (List ℕ)) → WordFault → Type 0
IsWordFault words (NoPrefix word fault) = IsFirstWrong words word.now fault
IsWordFault words OutOfMemory = Unit {0}

-- ---- its line

unfoldable pub no_prefix_line : List ℕ → List ℕ
no_prefix_line word = codes "error: '" ++ (word ++ codes "' of --from is no address and no prefix\n")

unfoldable pub bits_after_line : List ℕ → List ℕ
bits_after_line word = codes "error: '" ++ (word ++ codes "' of --from has bits after its prefix that are not 0\n")

abbrev pub prefix_line : List ℕ → PrefixFault → List ℕ
prefix_line word NotAPrefix = no_prefix_line word
prefix_line word BitsAfter = bits_after_line word

abbrev pub fault_line : WordFault → List ℕ
fault_line (NoPrefix word fault) = prefix_line word.now fault
fault_line OutOfMemory = codes "error: out of memory\n"

-- exactly the line of a fault that these words have was told
abbrev pub TellsWhy : {W : Type 0} → (W → LinesView) → W → W → List (Bor (List ℕ)) → Type 0
TellsWhy lines old new words = (fault : WordFault) × IsWordFault words fault × AreToldTo lines old new (fault_line fault)
