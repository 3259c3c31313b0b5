-- The exporter that a word tells of a file.
use Rattle.std.specs.Prelude.{◌≡◌, ℕ, List}
use Rattle.std.specs.Net.Grammar.{IsIpText}
use Rattle.exporter_names.specs.Cuts.{HasNo, joined}
use Rattle.exporter_names.specs.declared.told_exporter.ToldExporter.{ToldExporter}

-- `=`
abbrev pub sign : ℕ
sign = 61

-- FILE=ADDRESS, where the last `=` stands before an address
pub record IsToldExporter (word : List ℕ) (told : ToldExporter) : Type 0 where
  pub text : List ℕ
  pub word_is : word ≡ joined sign told.file.now text
  pub last : HasNo sign text
  pub address : IsIpText text told.address
