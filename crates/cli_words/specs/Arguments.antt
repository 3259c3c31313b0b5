-- How what is given for an argument is read.
use Rattle.cli_words.specs.declared.arguments.Takes.{Takes}
use Rattle.cli_words.specs.declared.arguments.Takes.TheVariants.{Nothing, Nothings, Text, Texts, Listed, Word, Number, Bare, Bares}

-- what an argument is read as
pub data Reading : Type 0 where
  IsGiven : Reading
  Count : Reading
  OneText : Reading
  AllTexts : Reading
  OneNumber : Reading

abbrev pub reading_of : Takes → Reading
reading_of (Nothing letter) = IsGiven
reading_of Nothings = Count
reading_of (Text value) = OneText
reading_of (Texts value) = AllTexts
reading_of (Listed value) = AllTexts
reading_of (Word value words) = OneText
reading_of (Number value least most) = OneNumber
reading_of (Bare value) = OneText
reading_of (Bares value) = AllTexts
