-- When a file is finished: where a clock tells that its period is over.
use Rattle.std.specs.Prelude.{◌≡◌, ℕ, Bool, if◌then◌else◌, List, [], ◌∷◌, ◌++◌, length, drop, flat_map, Option}
use Rattle.std.specs.Io.KnownBytes.{Consumes}
use Rattle.ipfix_message.specs.Domains.{Message}
use Rattle.ipfix_session.specs.Given.{given_within}
use Rattle.ipfix_session.specs.Sources.{SourceView, one_more}

-- ---- a clock, and the reads that it is asked after

-- what contracts see of a clock
pub record ClockView : Type 0 where
  -- how often it was asked whether the period is over
  pub asked : ℕ
  -- how often it told so
  pub over : ℕ

-- one more answer
pub record IsAnswer (before : ClockView) (is_over : Bool) (after : ClockView) : Type 0 where
  pub asked : after.asked ≡ one_more before.asked
  pub over : after.over ≡ (if is_over then one_more before.over else before.over)

-- the octets that a read gave, and what the clock told when it was asked after the read; with the source and the clock as
-- they were then, themselves and no views that could be made up
pub record AskedRead (S C : Type 0) : Type 0 where
  pub octets : List ℕ
  pub is_over : Bool
  pub source : S
  pub clock : C

module _ {S C : Type 0} where
  -- the source and the clock after reads, of which the newest comes first
  abbrev pub source_behind : S → List (AskedRead S C) → S
  source_behind source [] = source
  source_behind source (h ∷ hs) = h.source

  abbrev pub clock_behind : C → List (AskedRead S C) → C
  clock_behind clock [] = clock
  clock_behind clock (h ∷ hs) = h.clock

module _ {S C : Type 0} (seen : S → SourceView) (asked : C → ClockView) where
  -- one read of the source, and one answer of the clock
  pub record IsAskedRead (source : S) (clock : C) (h : AskedRead S C) : Type 0 where
    pub octets : Consumes (seen source).text (seen h.source).text h.octets
    pub one_read : (seen h.source).reads ≡ one_more (seen source).reads
    pub one_answer : IsAnswer (asked clock) h.is_over (asked h.clock)

  -- reads one after another, the newest first: after each the clock was asked once
  abbrev pub AreAskedReads : S → C → List (AskedRead S C) → Type 0
  AreAskedReads source clock [] = Unit {0}
  AreAskedReads source clock (h ∷ hs) = IsAskedRead (source_behind source hs) (clock_behind clock hs) h × AreAskedReads source clock hs

-- all octets of these reads
abbrev pub octets_read : {S C : Type 0} → List (AskedRead S C) → List ℕ
octets_read [] = []
octets_read (h ∷ hs) = octets_read hs ++ h.octets

-- those of the reads before the last
abbrev pub octets_before : {S C : Type 0} → List (AskedRead S C) → List ℕ
octets_before [] = []
octets_before (h ∷ hs) = octets_read hs

-- ---- the files by their periods, in a session whose templates may count so much, or anything

-- the messages of a text that stand in none of these finished files
abbrev pub unfinished_in : Option ℕ → List ℕ → List (List Message) → List Message
unfinished_in limit text files = drop (length (flat_map (λ file. file) files)) (given_within limit text).messages

-- and with these messages as one more file; where there are none there is no file
abbrev pub with_file : List (List Message) → List Message → List (List Message)
with_file files [] = files
with_file files (m ∷ ms) = files ++ (m ∷ ms) ∷ []

-- the finished files after an answer: if the period is over, the messages that the text had before are a file
abbrev pub finished_at : Option ℕ → Bool → List ℕ → List (List Message) → List (List Message)
finished_at limit is_over text files = if is_over then with_file files (unfinished_in limit text files) else files

-- the messages of each finished file: those that were whole before a read after which the clock told that the period is over,
-- and since the last such read. So a file is finished where the clock tells so, if it has a message, and nowhere else.
abbrev pub finished_by : {S C : Type 0} → Option ℕ → List (AskedRead S C) → List (List Message)
finished_by limit [] = []
finished_by limit (h ∷ hs) = finished_at limit h.is_over (octets_read hs) (finished_by limit hs)
