-- What a recording is for: its files say what the session said.
use Rattle.std.specs.Prelude.{◌≡◌, ℕ, ◌+◌, ◌==◌, Bool, false, List, [], ◌∷◌, ◌++◌, filter, flat_map, All, Contains, Option}
use Rattle.ipfix_message.specs.Domains.{Message}
use Rattle.ipfix_message.specs.declared.record.DataRecord.{DataRecord}
use Rattle.ipfix_session.specs.declared.stop.Stop.TheVariants.{Clean}
use Rattle.ipfix_session.specs.Given.{gives, stop_of, records_of, records_within, records_in, octets_of, IsOpen, IsPrefix}
use Rattle.ipfix_session.specs.Ledger.{messages_of, lost_between, backward_between, sum_neighbours}
use Rattle.recording_files.specs.Heads.{told_first}
use Rattle.recording_files.specs.Recordings.{Part}

-- what a file says of a domain by itself, summed over each two neighbouring messages
abbrev pub in_file : (Message → Message → ℕ) → ℕ → Part → ℕ
in_file f domain p = sum_neighbours f (messages_of domain (gives (octets_of p.file)).messages)

abbrev pub in_files : (Message → Message → ℕ) → ℕ → List Part → ℕ
in_files f domain [] = 0
in_files f domain (p ∷ ps) = in_file f domain p + in_files f domain ps

abbrev pub all_messages : List Part → List (List ℕ)
all_messages ps = flat_map (λ p. p.messages) ps

abbrev pub all_given : List Part → List Message
all_given ps = flat_map (λ p. p.given) ps

abbrev pub all_files : List Part → List (List ℕ)
all_files ps = flat_map (λ p. p.file) ps

-- ---- a file by itself

-- what a file of these messages reads as, after those of earlier files: what is told again at its head, and then their records
abbrev pub reads_as : List Message → List Message → List DataRecord
reads_as before here = told_first before here ++ records_in here

-- with no fault
pub record IsReadAlone (before : List Message) (p : Part) : Type 0 where
  pub stop : stop_of (octets_of p.file) ≡ Clean
  pub records : records_of (octets_of p.file) ≡ reads_as before p.given

abbrev pub AreReadAlone : List Message → List Part → Type 0
AreReadAlone before [] = Unit {0}
AreReadAlone before (p ∷ ps) = IsReadAlone before p × AreReadAlone (before ++ p.given) ps

-- ---- files one after another

-- the records of a file: what is told again at its head, and what came in it
pub record FileRecords : Type 0 where
  pub told : List DataRecord
  pub came : List DataRecord

abbrev pub all_in : FileRecords → List DataRecord
all_in r = r.told ++ r.came

abbrev pub file_records : List Message → List Part → List FileRecords
file_records before [] = []
file_records before (p ∷ ps) = record { told = told_first before p.given; came = records_in p.given } ∷ file_records (before ++ p.given) ps

abbrev pub is_flow : DataRecord → Bool
is_flow r = r.scope == 0

-- an options record is told again: one of these, but for the export time
pub record IsToldAgain (rs : List DataRecord) (r : DataRecord) : Type 0 where
  pub given : DataRecord
  pub among : Contains rs given
  pub is : r ≡ record given { export_time = r.export_time }
  pub options : is_flow r ≡ false

abbrev pub AreToldAgain : List DataRecord → List DataRecord → Type 0
AreToldAgain rs told = All (IsToldAgain rs) told

-- each file tells again only what came before it
abbrev pub TellAgain : List DataRecord → List FileRecords → Type 0
TellAgain before [] = Unit {0}
TellAgain before (r ∷ rs) = AreToldAgain before r.told × TellAgain (before ++ r.came) rs

-- each of these files is read by itself, with no fault, and one after another they give the records of a text, whose templates may
-- count so much, or anything, but for what they tell again
pub record GiveRecordsOf (limit : Option ℕ) (files : List (List ℕ)) (text : List ℕ) : Type 0 where
  pub stops : All (λ file. stop_of file ≡ Clean) files
  pub parts : List FileRecords
  pub are : flat_map records_of files ≡ flat_map all_in parts
  pub records : flat_map (λ r. r.came) parts ≡ records_within limit text
  pub again : TellAgain [] parts

-- each of these files is read by itself, with no fault, though it may end within a message, and one after another they give the
-- first records of such a text, but for what they tell again
pub record GiveFirstRecordsOf (limit : Option ℕ) (files : List (List ℕ)) (text : List ℕ) : Type 0 where
  pub stops : All (λ file. IsOpen (stop_of file)) files
  pub parts : List FileRecords
  pub are : IsPrefix (flat_map records_of files) (flat_map all_in parts)
  pub records : IsPrefix (flat_map (λ r. r.came) parts) (records_within limit text)
  pub again : TellAgain [] parts

-- files that give the records of a text in one of these ways
pub record FilesOf (Give : Option ℕ → List (List ℕ) → List ℕ → Type 0) : Type 0 where
  pub limit : Option ℕ
  pub files : List (List ℕ)
  pub text : List ℕ
  pub give : Give limit files text

module _ {Give : Option ℕ → List (List ℕ) → List ℕ → Type 0} where
  -- the flow records of the files one after another, and those of the text
  abbrev pub flows_read : FilesOf Give → List DataRecord
  flows_read f = filter is_flow (flat_map records_of f.files)

  abbrev pub flows_sent : FilesOf Give → List DataRecord
  flows_sent f = filter is_flow (records_within f.limit f.text)

-- ---- a recording

pub record IsFaithful (ps : List Part) : Type 0 where
  -- the parts are the session: its text gives their messages, with no fault
  pub session_stop : stop_of (octets_of (all_messages ps)) ≡ Clean
  pub session : (gives (octets_of (all_messages ps))).messages ≡ all_given ps
  pub files : AreReadAlone [] ps
  -- what the files' ledgers say adds up to what the session's says
  pub lost : (domain : ℕ) → in_files lost_between domain ps ≡ sum_neighbours lost_between (messages_of domain (all_given ps))
  pub backward : (domain : ℕ) → in_files backward_between domain ps ≡ sum_neighbours backward_between (messages_of domain (all_given ps))
  -- one after another the files are one text, of the same records as each by itself
  pub together_stop : stop_of (octets_of (all_files ps)) ≡ Clean
  pub together : records_of (octets_of (all_files ps)) ≡ flat_map all_in (file_records [] ps)
