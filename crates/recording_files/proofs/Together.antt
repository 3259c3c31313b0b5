-- The files of a recording, one after another, are read as one text; and the records are the session's.
use Rattle.std.proofs.Common.{◌≡◌, ℕ, Bool, true, false, List, [], ◌∷◌, ◌++◌, map, Option, refl, sym, ap, ap₂, ◌∙◌}
use Rattle.std.specs.Prelude.{All, flat_map}
use Rattle.std.proofs.lemmas.List.{append-nil}
use Rattle.std.proofs.lemmas.List.Elements.{All-head, All-tail}
use Rattle.ipfix_message.specs.declared.record.DataRecord.{DataRecord}
use Rattle.ipfix_message.specs.Domains.{History, Message}
use Rattle.ipfix_session.specs.Given.{Given, known_after, records_in}
use Rattle.ipfix_session.specs.Ledger.{lost_between, lost_at, backward_between, backward_at}
use Rattle.ipfix_session.proofs.Giving.{records_in-append}
use Rattle.ipfix_message.specs.Alike.{SameMessage}
use Rattle.ipfix_message.specs.declared.stamp.Stamp.{Stamp}
use Rattle.recording_files.specs.Heads.{number_in, told_first, written}
use Rattle.recording_files.specs.KeptOptions.{Kept, read_again}
use Rattle.recording_files.specs.Recordings.{begins_again, stamp_for, Part, Recorded}
use Rattle.recording_files.specs.Faithful.{AreReadAlone, IsFaithful, all_files, all_given, all_in, all_messages, file_records}
use Rattle.ipfix_session.proofs.Chains.{GivesAll, gives-append, known-append}
use Rattle.recording_files.proofs.Beside.{Beside}
use Rattle.recording_files.proofs.HeadsRead.{HeadRead}
use Rattle.recording_files.proofs.PreamblesRead.{IsLead}
use Rattle.recording_files.proofs.FilesRead.{HeadGiven, LedBy, Tracks, ReadAlone, begins, file_read, files_read, none_yet, turned, writes_session}
use Rattle.ipfix_session.proofs.Ledgers.{lost_adds, backward_adds}
use Rattle.recording_files.proofs.Ledgers.{adds_up}
use Rattle.ipfix_session.proofs.Texts.{text_gives}

-- ---- records

no_records : (s : Stamp) (ls : List Message) → All (IsLead s) ls → records_in ls ≡ []
no_records s [] all = refl
no_records s (l ∷ ls) all = rw ((All-head (IsLead s) l ls all).records) (no_records s ls (All-tail (IsLead s) l ls all))

led_records : (b : Bool) (s : Stamp) (ls : List Message) → LedBy b s ls → records_in ls ≡ []
led_records true s ls led = ap records_in led.2 ∙ no_records s (led.0 ∷ led.1) led.3
led_records false s ls led = ap records_in led

-- the records of a message, after those of messages without records
one_more : (ls : List Message) (x y : Message) (rest xs : List Message) → records_in ls ≡ [] → SameMessage x y → records_in rest ≡ records_in xs → records_in (ls ++ (y ∷ rest)) ≡ records_in (x ∷ xs)
one_more ls x y rest xs none same more =
    records_in-append ls (y ∷ rest) ∙ ap (λ (rs : List DataRecord). rs ++ records_in (y ∷ rest)) none
    ∙ ap₂ (λ (a b : List DataRecord). a ++ b) (sym same.decoding.records) more

-- ---- what is told again

head_records : (time : ℕ) (number : ℕ → Option ℕ) (ks : List Kept) (hs : List Message) → HeadRead time number ks hs → records_in hs ≡ map (read_again time) ks
head_records time number [] hs read = ap records_in read
head_records time number (k ∷ ks) hs read =
    let more = head_records time number ks read.2 read.6 in
    ap records_in read.3
    ∙ ap (λ (rs : List DataRecord). rs ++ (read.1.decoding.records ++ records_in read.2)) read.4.records
    ∙ ap₂ (λ (rs qs : List DataRecord). rs ++ qs) read.5.records more

abbrev told_at : List Message → List Message → List Message → List DataRecord
told_at before [] xs = told_first before xs
told_at before (z ∷ zs) xs = []

told_after : (before here : List Message) (x : Message) (xs : List Message) → told_at before (here ++ x ∷ []) xs ≡ []
told_after before [] x xs = refl
told_after before (z ∷ zs) x xs = refl

headed_records : (before here : List Message) (x : Message) (xs hs : List Message) → HeadGiven before here x.header hs → records_in hs ≡ told_at before here (x ∷ xs)
headed_records before [] x xs hs given = head_records x.header.export_time (number_in before x.header) (written before x.header) hs given.0
headed_records before (z ∷ zs) x xs hs none = ap records_in none

tracked_records : (before here xs ys : List Message) → Tracks before here xs ys → records_in ys ≡ told_at before here xs ++ records_in xs
tracked_records before [] [] ys tracks = ap records_in tracks
tracked_records before (z ∷ zs) [] ys tracks = ap records_in tracks
tracked_records before here (x ∷ xs) ys tracks =
    let hs = tracks.0 in
    let ls = tracks.1 in
    let y = tracks.2 in
    let rest = tracks.3 in
    let more : records_in rest ≡ records_in xs = tracked_records before (here ++ x ∷ []) xs rest tracks.8 ∙ ap (λ (rs : List DataRecord). rs ++ records_in xs) (told_after before here x xs) in
    ap records_in tracks.4
    ∙ records_in-append hs (ls ++ (y ∷ rest))
    ∙ ap₂ (λ (a b : List DataRecord). a ++ b) (headed_records before here x xs hs tracks.6)
    (one_more ls x y rest xs (led_records (begins_again before here x.header.domain) (stamp_for before x.header) ls tracks.7) tracks.5 more)

-- ---- one text

all_go : (before : List Message) (ps : List Part) (fs : History) → Beside before [] fs → Recorded before ps → (ys : List Message) × GivesAll fs (all_files ps) ys × (records_in ys ≡ flat_map all_in (file_records before ps))
all_go before [] fs b recorded = ([], tt, refl)
all_go before (p ∷ ps) fs b recorded =
    let here = file_read before [] p.messages p.given p.file fs b recorded.0 in
    let more = all_go (before ++ p.given) ps (known_after fs here.given) (turned before p.given (known_after fs here.given) here.beside) recorded.1 in (
      here.given ++ more.0,
      gives-append fs p.file (all_files ps) here.given more.0 here.is more.1,
      records_in-append here.given more.0 ∙ ap₂ (λ (a b : List DataRecord). a ++ b) (tracked_records before [] p.given here.given here.tracks) more.2,
    )

-- ---- the whole

session_gives : (before : List Message) (ps : List Part) → Recorded before ps → GivesAll (known_after [] before) (all_messages ps) (all_given ps)
session_gives before [] recorded = tt
session_gives before (p ∷ ps) recorded =
    gives-append (known_after [] before) p.messages (all_messages ps) p.given (all_given ps) (rw (append-nil before) at (writes_session before [] p.messages p.given p.file recorded.0))
    (rw (known-append [] before p.given) at (session_gives (before ++ p.given) ps recorded.1))

each_alone : (before : List Message) (ps : List Part) → ReadAlone before ps → AreReadAlone before ps
each_alone before [] alone = tt
each_alone before (p ∷ ps) alone =
    let given = text_gives [] p.file alone.0.0 alone.0.1 in (
      record { stop = ap (λ (g : Given). g.stop) given; records = ap (λ (g : Given). records_in g.messages) given ∙ tracked_records before [] p.given alone.0.0 alone.0.2 },
      each_alone (before ++ p.given) ps alone.1,
    )

pub is_faithful : (ps : List Part) → Recorded [] ps → IsFaithful ps
is_faithful ps recorded =
    let session = text_gives [] (all_messages ps) (all_given ps) (session_gives [] ps recorded) in
    let alone = files_read [] ps none_yet recorded in
    let one = all_go [] ps [] (begins [] none_yet) recorded in
    let together = text_gives [] (all_files ps) one.0 one.1 in
    record {
      session_stop = ap (λ (g : Given). g.stop) session;
      session = ap (λ (g : Given). g.messages) session;
      files = each_alone [] ps alone;
      lost = λ d. adds_up lost_between lost_at lost_adds d ps alone;
      backward = λ d. adds_up backward_between backward_at backward_adds d ps alone;
      together_stop = ap (λ (g : Given). g.stop) together;
      together = ap (λ (g : Given). records_in g.messages) together ∙ one.2;
    }
