-- Gathering the messages of a read.
use Rattle.std.proofs.Common.{◌≡◌, ℕ, List, [], ◌∷◌, ◌++◌, refl, sym, ap, ap₂, subst, ◌∙◌, append_assoc}
use Rattle.std.specs.Prelude.{Result, Ok, Err}
use Rattle.std.proofs.lemmas.List.{append-nil}
use Rattle.ipfix_message.specs.Domains.{History, Message}
use Rattle.ipfix_message.specs.Outcome.{Fails}
use Rattle.ipfix_message.specs.TemplateLimits.{message_within}
use Rattle.ipfix_message.proofs.TemplateLimits.{left_within}
use Rattle.ipfix_message.specs.declared.fault.MessageFault.{MessageFault}
use Rattle.ipfix_message.specs.declared.fault.MessageFault.TheVariants.{OutOfMemory}
use Rattle.ipfix_session.specs.declared.fault.SessionFault.{SessionFault}
use Rattle.ipfix_session.specs.declared.fault.SessionFault.TheVariants as faults
use Rattle.ipfix_session.specs.Given.{known_after, octets_of}
use Rattle.ipfix_session.specs.MessageSinks.{known_behind, HasTaken, TakesOne, TookFirst, Reads}
use Rattle.ipfix_session.proofs.Chains.{known-append}
use Rattle.ipfix_session.proofs.MessagesTaken.{octets-append, octets-push, took_first}
use Rattle.recording_files.specs.declared.gathering.Gathering.{Gathering}
use Rattle.recording_files.specs.declared.message_count.MessageCount.{MessageCount}
use Rattle.recording_files.specs.Recordings.{Writes}
use Rattle.recording_files.specs.Recorders.{KeepsWithin, RecordsWithin, AreCountsOf}
use Rattle.recording_files.specs.Gathering.{BeforeRead, Waits, gathering_view}
use Rattle.recording_files.proofs.Growing.{writes_more}
use Rattle.recording_files.proofs.Counts.{counts-push, no_counts}

-- ---- a message is gathered

-- what is known after messages of earlier files and of this one
known_is : (b : BeforeRead) (given : List Message) → known_after [] (b.before ++ (b.here ++ given)) ≡ known_behind gathering_view b given
known_is b given = ap (known_after []) (sym (append_assoc b.before b.here given)) ∙ known-append [] (b.before ++ b.here) given

-- nothing of a read yet
pub waits_first : (b : BeforeRead) (g : Gathering) → g.out.items ≡ [] → g.counts.waiting ≡ [] → g.counts.told ≡ b.told → KeepsWithin b.limit g.recorder b.before b.here → HasTaken gathering_view b g tt [] []
waits_first b g none no_counts told keeps = record {
  took = record { file = []; writes = refl; out_is = none; counted = subst (λ (cs : List MessageCount). AreCountsOf cs []) (sym no_counts) tt; told_is = told };
  is_ready = subst (λ (ms : List Message). KeepsWithin b.limit g.recorder b.before ms) (sym (append-nil b.here)) keeps;
}

-- the same octets and counts wait
pub waits_still : (b : BeforeRead) (g h : Gathering) (messages : List (List ℕ)) (given : List Message) → Waits b g messages given → h.out.items ≡ g.out.items → h.counts.waiting ≡ g.counts.waiting → h.counts.told ≡ g.counts.told
    → Waits b h messages given
waits_still b g h messages given w out waiting told = record {
  file = w.file;
  writes = w.writes;
  out_is = out ∙ w.out_is;
  counted = subst (λ (cs : List MessageCount). AreCountsOf cs given) (sym waiting) w.counted;
  told_is = told ∙ w.told_is;
}

-- it can't be read
pub takes_none : (b : BeforeRead) (given : List Message) (octets : List ℕ) (e : MessageFault) → Fails e (message_within b.limit (known_after [] (b.before ++ (b.here ++ given))) octets) → Fails e (message_within b.limit (known_behind gathering_view b given) octets)
takes_none b given octets e fails = subst (λ (ds : History). Fails e (message_within b.limit ds octets)) (known_is b given) fails

-- it was read, and what a file has of it waits
pub takes_on : (b : BeforeRead) (g h : Gathering) (messages : List (List ℕ)) (given : List Message) (m octets : List ℕ) (c : MessageCount) → HasTaken gathering_view b g tt messages given
    → RecordsWithin b.limit b.before (b.here ++ given) h.recorder m octets c → h.out.items ≡ g.out.items ++ octets → h.counts.waiting ≡ g.counts.waiting ++ c ∷ [] → h.counts.told ≡ g.counts.told
    → TakesOne gathering_view b (Ok tt) h tt messages given m
takes_on b g h messages given m octets c taken r grown one_more told =
    let w = taken.took in
    let x = r.given in
    let written : octets ≡ octets_of (r.lead ++ m ∷ []) = r.octets_are ∙ sym (octets-push r.lead m) in (
      x,
      ap (λ (ds : History). message_within b.limit ds m) (sym (known_is b given)) ∙ r.read,
      record {
        took = record {
          file = w.file ++ (r.lead ++ m ∷ []);
          writes = writes_more b.before b.here messages given w.file m x r.lead w.writes (left_within b.limit (known_after [] (b.before ++ (b.here ++ given))) m x r.read).0 r.is;
          out_is = grown ∙ ap₂ (λ (a e : List ℕ). a ++ e) w.out_is written ∙ sym (octets-append w.file (r.lead ++ m ∷ []));
          counted = subst (λ (cs : List MessageCount). AreCountsOf cs (given ++ x ∷ [])) (sym one_more) (counts-push g.counts.waiting c given x w.counted r.counts);
          told_is = told ∙ w.told_is;
        };
        is_ready = subst (λ (ms : List Message). KeepsWithin b.limit h.recorder b.before ms) (append_assoc b.here given (x ∷ [])) r.keeps;
      },
    )

-- ---- what waits after a read

-- the first messages of it, by the answer
pub gathered : (b : BeforeRead) (g : Gathering) (text left : List ℕ) (r : Result (Unit {0}) SessionFault) → Reads gathering_view b r text g tt left → TookFirst gathering_view b text g tt
gathered b g text left (Ok x) reads = took_first gathering_view b text g g tt tt left reads.between reads.between.taken.took
gathered b g text left (Err (faults.Message OutOfMemory)) reads = reads
gathered b g text left (Err (faults.Message e)) reads = reads.first
gathered b g text left (Err faults.SinkClosed) reads = absurd reads.part
gathered b g text left (Err faults.Truncated) reads = absurd reads
gathered b g text left (Err faults.ReadFailed) reads = absurd reads
gathered b g text left (Err faults.TooManyReads) reads = absurd reads

no_file : (before here : List Message) (ms : List (List ℕ)) (w : List (List ℕ)) → Writes before here ms [] w → w ≡ []
no_file before here [] w writes = writes
no_file before here (m ∷ ms) w writes = absurd writes

-- where none waits to be counted, nothing waits to be written
pub nothing_waits : (b : BeforeRead) (g : Gathering) (messages : List (List ℕ)) (given : List Message) → Waits b g messages given → g.counts.waiting ≡ [] → g.out.items ≡ []
nothing_waits b g messages given w none =
    let writes = subst (λ (xs : List Message). Writes b.before b.here messages xs w.file) (no_counts g.counts.waiting given none w.counted) w.writes in
    w.out_is ∙ ap octets_of (no_file b.before b.here messages w.file writes)
