-- Reading the messages of a file.
use Rattle.std.proofs.Common.{◌≡◌, ℕ, ◌+◌, Bool, true, false, cond, eqb, List, [], ◌∷◌, ◌++◌, length, Option, Some, None, Result, Ok, Err, is_some, refl, sym, ap, subst, ◌∙◌, arith}
use Rattle.std.specs.Prelude.{option_map, IfSome, ◌≢◌}
use Rattle.std.specs.List.{last_or}
use Rattle.std.specs.Result.{result_err}
use Rattle.std.proofs.lemmas.List.{append-nil}
use Rattle.indexmap.specs.IndexMap.{get}
use Rattle.ipfix_wire.specs.InTurn.{Parts}
use Rattle.ipfix_wire.proofs.Parts.{parts_of-none}
use Rattle.ipfix_wire.proofs.Streams.{parts_of-append}
use Rattle.ipfix_message.specs.Domains.{History, Message, StandsFor}
use Rattle.ipfix_message.specs.declared.fault.MessageFault.TheVariants.{OutOfMemory}
use Rattle.ipfix_session.specs.declared.report.FullReport.{FullReport}
use Rattle.ipfix_session.specs.declared.stop.Stop.{Stop}
use Rattle.ipfix_session.specs.declared.stop.Stop.TheVariants.{Clean, Short, Fault}
use Rattle.ipfix_session.specs.declared.fault.SessionFault.{SessionFault}
use Rattle.ipfix_session.specs.declared.fault.SessionFault.TheVariants as faults
use Rattle.ipfix_session.specs.Faults.{end_of, ends_open, fault_at_end}
use Rattle.ipfix_session.specs.Feeding.{Tells, fault_at}
use Rattle.ipfix_session.specs.Given.{Given, gives, gives_after, behind, known_after, records_in, records_of, stop_of, IsOpen}
use Rattle.ipfix_session.specs.Intake.{counts_of}
use Rattle.ipfix_session.specs.Ledger.{messages_of}
use Rattle.ipfix_session.specs.MessageSinks.{HasTaken, IsAtRest, Reads, Stops}
use Rattle.ipfix_session.specs.MessageStream.{cut, next_message}
use Rattle.ipfix_session.specs.Places.{AreDomainsOf, CountsInFull, ReportsInFull}
use Rattle.ipfix_session.proofs.Chains.{known-append}
use Rattle.ipfix_session.proofs.Cut.{messages_shrink, messages_stable}
use Rattle.ipfix_session.proofs.Giving.{gives_after-stop, behind-behind, gives_after-open, gives_after-fault_stays}
use Rattle.ipfix_session.proofs.Ledgers.{own_one, own_other, own-append}
use Rattle.ipfix_session.proofs.Reaching.{delivered-push, fault_is}
use Rattle.recording_resumption.specs.Resumption.{last_message, last_of}
use Rattle.recording_resumption.specs.Readings.{HasCounted, HasReadSession, messages_view}
use Rattle.recording_resumption.specs.declared.earlier_reading.EarlierReading.{EarlierReading}
use Rattle.recording_resumption.specs.declared.file_messages.FileMessages.{FileMessages}

-- ---- one more message

last_or-push : (o : Option Message) (xs : List Message) (m : Message) → last_or o (xs ++ m ∷ []) ≡ Some m
last_or-push o [] m = refl
last_or-push o (x ∷ xs) m = last_or-push (Some x) xs m

-- the last of a domain's messages, after one more
last_on : (d : ℕ) (ms : List Message) (x : Message) → last_of (messages_of d (ms ++ x ∷ [])) ≡ cond (eqb x.header.domain d) (Some (last_message x)) (last_of (messages_of d ms))
last_on d ms x = by_test (eqb x.header.domain d) refl
  where
    own : List Message
    own = messages_of d ms

    by_test : (b : Bool) → eqb x.header.domain d ≡ b → last_of (messages_of d (ms ++ x ∷ [])) ≡ cond b (Some (last_message x)) (last_of own)
    by_test true e = ap last_of (own-append d ms (x ∷ []) ∙ ap (λ (k : List Message). own ++ k) (own_one d x [] e)) ∙ ap (option_map last_message) (last_or-push None own x)
    by_test false e = ap last_of (own-append d ms (x ∷ []) ∙ ap (λ (k : List Message). own ++ k) (own_other d x [] e) ∙ append-nil own)

pub counted_on : (m n : FileMessages) (ms : List Message) (x : Message) → HasCounted m ms → Tells (counts_of n.tally) (ms ++ x ∷ []) (length (records_in ms) + length x.decoding.records)
    → ((d : ℕ) → get eqb n.last d ≡ cond (eqb x.header.domain d) (Some (last_message x)) (get eqb m.last d)) → HasCounted n (ms ++ x ∷ [])
counted_on m n ms x counted tells updates = record {
  tells = subst (λ (d : ℕ). Tells (counts_of n.tally) (ms ++ x ∷ []) d) (sym (delivered-push ms x)) tells;
  last = λ d. updates d ∙ ap (cond (eqb x.header.domain d) (Some (last_message x))) (counted.last d) ∙ sym (last_on d ms x);
}

-- ---- before a piece

pub taken_first : (m : FileMessages) (ms : List Message) → HasCounted m ms → m.domains.spent ≡ false → StandsFor m.domains.domains (known_after [] ms) → HasTaken messages_view ms m tt [] []
taken_first m ms counted fresh stands = record {
  took = subst (HasCounted m) (sym (append-nil ms)) counted;
  is_ready = record { not_spent = fresh; stands = stands };
}

-- ---- after a piece

-- what the longer text gives
longer : (text rest piece : List ℕ) → rest ≡ (cut text).rest → IsOpen (stop_of text)
    → gives (text ++ piece) ≡ behind (gives text).messages (gives_after (known_after [] (gives text).messages) (rest ++ piece))
longer text rest piece is is_open =
    gives_after-open [] text piece is_open ∙ ap (λ (w : List ℕ). behind (gives text).messages (gives_after (known_after [] (gives text).messages) (w ++ piece))) (sym is)

no_fault : (s : Stop) → IsOpen s → None ≡ fault_at s
no_fault Clean o = refl
no_fault Short o = refl
no_fault (Fault e) o = absurd o

-- where the file may go on
read_piece : (r : EarlierReading) (text rest piece : List ℕ) → r.fault ≡ None → rest ≡ (cut text).rest → IsOpen (stop_of text)
    → IsAtRest messages_view (gives text).messages (rest ++ piece) r.messages tt r.buffer.items → HasReadSession r (text ++ piece)
read_piece r text rest piece none is is_open at =
    let b = at.between in
    let stop = at.is_rest.stop in
    let left = r.buffer.items in
    let old = (gives text).messages in
    let whole = old ++ b.given in
    let known = known_after (known_after [] old) b.given in
    let all : gives (text ++ piece) ≡ record { messages = whole; stop = stop } =
    longer text rest piece is is_open ∙ ap (behind old) b.is ∙ behind-behind old b.given (gives_after known left) ∙ ap (behind whole) (gives_after-stop known left stop at.is_rest.none)
    ∙ ap (λ (ms : List Message). record { messages = ms; stop = stop }) (append-nil whole) in
    let messages : (gives (text ++ piece)).messages ≡ whole = ap (λ (g : Given). g.messages) all in
    let open_yet = subst IsOpen (sym (ap (λ (g : Given). g.stop) all)) at.is_rest.is_open in
    let counted = subst (HasCounted r.messages) (sym messages) b.taken.took in
    let same : (cut (text ++ piece)).rest ≡ (cut (rest ++ piece)).rest =
    ap (λ (p : Parts (List ℕ)). p.rest) (parts_of-append next_message messages_shrink messages_stable (length text) text piece (omega arith)) ∙ ap (λ (w : List ℕ). (cut (w ++ piece)).rest) (sym is) in
    record {
      session = record {
        fault = none ∙ no_fault (stop_of (text ++ piece)) open_yet;
        tells = counted.tells;
        goes_on = λ o. record {
          rest = sym (same ∙ b.rest ∙ ap (λ (p : Parts (List ℕ)). p.rest) (parts_of-none next_message left stop at.is_rest.none));
          not_spent = b.taken.is_ready.not_spent;
          has_limit = refl;
          known = subst (λ (ds : History). StandsFor r.messages.domains.domains ds) (sym (ap (known_after []) messages ∙ known-append [] old b.given)) b.taken.is_ready.stands;
        };
      };
      counted = counted;
    }

-- where a message has a fault
read_fault : (r : EarlierReading) (text rest piece : List ℕ) (f : SessionFault) → r.fault ≡ Some f → rest ≡ (cut text).rest → IsOpen (stop_of text) → f ≢ faults.Message OutOfMemory
    → Stops messages_view (gives text).messages f (rest ++ piece) r.messages tt → HasReadSession r (text ++ piece)
read_fault r text rest piece (faults.Message OutOfMemory) some is is_open had s = absurd (had refl)
read_fault r text rest piece (faults.Message e) some is is_open had s =
    let old = (gives text).messages in
    let all : gives (text ++ piece) ≡ record { messages = old ++ s.first.given; stop = Fault e } = longer text rest piece is is_open ∙ ap (behind old) s.all in
    let stop : stop_of (text ++ piece) ≡ Fault e = ap (λ (g : Given). g.stop) all in
    let counted = subst (HasCounted r.messages) (sym (ap (λ (g : Given). g.messages) all)) s.first.took in
    record {
      session = record { fault = some ∙ sym (ap fault_at stop); tells = counted.tells; goes_on = λ o. absurd (subst IsOpen stop o) };
      counted = counted;
    }
read_fault r text rest piece faults.SinkClosed some is is_open had s = absurd s.part
read_fault r text rest piece faults.Truncated some is is_open had s = absurd s
read_fault r text rest piece faults.ReadFailed some is is_open had s = absurd s
read_fault r text rest piece faults.TooManyReads some is is_open had s = absurd s

some_of : (o : Option SessionFault) → is_some o ≡ true → (f : SessionFault) × (o ≡ Some f)
some_of None e = absurd cc
some_of (Some f) e = (f, refl)

pub none_but : (o : Option SessionFault) → is_some o ≡ false → o ≡ None
none_but None e = refl
none_but (Some f) e = absurd cc

-- after that
pub read_no_more : (r : EarlierReading) (text piece : List ℕ) → is_some r.fault ≡ true → HasReadSession r text → HasReadSession r (text ++ piece)
read_no_more r text piece some has =
    let f = some_of r.fault some in
    let is = fault_is (stop_of text) f.0 (sym f.1 ∙ has.session.fault) in
    let same : gives (text ++ piece) ≡ gives text = gives_after-fault_stays [] text piece is.0 is.1 in
    let there : stop_of (text ++ piece) ≡ Fault is.0 = ap (λ (g : Given). g.stop) same ∙ is.1 in
    let counted = subst (HasCounted r.messages) (sym (ap (λ (g : Given). g.messages) same)) has.counted in
    record {
      session = record { fault = f.1 ∙ ap (λ (g : SessionFault). Some g) is.2 ∙ sym (ap fault_at there); tells = counted.tells; goes_on = λ o. absurd (subst IsOpen there o) };
      counted = counted;
    }

-- by the answer
pub read_by : (r : EarlierReading) (text rest piece : List ℕ) (answer : Result (Unit {0}) SessionFault) → r.fault ≡ result_err answer → answer ≢ Err (faults.Message OutOfMemory) → rest ≡ (cut text).rest → IsOpen (stop_of text)
    → Reads messages_view (gives text).messages answer (rest ++ piece) r.messages tt r.buffer.items → HasReadSession r (text ++ piece)
read_by r text rest piece (Ok tt) fault had is is_open done = read_piece r text rest piece fault is is_open done
read_by r text rest piece (Err f) fault had is is_open done = read_fault r text rest piece f fault is is_open (λ e. had (ap (λ (g : SessionFault). Err g) e)) done

-- ---- the end

open_end : (s : Stop) → ends_open (fault_at_end s) ≡ true → IsOpen s
open_end Clean e = tt
open_end Short e = tt
open_end (Fault fault) e = absurd cc

told_if : {X : Type 0} (test : Bool) (told : Option X) (x : X) (P : X → Type 0) → told ≡ cond test (Some x) None → (test ≡ true → P x) → (is_some told ≡ test) × IfSome told P
told_if true told x P is holds = rw is (refl, holds refl)
told_if false told x P is holds = rw is (refl, tt)

pub in_full : (r : EarlierReading) (text : List ℕ) (full : FullReport) → HasReadSession r text → CountsInFull full (gives text).messages (length (records_of text)) → full.report.fault ≡ end_of text
    → full.domains ≡ cond (ends_open (end_of text)) (Some r.messages.domains) None → ReportsInFull full (gives text).messages (length (records_of text))
in_full r text full has counts fault domains =
    let known : ends_open (end_of text) ≡ true → AreDomainsOf (gives text).messages r.messages.domains =
    λ e. let on = has.session.goes_on (open_end (stop_of text) e) in record { not_spent = on.not_spent; stands = on.known } in
    let both = told_if (ends_open (end_of text)) full.domains r.messages.domains (AreDomainsOf (gives text).messages) domains known in
    record { counts = counts; has_domains = both.0 ∙ ap ends_open (sym fault); in_force = both.1 }
