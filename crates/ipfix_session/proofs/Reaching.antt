-- Going over the messages of a text, and putting their records.
use Rattle.std.proofs.Common.{◌≡◌, ℕ, ◌+◌, false, ltb, List, [], ◌∷◌, ◌++◌, length, Option, Some, None, Result, Ok, Err, refl, sym, ap, subst, ◌∙◌, append_assoc, arith, inl, inr}
use Rattle.std.proofs.lemmas.List.{append-nil, length-append}
use Rattle.std.specs.List.{FoldsTo}
use Rattle.std.specs.Result.{result_err}
use Rattle.ipfix_wire.specs.InTurn.{Parts}
use Rattle.ipfix_wire.proofs.Parts.{parts_of-none}
use Rattle.ipfix_wire.proofs.Longest.{parts_of-last}
use Rattle.ipfix_wire.proofs.Streams.{parts_of-append}
use Rattle.ipfix_message.specs.Domains.{Decodes, History, Message, StandsFor}
use Rattle.ipfix_message.specs.declared.message.Decoded.{Decoded}
use Rattle.ipfix_message.specs.declared.record.Template.{Template}
use Rattle.ipfix_message.specs.TemplateLimits.{IsWithin, message_within}
use Rattle.ipfix_message.proofs.TemplateLimits.{left_within}
use Rattle.ipfix_message.specs.declared.fault.MessageFault.{MessageFault}
use Rattle.ipfix_message.specs.declared.fault.MessageFault.TheVariants.{OutOfMemory}
use Rattle.ipfix_message.specs.declared.record.DataRecord.{DataRecord}
use Rattle.ipfix_session.specs.declared.account.Account.{Account}
use Rattle.ipfix_session.specs.declared.stop.Stop.{Stop}
use Rattle.ipfix_session.specs.declared.stop.Stop.TheVariants.{Clean, Short, Fault}
use Rattle.ipfix_session.specs.declared.fault.SessionFault.{SessionFault}
use Rattle.ipfix_session.specs.declared.fault.SessionFault.TheVariants as faults
use Rattle.ipfix_session.specs.Faults.{fault_at_end, end_within}
use Rattle.ipfix_session.specs.Reports.{ended_by}
use Rattle.ipfix_session.specs.MessageStream.{header_stop, rest_stop, next_message, cut}
use Rattle.ipfix_wire.proofs.Choices.{chosen}
use Rattle.ipfix_wire.specs.MessageHeader.{header_at}
use Rattle.ipfix_wire.specs.declared.header.Header.{Header}
use Rattle.ipfix_wire.specs.declared.fault.WireFault.{WireFault}
use Rattle.ipfix_session.specs.Given.{Given, gives, given_within, gives_within, behind, known_after, messages_within, records_in, records_within, stop_within, IsOpen}
use Rattle.ipfix_session.specs.Sinks.{SinkView, Takes}
use Rattle.ipfix_session.specs.Feeding.{Counts, State, Tells, fault_at, StandsForText, PutsWhole, PutsAll, Feeds}
use Rattle.ipfix_session.specs.Buffers.{IsRest}
use Rattle.ipfix_session.specs.declared.intake.Intake.{Intake}
use Rattle.ipfix_session.specs.Intake.{counts_of, Earlier, all_of, PutsGiven, GivesBackOf, record_intake}
use Rattle.ipfix_session.specs.MessageSinks.{HasTaken, TakesOne, IsAtRest, Stops, Reads}
use Rattle.ipfix_session.specs.Puts.{CountsOn, GivesBack, Puts}
use Rattle.ipfix_session.proofs.Cut.{none_at, next_stop, messages_shrink, messages_stable}
use Rattle.ipfix_session.proofs.Chains.{known-append, known_after-push}
use Rattle.ipfix_session.proofs.Giving.{stops, give_within-fault, give_within-next, give_within-none, gives_within-is, gives_within-stop, behind-behind, records_in-append, gives_within-open, gives_within-fault_stays, stop_within-rest}

-- ---- what a sink took

chain-append : {K : Type 0} (took : K → DataRecord → K → Type 0) (p : K) (xs ys : List DataRecord) (q u : K) → FoldsTo took p xs q → FoldsTo took q ys u → FoldsTo took p (xs ++ ys) u
chain-append {K} took p [] ys q u e more = subst (λ (k : K). FoldsTo took k ys u) (sym e) more
chain-append took p (x ∷ xs) ys q u chain more = (chain.0, chain.1, chain-append took chain.0 xs ys q u chain.2 more)

pub takes-append : {K : Type 0} (view : SinkView K) (before now after : K) (xs ys : List DataRecord) → Takes view before xs now → Takes view now ys after
    → Takes view before (xs ++ ys) after
takes-append view before now after xs ys a b =
    record { chain = chain-append view.took before xs ys now after a.chain b.chain; none_refused = b.none_refused ∙ a.none_refused }

pub takes-none : {K : Type 0} (view : SinkView K) (k : K) → Takes view k [] k
takes-none view k = record { chain = refl; none_refused = refl }

-- ---- counts

pub tells_accounts : (c : Counts) (accounts : List (ℕ × Account)) (ms : List Message) (d : ℕ) → Tells c ms d → accounts ≡ c.accounts → Tells (record c { accounts = accounts }) ms d
tells_accounts c accounts ms d t e =
    record { messages = t.messages; octets = t.octets; delivered_is = t.delivered_is; passed_over = t.passed_over; accounts = e ∙ t.accounts }

pub tells_delivered : (c : Counts) (delivered more : ℕ) (ms : List Message) (d : ℕ) → Tells c ms d → CountsOn c.delivered more delivered → Tells (record c { delivered = delivered }) ms (d + more)
tells_delivered c delivered more ms d t on =
    record { messages = t.messages; octets = t.octets; delivered_is = on d t.delivered_is; passed_over = t.passed_over; accounts = t.accounts }

-- ---- one more message

records_in-push : (ms : List Message) (x : Message) → records_in (ms ++ x ∷ []) ≡ records_in ms ++ x.decoding.records
records_in-push ms x = records_in-append ms (x ∷ []) ∙ ap (λ (rs : List DataRecord). records_in ms ++ rs) (append-nil x.decoding.records)

pub delivered-push : (ms : List Message) (x : Message) → length (records_in (ms ++ x ∷ [])) ≡ length (records_in ms) + length x.decoding.records
delivered-push ms x = ap length (records_in-push ms x) ∙ length-append (records_in ms) x.decoding.records

pub put_more : (has old put more : List DataRecord) → has ≡ old ++ put → has ++ more ≡ old ++ (put ++ more)
put_more has old put more e = ap (λ (rs : List DataRecord). rs ++ more) e ∙ append_assoc old put more

-- ---- a message that was decoded

-- by the limit that a session has
pub decodes_within : (own limit : Option ℕ) (ds : History) (result : Result Decoded MessageFault) (kept : List (ℕ × List (ℕ × Template))) (m : List ℕ) → own ≡ limit → IsWithin limit ds
    → (IsWithin own ds → Decodes result kept (message_within own ds m)) → Decodes result kept (message_within limit ds m)
decodes_within own limit ds result kept m same within decodes = subst (λ (l : Option ℕ). IsWithin l ds → Decodes result kept (message_within l ds m)) same decodes within

-- ---- a message whose records are put

module _ {K : Type 0} (view : SinkView K) (before : Earlier K) where
  behind_messages : (given : List Message) (x : Message) → all_of before given ++ x ∷ [] ≡ all_of before (given ++ x ∷ [])
  behind_messages given x = append_assoc before.messages given (x ∷ [])

  -- it was read, its records were put, and it was counted
  pub takes_on : (now after : K) (c : Counts) (later : Intake) (messages : List (List ℕ)) (given : List Message) (octets : List ℕ) (x : Message) → PutsGiven view before c now given
      → message_within before.limit (known_after (known_after [] before.messages) given) octets ≡ Ok x → Takes view now x.decoding.records after
      → Tells (counts_of later.tally) (all_of before given ++ x ∷ []) (length (records_in (all_of before given)) + length x.decoding.records) → later.domains.spent ≡ false → StandsFor later.domains.domains x.domains → later.limit ≡ before.limit
      → TakesOne (record_intake view) before (Ok tt) later after messages given octets
  takes_on now after c later messages given octets x p reads takes tells fresh stands same_limit =
      let whole = all_of before given in
      let news = counts_of later.tally in (
        x,
        reads,
        record {
          took = record {
            put = p.put ++ x.decoding.records;
            takes = takes-append view before.sink now after p.put x.decoding.records p.takes takes;
            records = ap records_in (sym (behind_messages given x)) ∙ records_in-push whole x ∙ put_more (records_in whole) (records_in before.messages) p.put x.decoding.records p.records;
            tells = subst (λ (ms : List Message). Tells news ms (length (records_in ms))) (behind_messages given x) (subst (λ (d : ℕ). Tells news (whole ++ x ∷ []) d) (sym (delivered-push whole x)) tells);
          };
          is_ready = record {
            not_spent = fresh;
            stands = subst (λ (ds : History). StandsFor later.domains.domains ds) (sym (known_after-push (known_after [] before.messages) given x)) stands;
            has_limit = same_limit;
            within = subst (IsWithin before.limit) (sym (known_after-push (known_after [] before.messages) given x)) (left_within before.limit (known_after (known_after [] before.messages) given) octets x reads).1;
          };
        },
      )

  -- or the sink gave one of them back
  pub gives_back : (now after : K) (c : Counts) (accounts : List (ℕ × Account)) (delivered : ℕ) (later : Intake) (f : SessionFault) (records : List DataRecord) (messages : List (List ℕ)) (given : List Message) (octets : List ℕ) (x : Message)
      → record c { accounts = accounts; delivered = delivered } ≡ counts_of later.tally → PutsGiven view before c now given → message_within before.limit (known_after (known_after [] before.messages) given) octets ≡ Ok x
      → records ≡ x.decoding.records → accounts ≡ c.accounts → Puts view (Err f) records c.delivered delivered now after → TakesOne (record_intake view) before (Err f) later after messages given octets
  gives_back now after c accounts delivered later faults.SinkClosed records messages given octets x is p reads are same puts =
      let b = subst (λ (rs : List DataRecord). GivesBack view rs c.delivered delivered now after) are puts in
      let whole = all_of before given in
      let told = length (records_in whole) in (
        x,
        reads,
        subst (λ (n : Counts). GivesBackOf view before n after given x) is (record {
          first = b.first;
          item = b.item;
          others = b.others;
          cut_off = b.are;
          put = p.put ++ b.first;
          last = b.last;
          takes = takes-append view before.sink now b.last p.put b.first p.takes b.takes;
          records = put_more (records_in whole) (records_in before.messages) p.put b.first p.records;
          back = b.back;
          tells = tells_delivered (record c { accounts = accounts }) delivered (length b.first) whole told (tells_accounts c accounts whole told p.tells same) b.counted;
        }),
      )
  gives_back now after c accounts delivered later (faults.Message e) records messages given octets x is p reads are same puts = absurd puts
  gives_back now after c accounts delivered later faults.Truncated records messages given octets x is p reads are same puts = absurd puts
  gives_back now after c accounts delivered later faults.ReadFailed records messages given octets x is p reads are same puts = absurd puts
  gives_back now after c accounts delivered later faults.TooManyReads records messages given octets x is p reads are same puts = absurd puts

  -- or memory ran out before
  pub puts_no_more : (now : K) (c : Counts) (accounts : List (ℕ × Account)) (given : List Message) → PutsGiven view before c now given → accounts ≡ c.accounts → PutsGiven view before (record c { accounts = accounts }) now given
  puts_no_more now c accounts given p same =
      record { put = p.put; takes = p.takes; records = p.records; tells = tells_accounts c accounts (all_of before given) (length (records_in (all_of before given))) p.tells same }

pub tells_put : {K : Type 0} (view : SinkView K) (now after : K) (c : Counts) (accounts : List (ℕ × Account)) (delivered : ℕ) (whole : List Message) (records : List DataRecord) (x : Message)
    → Tells c whole (length (records_in whole)) → records ≡ x.decoding.records → accounts ≡ c.accounts → Takes view now records after × CountsOn c.delivered (length records) delivered
    → Takes view now x.decoding.records after × Tells (record c { accounts = accounts; delivered = delivered }) whole (length (records_in whole) + length x.decoding.records)
tells_put view now after c accounts delivered whole records x tells are same puts = (
  subst (λ (rs : List DataRecord). Takes view now rs after) are puts.0,
  subst (λ (rs : List DataRecord). Tells (record c { accounts = accounts; delivered = delivered }) whole (length (records_in whole) + length rs)) are
      (tells_delivered (record c { accounts = accounts }) delivered (length records) whole (length (records_in whole)) (tells_accounts c accounts whole (length (records_in whole)) tells same) puts.1),
)

-- ---- a text that its messages stop

-- the text stops after the messages that were put
pub stops_there : (limit : Option ℕ) (text left : List ℕ) (whole : List Message) (s : Stop) → given_within limit text ≡ behind whole (gives_within limit (known_after [] whole) left) → gives_within limit (known_after [] whole) left ≡ stops s
    → given_within limit text ≡ record { messages = whole; stop = s }
stops_there limit text left whole s is e = is ∙ ap (behind whole) e ∙ ap (λ (ms : List Message). record { messages = ms; stop = s }) (append-nil whole)

-- ---- a piece of a text

-- the messages of a text, and the sink after them
abbrev pub earlier : {K : Type 0} → Option ℕ → List ℕ → K → Earlier K
earlier limit text sink = record { messages = (given_within limit text).messages; limit = limit; sink = sink }

-- they leave no more templates than the limit allows
messages_fit : (limit : Option ℕ) (ds : History) (ms : List (List ℕ)) → IsWithin limit ds → IsWithin limit (known_after ds (messages_within limit ds ms).0)
messages_fit limit ds [] fits = subst (λ (r : List Message × Option MessageFault). IsWithin limit (known_after ds r.0)) (sym (give_within-none limit ds)) fits
messages_fit limit ds (m ∷ ms) fits = by_read (λ (x : Message) (h : IsWithin limit x.domains). messages_fit limit x.domains ms h) (message_within limit ds m) refl
  where
    by_read : ((x : Message) → IsWithin limit x.domains → IsWithin limit (known_after x.domains (messages_within limit x.domains ms).0)) → (r : Result Message MessageFault) → message_within limit ds m ≡ r
        → IsWithin limit (known_after ds (messages_within limit ds (m ∷ ms)).0)
    by_read later (Err e) is = subst (λ (r : List Message × Option MessageFault). IsWithin limit (known_after ds r.0)) (sym (give_within-fault limit ds m ms e is)) fits
    by_read later (Ok x) is = subst (λ (r : List Message × Option MessageFault). IsWithin limit (known_after ds r.0)) (sym (give_within-next limit ds m ms x is)) (later x (left_within limit ds m x is).1)

none_fit : (limit : Option ℕ) → IsWithin limit []
none_fit None = tt
none_fit (Some n) = omega arith

pub text_fits : (limit : Option ℕ) (text : List ℕ) → IsWithin limit (known_after [] (given_within limit text).messages)
text_fits limit text = subst (λ (g : Given). IsWithin limit (known_after [] g.messages)) (sym (gives_within-is limit [] text (cut text) refl)) (messages_fit limit [] (cut text).items (none_fit limit))

-- a session that goes on from this
abbrev pub state_of : Intake → List ℕ → Option SessionFault → State
state_of i left fault = record { counts = counts_of i.tally; domains = i.domains; limit = i.limit; buffer = left; fault = fault }

-- before the piece
pub taken_first : {K : Type 0} (view : SinkView K) (limit : Option ℕ) (i : Intake) (text : List ℕ) (k : K) → Tells (counts_of i.tally) (given_within limit text).messages (length (records_within limit text)) → i.domains.spent ≡ false
    → StandsFor i.domains.domains (known_after [] (given_within limit text).messages) → i.limit ≡ limit → HasTaken (record_intake view) (earlier limit text k) i k [] []
taken_first view limit i text k tells fresh stands same_limit =
    let old = (given_within limit text).messages in
    let none = sym (append-nil old) in
    record {
      took = record {
        put = [];
        takes = takes-none view k;
        records = ap records_in (append-nil old) ∙ sym (append-nil (records_within limit text));
        tells = subst (λ (ms : List Message). Tells (counts_of i.tally) ms (length (records_in ms))) none tells;
      };
      is_ready = record { not_spent = fresh; stands = stands; has_limit = same_limit; within = text_fits limit text };
    }

-- what the longer text gives
longer : (limit : Option ℕ) (text rest piece : List ℕ) → rest ≡ (cut text).rest → IsOpen (stop_within limit text)
    → given_within limit (text ++ piece) ≡ behind (given_within limit text).messages (gives_within limit (known_after [] (given_within limit text).messages) (rest ++ piece))
longer limit text rest piece is is_open =
    gives_within-open limit [] text piece is_open ∙ ap (λ (w : List ℕ). behind (given_within limit text).messages (gives_within limit (known_after [] (given_within limit text).messages) (w ++ piece))) (sym is)

longer_messages : (limit : Option ℕ) (text rest piece : List ℕ) → rest ≡ (cut text).rest → IsOpen (stop_within limit text)
    → (given_within limit (text ++ piece)).messages ≡ (given_within limit text).messages ++ (gives_within limit (known_after [] (given_within limit text).messages) (rest ++ piece)).messages
longer_messages limit text rest piece is is_open = ap (λ (g : Given). g.messages) (longer limit text rest piece is is_open)

no_fault : (s : Stop) → IsOpen s → None ≡ fault_at s
no_fault Clean o = refl
no_fault Short o = refl
no_fault (Fault e) o = absurd o

-- after the piece, where it may go on
fed : {K : Type 0} (view : SinkView K) (limit : Option ℕ) (i : Intake) (text rest piece left : List ℕ) (before after : K) → rest ≡ (cut text).rest → IsOpen (stop_within limit text)
    → IsAtRest (record_intake view) (earlier limit text before) (rest ++ piece) i after left → IsOpen (stop_within limit (text ++ piece)) × PutsAll view limit text piece before after (state_of i left None)
fed view limit i text rest piece left before after is is_open r =
    let b = r.between in
    let stop = r.is_rest.stop in
    let old = (given_within limit text).messages in
    let whole = old ++ b.given in
    let known = known_after (known_after [] old) b.given in
    let all : given_within limit (text ++ piece) ≡ record { messages = whole; stop = stop } =
    longer limit text rest piece is is_open ∙ ap (behind old) b.is ∙ behind-behind old b.given (gives_within limit known left) ∙ ap (behind whole) (gives_within-stop limit known left stop r.is_rest.none)
    ∙ ap (λ (ms : List Message). record { messages = ms; stop = stop }) (append-nil whole) in
    let messages : (given_within limit (text ++ piece)).messages ≡ whole = ap (λ (g : Given). g.messages) all in
    let open_yet = subst IsOpen (sym (ap (λ (g : Given). g.stop) all)) r.is_rest.is_open in
    let puts = subst (λ (ms : List Message). PutsWhole view old ms before after (Tells (counts_of i.tally))) (sym messages) b.taken.took in
    let same : (cut (text ++ piece)).rest ≡ (cut (rest ++ piece)).rest =
    ap (λ (p : Parts (List ℕ)). p.rest) (parts_of-append next_message messages_shrink messages_stable (length text) text piece (omega arith)) ∙ ap (λ (w : List ℕ). (cut (w ++ piece)).rest) (sym is) in (
      open_yet,
      record {
        put = puts.put;
        takes = puts.takes;
        records = puts.records;
        stands = record {
          fault = no_fault (stop_within limit (text ++ piece)) open_yet;
          tells = puts.tells;
          goes_on = λ o. record {
            rest = sym (same ∙ b.rest ∙ ap (λ (p : Parts (List ℕ)). p.rest) (parts_of-none next_message left stop r.is_rest.none));
            not_spent = b.taken.is_ready.not_spent;
            has_limit = b.taken.is_ready.has_limit;
            known = subst (λ (ds : History). StandsFor i.domains.domains ds) (sym (ap (known_after []) messages ∙ known-append [] old b.given)) b.taken.is_ready.stands;
          };
        };
      },
    )

-- after the piece, where it goes no further
fed_fault : {K : Type 0} (view : SinkView K) (limit : Option ℕ) (i : Intake) (text rest piece left : List ℕ) (before after : K) (f : SessionFault) → rest ≡ (cut text).rest → IsOpen (stop_within limit text)
    → Stops (record_intake view) (earlier limit text before) f (rest ++ piece) i after → Feeds view limit (Err f) text piece before after (state_of i left (Some f))
fed_fault view limit i text rest piece left before after (faults.Message OutOfMemory) is is_open r =
    let old = (given_within limit text).messages in
    record {
      whole = old ++ r.given;
      from = (r.given, refl);
      up_to = (r.next.0, longer_messages limit text rest piece is is_open ∙ ap (λ (ms : List Message). old ++ ms) r.next.1 ∙ sym (append_assoc old r.given r.next.0));
      puts = r.took;
    }
fed_fault view limit i text rest piece left before after (faults.Message e) is is_open r =
    let old = (given_within limit text).messages in
    let all : given_within limit (text ++ piece) ≡ record { messages = old ++ r.first.given; stop = Fault e } = longer limit text rest piece is is_open ∙ ap (behind old) r.all in
    let stop : stop_within limit (text ++ piece) ≡ Fault e = ap (λ (g : Given). g.stop) all in
    let puts = subst (λ (ms : List Message). PutsWhole view old ms before after (Tells (counts_of i.tally))) (sym (ap (λ (g : Given). g.messages) all)) r.first.took in (
      stop,
      record {
        put = puts.put;
        takes = puts.takes;
        records = puts.records;
        stands = record { fault = sym (ap fault_at stop); tells = puts.tells; goes_on = λ o. absurd (subst IsOpen stop o) };
      },
    )
fed_fault view limit i text rest piece left before after faults.SinkClosed is is_open r =
    let old = (given_within limit text).messages in
    let p = r.part in
    record {
      whole = old ++ r.given;
      next = r.next;
      more = r.more;
      from = (r.given, refl);
      are = longer_messages limit text rest piece is is_open ∙ ap (λ (ms : List Message). old ++ ms) r.are ∙ sym (append_assoc old r.given (r.next ∷ r.more));
      first = p.first;
      item = p.item;
      others = p.others;
      cut_off = p.cut_off;
      put = p.put;
      last = p.last;
      takes = p.takes;
      records = p.records;
      back = p.back;
      tells = p.tells;
    }
fed_fault view limit i text rest piece left before after faults.Truncated is is_open r = absurd r
fed_fault view limit i text rest piece left before after faults.ReadFailed is is_open r = absurd r
fed_fault view limit i text rest piece left before after faults.TooManyReads is is_open r = absurd r

-- by the answer
pub fed_by : {K : Type 0} (view : SinkView K) (limit : Option ℕ) (i : Intake) (text rest piece left : List ℕ) (before after : K) (r : Result (Unit {0}) SessionFault) (fault : Option SessionFault) → rest ≡ (cut text).rest → IsOpen (stop_within limit text)
    → Reads (record_intake view) (earlier limit text before) r (rest ++ piece) i after left → result_err r ≡ fault → Feeds view limit r text piece before after (state_of i left fault)
fed_by view limit i text rest piece left before after (Ok tt) fault is is_open done e =
    subst (λ (o : Option SessionFault). IsOpen (stop_within limit (text ++ piece)) × PutsAll view limit text piece before after (state_of i left o)) e (fed view limit i text rest piece left before after is is_open done)
fed_by view limit i text rest piece left before after (Err f) fault is is_open done e =
    subst (λ (o : Option SessionFault). Feeds view limit (Err f) text piece before after (state_of i left o)) e (fed_fault view limit i text rest piece left before after f is is_open done)

-- ---- after a fault

abbrev some_fault : SessionFault → Option SessionFault
some_fault f = Some f

pub fault_is : (s : Stop) (f : SessionFault) → Some f ≡ fault_at s → (e : MessageFault) × (s ≡ Fault e) × (f ≡ faults.Message e)
fault_is Clean f e = absurd cc
fault_is Short f e = absurd cc
fault_is (Fault m) f e = let same : some_fault f ≡ Some (faults.Message m) = e in (m, refl, cc)

no_fault_is : (s : Stop) → None ≡ fault_at s → IsOpen s
no_fault_is Clean e = tt
no_fault_is Short e = tt
no_fault_is (Fault m) e = let same : None ≡ some_fault (faults.Message m) = e in absurd cc

pub may_go_on : (limit : Option ℕ) (s : State) (text : List ℕ) → StandsForText limit s text → s.fault ≡ None → IsOpen (stop_within limit text)
may_go_on limit s text stands none = no_fault_is (stop_within limit text) (sym none ∙ stands.fault)

behind_fault : {K : Type 0} (view : SinkView K) (limit : Option ℕ) (s : State) (text longer : List ℕ) (k : K) → StandsForText limit s text → given_within limit longer ≡ given_within limit text
    → PutsWhole view (given_within limit text).messages (given_within limit longer).messages k k (Tells s.counts)
behind_fault view limit s text longer k stands same =
    subst (λ (ms : List Message). PutsWhole view (given_within limit text).messages ms k k (Tells s.counts)) (sym (ap (λ (g : Given). g.messages) same))
    (record { put = []; takes = takes-none view k; records = sym (append-nil (records_within limit text)); tells = stands.tells })

stays : {K : Type 0} (view : SinkView K) (limit : Option ℕ) (s : State) (text piece : List ℕ) (k : K) (e : MessageFault) → StandsForText limit s text → given_within limit (text ++ piece) ≡ given_within limit text → stop_within limit text ≡ Fault e
    → s.fault ≡ Some (faults.Message e) → Feeds view limit (Err (faults.Message e)) text piece k k s
stays view limit s text piece k OutOfMemory stands same stop fault =
    let old = (given_within limit text).messages in
    record {
      whole = old;
      from = ([], sym (append-nil old));
      up_to = ([], ap (λ (g : Given). g.messages) same ∙ sym (append-nil old));
      puts = record { put = []; takes = takes-none view k; records = sym (append-nil (records_within limit text)); tells = stands.tells };
    }
stays view limit s text piece k e stands same stop fault =
    let there : stop_within limit (text ++ piece) ≡ Fault e = ap (λ (g : Given). g.stop) same ∙ stop in
    let puts = behind_fault view limit s text (text ++ piece) k stands same in (
      there,
      record {
        put = puts.put;
        takes = puts.takes;
        records = puts.records;
        stands = record { fault = fault ∙ sym (ap fault_at there); tells = puts.tells; goes_on = λ o. absurd (subst IsOpen there o) };
      },
    )

pub fed_again : {K : Type 0} (view : SinkView K) (limit : Option ℕ) (s : State) (text piece : List ℕ) (k : K) (f : SessionFault) → StandsForText limit s text → s.fault ≡ Some f
    → Feeds view limit (Err f) text piece k k s
fed_again view limit s text piece k f stands fault =
    let is = fault_is (stop_within limit text) f (sym fault ∙ stands.fault) in
    let at = stays view limit s text piece k is.0 stands (gives_within-fault_stays limit [] text piece is.0 is.1) is.1 (fault ∙ ap (λ (g : SessionFault). Some g) is.2) in
    subst (λ (g : SessionFault). Feeds view limit (Err g) text piece k k s) (sym is.2) at

-- ---- the rest of a text

pub rest_is_rest : (limit : Option ℕ) (text : List ℕ) → IsOpen (stop_within limit text) → IsRest (cut text).rest
rest_is_rest limit text is_open =
    let last = parts_of-last next_message messages_shrink (length text) text (omega arith) in
    let stop : stop_within limit text ≡ last.0 = stop_within-rest limit [] text is_open ∙ next_stop (cut text).rest last.0 last.1 in
    record { stop = last.0; none = last.1; is_open = subst IsOpen stop is_open }

pub buffer_is_rest : (limit : Option ℕ) (s : State) (text : List ℕ) → StandsForText limit s text → s.fault ≡ None → IsRest s.buffer
buffer_is_rest limit s text stands none =
    let is_open = may_go_on limit s text stands none in
    subst IsRest (sym (stands.goes_on is_open).rest) (rest_is_rest limit text is_open)

-- ---- before the first piece

next_none : next_message [] ≡ none_at Clean
unfolding next_message
next_none = refl

pub gives_first_within : (limit : Option ℕ) → given_within limit [] ≡ stops Clean
gives_first_within limit = gives_within-stop limit [] [] Clean next_none

pub gives_first : gives [] ≡ stops Clean
gives_first = gives_first_within None

pub stands_first : (limit : Option ℕ) (s : State) → Tells s.counts [] 0 → s.domains.spent ≡ false → StandsFor s.domains.domains [] → s.buffer ≡ [] → s.fault ≡ None → s.limit ≡ limit → StandsForText limit s []
stands_first limit s tells fresh none buffer fault same_limit =
    let stop : stop_within limit [] ≡ Clean = ap (λ (g : Given). g.stop) (gives_first_within limit) in
    let ms : (given_within limit []).messages ≡ [] = ap (λ (g : Given). g.messages) (gives_first_within limit) in
    record {
      fault = fault ∙ sym (ap fault_at stop);
      tells = subst (λ (xs : List Message). Tells s.counts xs (length (records_in xs))) (sym ms) tells;
      goes_on = λ o. record {
        rest = buffer ∙ sym (ap (λ (p : Parts (List ℕ)). p.rest) (parts_of-none next_message [] Clean next_none));
        not_spent = fresh;
        has_limit = same_limit;
        known = subst (λ (xs : List Message). StandsFor s.domains.domains (known_after [] xs)) (sym ms) none;
      };
    }

-- ---- the end

not_clean : (h : Result Header WireFault) → header_stop h ≡ Clean → ⊥
not_clean (Ok h) e = cc
not_clean (Err e) h = cc

pub never_clean : (b : ℕ) (w : List ℕ) → rest_stop (b ∷ w) ≡ Clean → ⊥
never_clean b w e =
    elim (chosen (ltb (length (b ∷ w)) 16) Short (header_stop (header_at (b ∷ w))) Clean e) [
      | inl t ↦ absurd cc
      | inr f ↦ not_clean (header_at (b ∷ w)) f.1
    ]

ends_by : (f : Option SessionFault) (w : List ℕ) (s : Stop) → f ≡ fault_at s → (IsOpen s → s ≡ rest_stop w) → ended_by f w ≡ fault_at_end s
ends_by None w (Fault e) is stop = absurd cc
ends_by (Some f) w (Fault e) is stop = is
ends_by None [] Clean is stop = refl
ends_by None (b ∷ w) Clean is stop = absurd (never_clean b w (sym (stop tt)))
ends_by (Some f) w Clean is stop = absurd cc
ends_by None [] Short is stop = let e : Short ≡ Clean = stop tt in absurd cc
ends_by None (b ∷ w) Short is stop = refl
ends_by (Some f) w Short is stop = absurd cc

pub ended : (limit : Option ℕ) (s : State) (text : List ℕ) → StandsForText limit s text → ended_by s.fault s.buffer ≡ end_within limit text
ended limit s text stands =
    ends_by s.fault s.buffer (stop_within limit text) stands.fault
    (λ o. stop_within-rest limit [] text o ∙ ap rest_stop (sym (stands.goes_on o).rest))

-- ---- an option that is none

abbrev pub none_but : {A : Type 0} (o : Option A) → ((x : A) → o ≡ Some x → ⊥) → o ≡ None
none_but None never = refl
none_but (Some x) never = absurd (never x refl)
