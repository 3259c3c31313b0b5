-- Driving a session, read by read.
use Rattle.std.proofs.Common.{◌≡◌, ℕ, ◌+◌, ◌<◌, ◌≤◌, ltb, eqb, List, [], ◌++◌, length, Option, Some, None, Err, refl, sym, ap, subst, ◌∙◌, arith, inl, inr}
use Rattle.std.specs.Prelude.{◌⊎◌, ◌-◌, ◌^◌, ◌||◌, ◌&&◌, ◌==◌, nat_lt, Bool, true, false, take, Ok}
use Rattle.std.specs.Io.KnownBytes.{Consumes}
use Rattle.std.proofs.KnownBytes.{Consumes-nil, Consumes-trans, Consumes-kept}
use Rattle.std.proofs.Math.Bool.{or-false}
use Rattle.std.proofs.lemmas.Bool.{ltb-false, ltb-true, lt-ltb, eqb-true}
use Rattle.std.proofs.lemmas.List.{append-nil, length-take-le}
use Rattle.ipfix_message.specs.Domains.{Message}
use Rattle.ipfix_message.specs.declared.fault.MessageFault.TheVariants.{OutOfMemory}
use Rattle.ipfix_message.specs.declared.record.DataRecord.{DataRecord}
use Rattle.ipfix_session.specs.declared.stop.Stop.{Stop}
use Rattle.ipfix_session.specs.declared.stop.Stop.TheVariants.{Clean, Short, Fault}
use Rattle.ipfix_session.specs.Faults.{fault_at_end, end_within, ends_open}
use Rattle.ipfix_session.specs.declared.fault.SessionFault.{SessionFault}
use Rattle.ipfix_session.specs.declared.fault.SessionFault.TheVariants as faults
use Rattle.ipfix_session.specs.declared.session_limits.SessionLimits.{SessionLimits}
use Rattle.ipfix_session.specs.declared.source.ReadError.TheVariants.{Interrupted, Failed}
use Rattle.ipfix_session.specs.Given.{Given, given_within, records_in, records_within, stop_within, IsOpen}
use Rattle.ipfix_session.specs.Sources.{SourceView, IsRead, one_more, tells_end}
use Rattle.ipfix_session.specs.Sinks.{SinkView, Takes}
use Rattle.ipfix_session.specs.Feeding.{State, Tells, AreToldAs, fault_at, StandsForText, PutsWhole, PutsAll, RunsOut, Feeds}
use Rattle.ipfix_session.specs.declared.driver.TheConstants.{READ_SIZE}
use Rattle.ipfix_session.specs.Drives.{IsDueWithin, StopsWithin, PutsUpTo, DrivesTo}
use Rattle.ipfix_session.proofs.Reaching.{takes-append, takes-none, gives_first_within, may_go_on}

-- after this many reads the session stands for what the source gave, and its records were put
pub record Driving {K : Type 0} (view : SinkView K) (limit : Option ℕ) (n : ℕ) (before now : SourceView) (first last : K) (s : State) : Type 0 where
  pub gave : List ℕ
  pub octets : Consumes before.text now.text gave
  pub stands : StandsForText limit s gave
  pub no_fault : s.fault ≡ None
  pub takes : Takes view first (records_within limit gave) last
  pub within : now.reads ≤ before.reads + n
  pub counted : (now.reads ≡ before.reads + n) ⊎ (now.reads ≡ 2 ^ 64 - 1)
  pub none_failed : now.failed ≡ before.failed
  pub not_ended : now.ended ≡ before.ended

none_put : {K : Type 0} (view : SinkView K) (limit : Option ℕ) (k : K) → Takes view k (records_within limit []) k
none_put view limit k = subst (λ (g : Given). Takes view k (records_in g.messages) k) (sym (gives_first_within limit)) (takes-none view k)

pub driving_first : {K : Type 0} (view : SinkView K) (limit : Option ℕ) (source : SourceView) (sink : K) (s : State) → StandsForText limit s [] → Driving view limit 0 source source sink sink s
driving_first view limit source sink s stands =
    record {
      gave = [];
      octets = Consumes-nil source.text;
      stands = stands;
      no_fault = stands.fault ∙ ap (λ (g : Given). fault_at g.stop) (gives_first_within limit);
      takes = none_put view limit sink;
      within = omega arith;
      counted = inl (omega arith);
      none_failed = refl;
      not_ended = refl;
    }

-- ---- one more read

one_counted : (old was now n : ℕ) (b : Bool) → ltb was (2 ^ 64 - 1) ≡ b → now ≡ one_more was → was ≡ old + n → (now ≡ old + (n + 1)) ⊎ (now ≡ 2 ^ 64 - 1)
one_counted old was now n true e is h = let less = ltb-true was (2 ^ 64 - 1) e in inl (omega arith)
one_counted old was now n false e is h = let most = ltb-false was (2 ^ 64 - 1) e in inr (omega arith)

pub counted_on : (old was now n : ℕ) → now ≡ one_more was → (was ≡ old + n) ⊎ (was ≡ 2 ^ 64 - 1) → (now ≡ old + (n + 1)) ⊎ (now ≡ 2 ^ 64 - 1)
counted_on old was now n is h =
    elim h [
      | inl e ↦ one_counted old was now n (ltb was (2 ^ 64 - 1)) refl is e
      | inr e ↦ inr (omega arith)
    ]

pub tells_none : (n : ℕ) (buffer : List ℕ) (b : Bool) → eqb n 0 ≡ b → (n ≡ 0 → ⊥) → tells_end (Ok n) buffer ≡ false
tells_none n buffer true e some = absurd (some (eqb-true n 0 e))
tells_none n buffer false e some = ap (λ b. b && nat_lt 0 (length buffer)) e

pub driving_fed : {K : Type 0} (view : SinkView K) (limit : Option ℕ) (n count : ℕ) (before now after : SourceView) (first last more : K) (s t : State) (buffer : List ℕ)
    → (d : Driving view limit n before now first last s) → IsRead now (Ok count) after buffer → (count ≡ 0 → ⊥)
    → PutsAll view limit d.gave (take count buffer) last more t → t.fault ≡ None
    → Driving view limit (n + 1) before after first more t
driving_fed view limit n count before now after first last more s t buffer d read some puts none =
    let piece = take count buffer in
    record {
      gave = d.gave ++ piece;
      octets = Consumes-trans before.text now.text after.text d.gave piece d.octets read.moved;
      stands = puts.stands;
      no_fault = none;
      takes = subst (λ (rs : List DataRecord). Takes view first rs more) (sym puts.records) (takes-append view first last more (records_within limit d.gave) puts.put d.takes puts.takes);
      within = omega (arith, d.within, read.counted);
      counted = counted_on before.reads now.reads after.reads n read.counted d.counted;
      none_failed = read.failures ∙ d.none_failed;
      not_ended = read.end ∙ ap (λ b. now.ended || b) (tells_none count buffer (eqb count 0) refl some) ∙ or-false now.ended ∙ d.not_ended;
    }

pub driving_again : {K : Type 0} (view : SinkView K) (limit : Option ℕ) (n : ℕ) (before now after : SourceView) (first last : K) (s : State) (buffer : List ℕ)
    → Driving view limit n before now first last s → IsRead now (Err Interrupted) after buffer
    → Driving view limit (n + 1) before after first last s
driving_again view limit n before now after first last s buffer d read =
    record {
      gave = d.gave;
      octets = Consumes-kept before.text now.text after.text d.gave d.octets read.moved;
      stands = d.stands;
      no_fault = d.no_fault;
      takes = d.takes;
      within = omega (arith, d.within, read.counted);
      counted = counted_on before.reads now.reads after.reads n read.counted d.counted;
      none_failed = read.failures ∙ d.none_failed;
      not_ended = read.end ∙ or-false now.ended ∙ d.not_ended;
    }

-- ---- nothing is read after a fault

-- all octets so far have no fault, and the last read, if there was one more, gave these
stops_at : {S K : Type 0} (seen : S → SourceView) (view : SinkView K) (limit : Option ℕ) (n : ℕ) (before now after : S) (first last : K) (s : State) (d : Driving view limit n (seen before) (seen now) first last s) (gave piece : List ℕ)
    → (seen after).reads ≤ (seen now).reads + 1 → gave ≡ d.gave ++ piece → length piece ≤ READ_SIZE → StopsWithin seen limit before gave after
stops_at seen view limit n before now after first last s d gave piece few is fits =
    record {
      at = now;
      earlier = d.gave;
      octets = d.octets;
      no_fault = may_go_on limit s d.gave d.stands d.no_fault;
      none_failed = d.none_failed;
      not_ended = d.not_ended;
      one_read = few;
      last = piece;
      is = is;
      size = fits;
    }

pub read_fits : (n : ℕ) (buffer : List ℕ) → n ≤ length buffer → length buffer ≤ READ_SIZE → length (take n buffer) ≤ READ_SIZE
read_fits n buffer fits room = let taken = length-take-le n buffer fits in omega (arith, taken, fits, room)

-- ---- what is told

-- what is told of the messages that count may be told otherwise
puts_told : {K : Type 0} (view : SinkView K) (fault : Option SessionFault) (old all : List Message) (before after : K) (told other : List Message → ℕ → Type 0) → ((ms : List Message) (d : ℕ) → told ms d → other ms d)
    → PutsUpTo view fault old all before after told → PutsUpTo view fault old all before after other
puts_told view fault old all before after told other tell = by_fault fault
  where
    whole : (whole : List Message) → PutsWhole view old whole before after told → PutsWhole view old whole before after other
    whole ms p = record { put = p.put; takes = p.takes; records = p.records; tells = tell _ _ p.tells }

    by_fault : (fault : Option SessionFault) → PutsUpTo view fault old all before after told → PutsUpTo view fault old all before after other
    by_fault None p = whole all p
    by_fault (Some faults.Truncated) p = whole all p
    by_fault (Some faults.ReadFailed) p = whole all p
    by_fault (Some faults.TooManyReads) p = whole all p
    by_fault (Some (faults.Message OutOfMemory)) p = record { whole = p.whole; from = p.from; up_to = p.up_to; puts = whole p.whole p.puts }
    by_fault (Some (faults.Message e)) p = whole all p
    by_fault (Some faults.SinkClosed) b =
        record {
          whole = b.whole;
          next = b.next;
          more = b.more;
          from = b.from;
          are = b.are;
          first = b.first;
          item = b.item;
          others = b.others;
          cut_off = b.cut_off;
          put = b.put;
          last = b.last;
          takes = b.takes;
          records = b.records;
          back = b.back;
          tells = tell b.whole _ b.tells;
        }

pub drives_told : {S K : Type 0} (seen : S → SourceView) (view : SinkView K) (limits : SessionLimits) (before after : S) (first last : K) (fault : Option SessionFault) (told other : List Message → ℕ → Type 0)
    → ((ms : List Message) (d : ℕ) → told ms d → other ms d) → DrivesTo seen view limits before after first last fault told → DrivesTo seen view limits before after first last fault other
drives_told seen view limits before after first last fault told other tell d =
    record { gave = d.gave; given = d.given; middle = d.middle; earlier = d.earlier; puts = puts_told view fault _ _ d.middle last told other tell d.puts }

-- ---- a piece after which the session has a fault

-- what a session that was fed has put by its fault, and why that is due
due_by : {K : Type 0} (view : SinkView K) (limits : SessionLimits) (before after : SourceView) (last more : K) (s : State) (gave piece : List ℕ) (f : SessionFault) → Feeds view limits.templates (Err f) gave piece last more s
    → IsDueWithin (Some f) limits (gave ++ piece) before after
due_by view limits before after last more s gave piece (faults.Message OutOfMemory) fed = tt
due_by view limits before after last more s gave piece (faults.Message e) fed = fed.0
due_by view limits before after last more s gave piece faults.SinkClosed fed = tt
due_by view limits before after last more s gave piece faults.Truncated fed = absurd fed
due_by view limits before after last more s gave piece faults.ReadFailed fed = absurd fed
due_by view limits before after last more s gave piece faults.TooManyReads fed = absurd fed

put_by : {K : Type 0} (view : SinkView K) (limits : SessionLimits) (last more : K) (s : State) (gave piece : List ℕ) (told : List Message → ℕ → Type 0) (f : SessionFault) → ((ms : List Message) (d : ℕ) → Tells s.counts ms d → told ms d)
    → Feeds view limits.templates (Err f) gave piece last more s → PutsUpTo view (Some f) (given_within limits.templates gave).messages (given_within limits.templates (gave ++ piece)).messages last more told
put_by view limits last more s gave piece told f tell fed = puts_told view (Some f) _ _ last more (Tells s.counts) told tell (by_fault f fed)
  where
    by_fault : (f : SessionFault) → Feeds view limits.templates (Err f) gave piece last more s → PutsUpTo view (Some f) (given_within limits.templates gave).messages (given_within limits.templates (gave ++ piece)).messages last more (Tells s.counts)
    by_fault (faults.Message OutOfMemory) out = out
    by_fault (faults.Message e) fed = record { put = fed.1.put; takes = fed.1.takes; records = fed.1.records; tells = fed.1.stands.tells }
    by_fault faults.SinkClosed b = b
    by_fault faults.Truncated fed = absurd fed
    by_fault faults.ReadFailed fed = absurd fed
    by_fault faults.TooManyReads fed = absurd fed

-- with such a fault it could not have gone on
refused_by : {K : Type 0} (view : SinkView K) (limits : SessionLimits) (last more : K) (s : State) (gave piece : List ℕ) (f : SessionFault) → Feeds view limits.templates (Err f) gave piece last more s → ends_open (Some f) ≡ false
refused_by view limits last more s gave piece (faults.Message e) fed = refl
refused_by view limits last more s gave piece faults.SinkClosed fed = refl
refused_by view limits last more s gave piece faults.Truncated fed = absurd fed
refused_by view limits last more s gave piece faults.ReadFailed fed = absurd fed
refused_by view limits last more s gave piece faults.TooManyReads fed = absurd fed

pub drives_fault : {S K : Type 0} (seen : S → SourceView) (view : SinkView K) (limits : SessionLimits) (n count : ℕ) (before now after : S) (first last more : K) (s t : State) (buffer : List ℕ) (o : Option SessionFault) (told : List Message → ℕ → Type 0) (f : SessionFault)
    → (d : Driving view limits.templates n (seen before) (seen now) first last s) → n < limits.reads → length buffer ≤ READ_SIZE → IsRead (seen now) (Ok count) (seen after) buffer → Feeds view limits.templates (Err f) d.gave (take count buffer) last more t
    → (ends_open (Some f) ≡ false → AreToldAs t.counts told) → o ≡ Some f
    → DrivesTo seen view limits before after first more o told
unfolding stops_at
drives_fault seen view limits n count before now after first last more s t buffer o told f d less room read fed tell fault =
    let piece = take count buffer in
    record {
      gave = d.gave ++ piece;
      given = record {
        octets = Consumes-trans (seen before).text (seen now).text (seen after).text d.gave piece d.octets read.moved;
        within = omega (arith, d.within, read.counted, less);
        stops = stops_at seen view limits.templates n before now after first last s d (d.gave ++ piece) piece (omega (arith, read.counted)) refl (read_fits count buffer read.fits room);
        fault_is_due = subst (λ (f : Option SessionFault). IsDueWithin f limits (d.gave ++ piece) (seen before) (seen after)) (sym fault) (due_by view limits (seen before) (seen after) last more t d.gave piece f fed);
      };
      middle = last;
      earlier = d.takes;
      puts = subst (λ (f : Option SessionFault). PutsUpTo view f (given_within limits.templates d.gave).messages (given_within limits.templates (d.gave ++ piece)).messages last more told) (sym fault)
          (put_by view limits last more t d.gave piece told f (tell (refused_by view limits last more t d.gave piece f fed)) fed);
    }

-- ---- the last read gave nothing

-- all that was to be put had been put
puts_none : {K : Type 0} (view : SinkView K) (limits : SessionLimits) (k : K) (gave : List ℕ) (told : List Message → ℕ → Type 0) → told (given_within limits.templates gave).messages (length (records_within limits.templates gave)) → PutsWhole view (given_within limits.templates gave).messages (given_within limits.templates gave).messages k k told
puts_none view limits k gave told tells = record { put = []; takes = takes-none view k; records = sym (append-nil (records_within limits.templates gave)); tells = tells }

-- a source that gave nothing more, and why that was the last read
drives_still : {S K : Type 0} (seen : S → SourceView) (view : SinkView K) (limits : SessionLimits) (n : ℕ) (before now after : S) (first last : K) (s : State) (o : Option SessionFault) (told : List Message → ℕ → Type 0)
    → (d : Driving view limits.templates n (seen before) (seen now) first last s) → Consumes (seen before).text (seen after).text d.gave → (seen after).reads ≤ (seen before).reads + limits.reads → (seen after).reads ≤ (seen now).reads + 1
    → IsDueWithin o limits d.gave (seen before) (seen after)
    → PutsUpTo view o (given_within limits.templates d.gave).messages (given_within limits.templates d.gave).messages last last told
    → DrivesTo seen view limits before after first last o told
unfolding stops_at
drives_still seen view limits n before now after first last s o told d octets within few due puts =
    record {
      gave = d.gave;
      given = record {
        octets = octets;
        within = within;
        stops = stops_at seen view limits.templates n before now after first last s d d.gave [] few (sym (append-nil d.gave)) (omega arith);
        fault_is_due = due;
      };
      middle = last;
      earlier = d.takes;
      puts = puts;
    }

-- ---- the end of the source

pub told_end : (was now : Bool) (n : ℕ) (buffer : List ℕ) → now ≡ (was || tells_end (Ok n) buffer) → n ≡ 0 → 0 < length buffer → now ≡ true
told_end true now n buffer is zero room = is
told_end false now n buffer is zero room = is ∙ ap (λ m. (m == 0) && nat_lt 0 (length buffer)) zero ∙ lt-ltb 0 (length buffer) room

pub due_at : (limits : SessionLimits) (before after : SourceView) (gave : List ℕ) (s : Stop) → stop_within limits.templates gave ≡ s → IsOpen s → after.ended ≡ true → after.failed ≡ before.failed → IsDueWithin (fault_at_end s) limits gave before after
due_at limits before after gave Clean is is_open end same = (is, end, same)
due_at limits before after gave Short is is_open end same = (is, end, same)
due_at limits before after gave (Fault e) is is_open end same = absurd is_open

put_at : {K : Type 0} (view : SinkView K) (first last : K) (old all : List Message) (told : List Message → ℕ → Type 0) (s : Stop) → IsOpen s → PutsWhole view old all first last told → PutsUpTo view (fault_at_end s) old all first last told
put_at view first last old all told Clean is_open puts = puts
put_at view first last old all told Short is_open puts = puts
put_at view first last old all told (Fault e) is_open puts = absurd is_open

pub drives_ended : {S K : Type 0} (seen : S → SourceView) (view : SinkView K) (limits : SessionLimits) (n count : ℕ) (before now after : S) (first last : K) (s : State) (buffer : List ℕ) (o : Option SessionFault) (told : List Message → ℕ → Type 0)
    → (d : Driving view limits.templates n (seen before) (seen now) first last s) → n < limits.reads → IsRead (seen now) (Ok count) (seen after) buffer → count ≡ 0 → 0 < length buffer → told (given_within limits.templates d.gave).messages (length (records_within limits.templates d.gave)) → o ≡ end_within limits.templates d.gave
    → DrivesTo seen view limits before after first last o told
drives_ended seen view limits n count before now after first last s buffer o told d less read none room tells is_fault =
    let is_open = may_go_on limits.templates s d.gave d.stands d.no_fault in
    let same : List ℕ → Type 0 = λ gave. Consumes (seen before).text (seen after).text gave in
    let moved = subst (λ k. Consumes (seen now).text (seen after).text (take k buffer)) none read.moved in
    drives_still seen view limits n before now after first last s o told d
    (subst same (append-nil d.gave) (Consumes-trans (seen before).text (seen now).text (seen after).text d.gave [] d.octets moved)) (omega (arith, d.within, read.counted, less)) (omega (arith, read.counted))
    (subst (λ (f : Option SessionFault). IsDueWithin f limits d.gave (seen before) (seen after)) (sym is_fault)
    (due_at limits (seen before) (seen after) d.gave (stop_within limits.templates d.gave) refl is_open (told_end (seen now).ended (seen after).ended count buffer read.end none room) (read.failures ∙ d.none_failed)))
    (subst (λ (f : Option SessionFault). PutsUpTo view f (given_within limits.templates d.gave).messages (given_within limits.templates d.gave).messages last last told) (sym is_fault)
    (put_at view last last (given_within limits.templates d.gave).messages (given_within limits.templates d.gave).messages told (stop_within limits.templates d.gave) is_open (puts_none view limits last d.gave told tells)))

-- ---- a read that failed

pub drives_failed : {S K : Type 0} (seen : S → SourceView) (view : SinkView K) (limits : SessionLimits) (n : ℕ) (before now after : S) (first last : K) (s : State) (buffer : List ℕ) (o : Option SessionFault) (told : List Message → ℕ → Type 0)
    → (d : Driving view limits.templates n (seen before) (seen now) first last s) → n < limits.reads → IsRead (seen now) (Err Failed) (seen after) buffer
    → told (given_within limits.templates d.gave).messages (length (records_within limits.templates d.gave)) → o ≡ Some faults.ReadFailed
    → DrivesTo seen view limits before after first last o told
drives_failed seen view limits n before now after first last s buffer o told d less read tells fault =
    drives_still seen view limits n before now after first last s o told d
    (Consumes-kept (seen before).text (seen now).text (seen after).text d.gave d.octets read.moved) (omega (arith, d.within, read.counted, less)) (omega (arith, read.counted))
    (subst (λ (f : Option SessionFault). IsDueWithin f limits d.gave (seen before) (seen after)) (sym fault) (may_go_on limits.templates s d.gave d.stands d.no_fault, read.failures ∙ ap one_more d.none_failed))
    (subst (λ (f : Option SessionFault). PutsUpTo view f (given_within limits.templates d.gave).messages (given_within limits.templates d.gave).messages last last told) (sym fault) (puts_none view limits last d.gave told tells))

-- ---- no more reads

pub drives_limit : {S K : Type 0} (seen : S → SourceView) (view : SinkView K) (limits : SessionLimits) (n : ℕ) (before now : S) (first last : K) (s : State) (o : Option SessionFault) (told : List Message → ℕ → Type 0)
    → (d : Driving view limits.templates n (seen before) (seen now) first last s) → n ≡ limits.reads
    → told (given_within limits.templates d.gave).messages (length (records_within limits.templates d.gave)) → o ≡ Some faults.TooManyReads
    → DrivesTo seen view limits before now first last o told
drives_limit seen view limits n before now first last s o told d all tells fault =
    drives_still seen view limits n before now now first last s o told d d.octets (omega (arith, d.within, all)) (omega arith)
    (subst (λ (f : Option SessionFault). IsDueWithin f limits d.gave (seen before) (seen now)) (sym fault)
    (may_go_on limits.templates s d.gave d.stands d.no_fault, subst (λ (k : ℕ). ((seen now).reads ≡ (seen before).reads + k) ⊎ ((seen now).reads ≡ 2 ^ 64 - 1)) all d.counted, d.none_failed, d.not_ended))
    (subst (λ (f : Option SessionFault). PutsUpTo view f (given_within limits.templates d.gave).messages (given_within limits.templates d.gave).messages last last told) (sym fault) (puts_none view limits last d.gave told tells))

-- ---- no memory for a buffer

pub drives_nowhere : {S K : Type 0} (seen : S → SourceView) (view : SinkView K) (limits : SessionLimits) (source : S) (sink : K) (s : State) (o : Option SessionFault) (told : List Message → ℕ → Type 0) → StandsForText limits.templates s []
    → AreToldAs s.counts told → o ≡ Some (faults.Message OutOfMemory)
    → DrivesTo seen view limits source source sink sink o told
unfolding driving_first
drives_nowhere seen view limits source sink s o told stands tell fault =
    let d = driving_first view limits.templates (seen source) sink s stands in
    let ms = (given_within limits.templates []).messages in
    let out : RunsOut view ms ms sink sink told =
    record { whole = ms; from = ([], sym (append-nil ms)); up_to = ([], sym (append-nil ms)); puts = puts_none view limits sink [] told (tell _ _ stands.tells) } in
    drives_still seen view limits 0 source source source sink sink s o told d d.octets (omega arith) (omega arith)
    (subst (λ (f : Option SessionFault). IsDueWithin f limits [] (seen source) (seen source)) (sym fault) tt)
    (subst (λ (f : Option SessionFault). PutsUpTo view f ms ms sink sink told) (sym fault) out)
