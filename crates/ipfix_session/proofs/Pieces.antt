-- Feeding one piece after another.
use Rattle.std.proofs.Common.{◌≡◌, ℕ, List, [], ◌∷◌, ◌++◌, length, Option, Result, Ok, Err, sym, ap, subst, ◌∙◌, append_assoc}
use Rattle.ipfix_message.specs.Domains.{Message}
use Rattle.ipfix_message.specs.declared.fault.MessageFault.{MessageFault}
use Rattle.ipfix_message.specs.declared.fault.MessageFault.TheVariants.{OutOfMemory}
use Rattle.ipfix_message.specs.declared.record.DataRecord.{DataRecord}
use Rattle.ipfix_session.specs.declared.stop.Stop.TheVariants.{Fault}
use Rattle.ipfix_session.specs.declared.fault.SessionFault.{SessionFault}
use Rattle.ipfix_session.specs.declared.fault.SessionFault.TheVariants as faults
use Rattle.ipfix_session.specs.Given.{Given, given_within, records_in, records_within, stop_within, IsOpen, IsPrefix}
use Rattle.ipfix_session.specs.Sinks.{SinkView}
use Rattle.ipfix_session.specs.Feeding.{State, Tells, fault_at, StandsForText, PutsWhole, PutsAll, RunsOut, IsRefused, Feeds}
use Rattle.ipfix_session.proofs.Giving.{given_within-prefix, gives_within-fault_stays}
use Rattle.ipfix_session.proofs.Reaching.{takes-append}

prefix_then : {X : Type 0} (xs ys zs : List X) → IsPrefix xs ys → IsPrefix ys zs → IsPrefix xs zs
prefix_then {X} xs ys zs p q = (p.0 ++ q.0, q.1 ∙ ap (λ (ws : List X). ws ++ q.0) p.1 ∙ append_assoc xs p.0 q.0)

module _ {K : Type 0} (view : SinkView K) (limit : Option ℕ) where
  puts_then : (s later : State) (text p q : List ℕ) (before now after : K) → PutsAll view limit text p before now s → PutsAll view limit (text ++ p) q now after later
      → PutsAll view limit text (p ++ q) before after later
  puts_then s later text p q before now after a b =
      let e = append_assoc text p q in
      record {
        put = a.put ++ b.put;
        takes = takes-append view before now after a.put b.put a.takes b.takes;
        records = ap (records_within limit) (sym e) ∙ b.records ∙ ap (λ (rs : List DataRecord). rs ++ b.put) a.records ∙ append_assoc (records_within limit text) a.put b.put;
        stands = subst (StandsForText limit later) e b.stands;
      }

  whole_then : (s : State) (text p : List ℕ) (whole : List Message) (before now after : K) (told : List Message → ℕ → Type 0) → PutsAll view limit text p before now s → PutsWhole view (given_within limit (text ++ p)).messages whole now after told
      → PutsWhole view (given_within limit text).messages whole before after told
  whole_then s text p whole before now after told a b =
      record {
        put = a.put ++ b.put;
        takes = takes-append view before now after a.put b.put a.takes b.takes;
        records = b.records ∙ ap (λ (rs : List DataRecord). rs ++ b.put) a.records ∙ append_assoc (records_within limit text) a.put b.put;
        tells = b.tells;
      }

  refused_then : (s : State) (text p : List ℕ) (all : List Message) (before now after : K) (told : List Message → ℕ → Type 0) → PutsAll view limit text p before now s → IsRefused view (given_within limit (text ++ p)).messages all now after told
      → IsRefused view (given_within limit text).messages all before after told
  refused_then s text p all before now after told a b =
      record {
        whole = b.whole;
        next = b.next;
        more = b.more;
        from = prefix_then (given_within limit text).messages (given_within limit (text ++ p)).messages b.whole (given_within-prefix limit text p) b.from;
        are = b.are;
        first = b.first;
        item = b.item;
        others = b.others;
        cut_off = b.cut_off;
        put = a.put ++ b.put;
        last = b.last;
        takes = takes-append view before now b.last a.put b.put a.takes b.takes;
        records = b.records ∙ ap (λ (rs : List DataRecord). rs ++ b.put) a.records ∙ append_assoc (records_within limit text) a.put b.put;
        back = b.back;
        tells = b.tells;
      }

  pub feeds_then : (s later : State) (text p q : List ℕ) (before now after : K) (x : Unit {0}) (r : Result (Unit {0}) SessionFault) → Feeds view limit (Ok x) text p before now s → Feeds view limit r (text ++ p) q now after later
      → Feeds view limit r text (p ++ q) before after later
  feeds_then s later text p q before now after x (Ok y) a b =
      (subst (λ (w : List ℕ). IsOpen (stop_within limit w)) (append_assoc text p q) b.0, puts_then s later text p q before now after a.1 b.1)
  feeds_then s later text p q before now after x (Err (faults.Message OutOfMemory)) a b =
      record {
        whole = b.whole;
        from = prefix_then (given_within limit text).messages (given_within limit (text ++ p)).messages b.whole (given_within-prefix limit text p) b.from;
        up_to = subst (λ (w : List ℕ). IsPrefix b.whole (given_within limit w).messages) (append_assoc text p q) b.up_to;
        puts = whole_then s text p b.whole before now after (Tells later.counts) a.1 b.puts;
      }
  feeds_then s later text p q before now after x (Err (faults.Message e)) a b =
      (ap (stop_within limit) (sym (append_assoc text p q)) ∙ b.0, puts_then s later text p q before now after a.1 b.1)
  feeds_then s later text p q before now after x (Err faults.SinkClosed) a b =
      refused_then s text p (given_within limit (text ++ (p ++ q))).messages before now after (Tells later.counts) a.1
      (subst (λ (w : List ℕ). IsRefused view (given_within limit (text ++ p)).messages (given_within limit w).messages now after (Tells later.counts)) (append_assoc text p q) b)
  feeds_then s later text p q before now after x (Err faults.Truncated) a b = absurd b
  feeds_then s later text p q before now after x (Err faults.ReadFailed) a b = absurd b
  feeds_then s later text p q before now after x (Err faults.TooManyReads) a b = absurd b

  -- ---- after a fault the pieces don't matter

  up_to_more : (s : State) (text p q : List ℕ) (before after : K) → RunsOut view (given_within limit text).messages (given_within limit (text ++ p)).messages before after (Tells s.counts)
      → RunsOut view (given_within limit text).messages (given_within limit (text ++ (p ++ q))).messages before after (Tells s.counts)
  up_to_more s text p q before after r =
      record {
        whole = r.whole;
        from = r.from;
        up_to = subst (λ (w : List ℕ). IsPrefix r.whole (given_within limit w).messages) (append_assoc text p q)
            (prefix_then r.whole (given_within limit (text ++ p)).messages (given_within limit ((text ++ p) ++ q)).messages r.up_to (given_within-prefix limit (text ++ p) q));
        puts = r.puts;
      }

  refused_more : (s : State) (text p q : List ℕ) (before after : K) → IsRefused view (given_within limit text).messages (given_within limit (text ++ p)).messages before after (Tells s.counts)
      → IsRefused view (given_within limit text).messages (given_within limit (text ++ (p ++ q))).messages before after (Tells s.counts)
  refused_more s text p q before after r =
      let on = subst (λ (w : List ℕ). IsPrefix (given_within limit (text ++ p)).messages (given_within limit w).messages) (append_assoc text p q) (given_within-prefix limit (text ++ p) q) in
      record {
        whole = r.whole;
        next = r.next;
        more = r.more ++ on.0;
        from = r.from;
        are = on.1 ∙ ap (λ (ms : List Message). ms ++ on.0) r.are ∙ append_assoc r.whole (r.next ∷ r.more) on.0;
        first = r.first;
        item = r.item;
        others = r.others;
        cut_off = r.cut_off;
        put = r.put;
        last = r.last;
        takes = r.takes;
        records = r.records;
        back = r.back;
        tells = r.tells;
      }

  puts_more : (s : State) (text p q : List ℕ) (before after : K) (e : MessageFault) → stop_within limit (text ++ p) ≡ Fault e → PutsAll view limit text p before after s
      → (stop_within limit (text ++ (p ++ q)) ≡ Fault e) × PutsAll view limit text (p ++ q) before after s
  puts_more s text p q before after e stop a =
      let same : given_within limit (text ++ (p ++ q)) ≡ given_within limit (text ++ p) = ap (given_within limit) (sym (append_assoc text p q)) ∙ gives_within-fault_stays limit [] (text ++ p) q e stop in
      let stops : stop_within limit (text ++ (p ++ q)) ≡ Fault e = ap (λ (g : Given). g.stop) same ∙ stop in (
        stops,
        record {
          put = a.put;
          takes = a.takes;
          records = ap (λ (g : Given). records_in g.messages) same ∙ a.records;
          stands = record {
            fault = a.stands.fault ∙ ap fault_at (ap (λ (g : Given). g.stop) (sym same));
            tells = subst (λ (ms : List Message). Tells s.counts ms (length (records_in ms))) (ap (λ (g : Given). g.messages) (sym same)) a.stands.tells;
            goes_on = λ o. absurd (subst IsOpen stops o);
          };
        },
      )

  pub feeds_more : (s : State) (text p q : List ℕ) (before after : K) (f : SessionFault) → Feeds view limit (Err f) text p before after s → Feeds view limit (Err f) text (p ++ q) before after s
  feeds_more s text p q before after (faults.Message OutOfMemory) r = up_to_more s text p q before after r
  feeds_more s text p q before after (faults.Message e) r = puts_more s text p q before after e r.0 r.1
  feeds_more s text p q before after faults.SinkClosed r = refused_more s text p q before after r
  feeds_more s text p q before after faults.Truncated r = absurd r
  feeds_more s text p q before after faults.ReadFailed r = absurd r
  feeds_more s text p q before after faults.TooManyReads r = absurd r
