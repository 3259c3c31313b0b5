-- What a recorder takes for a datagram.
use Rattle.std.proofs.Common.{◌≡◌, ℕ, ◌≤◌, List, [], ◌∷◌, ◌++◌, take, drop, length, None, Ok, refl, sym, ap, ap₂, subst, ◌∙◌, append_assoc, arith, inl, inr, Bool, true, false, eqb, ltb}
use Rattle.std.specs.Prelude.{◌≢◌, All, min, Result, Err, IfOk, IfErr, MatchResult}
use Rattle.std.proofs.lemmas.Bool.{eqb-true, ltb-true, ltb-false}
use Rattle.std.proofs.lemmas.List.{append-nil, map-append, take_min, take-append-drop}
use Rattle.std.proofs.Math.ListN.{drop_of_length-le}
use Rattle.ipfix_wire.specs.declared.header.Header.{Header}
use Rattle.ipfix_message.specs.declared.record.Template.{Template}
use Rattle.ipfix_message.specs.declared.template_record.Event.{Event}
use Rattle.ipfix_message.specs.WrittenTemplates.{IsTemplate, template_set}
use Rattle.ipfix_message.specs.Domains.{History, Message, message_header, message_gives}
use Rattle.ipfix_message.specs.Outcome.{Fails}
use Rattle.ipfix_message.specs.Alike.{knows}
use Rattle.ipfix_message.specs.declared.fault.MessageFault.{MessageFault}
use Rattle.ipfix_message.specs.declared.fault.MessageFault.TheVariants.{OutOfMemory}
use Rattle.ipfix_message.proofs.Reading.{ok_is}
use Rattle.ipfix_session.specs.Given.{known_after, octets_of}
use Rattle.ipfix_session.proofs.Chains.{known_after-push}
use Rattle.ipfix_session.proofs.Giving.{records_in-append}
use Rattle.ipfix_session.proofs.MessagesTaken.{octets-append, octets-push}
use Rattle.recording_files.specs.declared.message_count.MessageCount.{MessageCount}
use Rattle.ipfix_message.specs.declared.stamp.Stamp.{Stamp}
use Rattle.ipfix_message.specs.TemplateMessages.{IsStamp, sets_octets, stamped, templates_message}
use Rattle.ipfix_message.proofs.TemplateMessages.{header_is}
use Rattle.recording_files.specs.Recordings.{Writes}
use Rattle.recording_files.specs.Recorders.{FailsOn, ForKeeps, State, Keeps, IsCountOf}
use Rattle.recording_files.proofs.Growing.{writes_more}
use Rattle.ipfix_datagrams.specs.declared.reading.DatagramReading.{DatagramReading}
use Rattle.ipfix_datagrams.specs.declared.withdrawn_template.WithdrawnTemplate.{WithdrawnTemplate}
use Rattle.ipfix_datagrams.specs.Datagrams.{Basis, Preparation, preparation_of, prepared, with_withdrawn, with_one_withdrawn, with_one_defined, with_defined, IsTaken}
use Rattle.ipfix_message.proofs.PartsOf.{HasRoom, was_read}
use Rattle.ipfix_datagrams.proofs.Appearing.{room_ok}
use Rattle.ipfix_datagrams.specs.Attempts.{CanDefine}
use Rattle.ipfix_datagrams.specs.Withdrawals.{HasTemplateId, withdrawal_header, withdrawal_message}
use Rattle.ipfix_datagrams.proofs.Withdrawn.{withdraws}
use Rattle.ipfix_datagrams.proofs.WithdrawnDomains.{knows-withdrawn}
use Rattle.ipfix_datagrams.proofs.Answered.{taken_prepares}
use Rattle.ipfix_datagrams.proofs.Defined.{Defined, defines, defined_now, knows-one_defined}
use Rattle.ipfix_datagrams.proofs.Readings.{header_same, only_memory}
use Rattle.recording_peer.specs.Peers.{Resumed, basis_with, InParts, front_header, front_messages, stamp_of, withdrawals, definitions}
use Rattle.recording_peer.specs.Fronts.{domains_after, HasAppeared, CanWithdraw, Took, TookOwn, TookOne, TookDefinition, TookFront, TakesWithdrawals, TookWithdrawals, TookPrepared, TakesDefinitions, TookDatagram, CanGoOn, IsDefinable, CanDefineNext}

-- ---- a message

-- it is one of the recorder's own, since it gives this
own : (before here : List Message) (t : State) (m w old new : List ℕ) (c : MessageCount) (ds : History) (y : Message) → m ≡ w → message_gives (domains_after before here) w ≡ Ok y → y.domains ≡ ds → y.decoding.records ≡ []
    → Took before here t m old new c → TookOwn before here t w ds old new
own before here t m w old new c ds y written read domains none r =
    let k : Took before here t w old new c = subst (λ (v : List ℕ). Took before here t v old new c) written r in
    let same : k.records.given ≡ y = ok_is k.records.given y (sym k.records.read ∙ read) in
    record {
      count = c;
      took = k;
      domains_are = ap (λ (x : Message). x.domains) same ∙ domains;
      no_records = ap (λ (x : Message). x.decoding.records) same ∙ none;
    }

-- one that withdraws templates
pub took_one : (before here : List Message) (t : State) (h : Header) (ws : List WithdrawnTemplate) (m old new : List ℕ) (c : MessageCount) → HasAppeared before here h.domain
    → message_header (withdrawal_message h ws) ≡ Ok (withdrawal_header h ws) → All HasTemplateId ws → m ≡ withdrawal_message h ws → Took before here t m old new c → TookOne before here t h ws old new
took_one before here t h ws m old new c there good ids written r =
    let ds = domains_after before here in
    let y = withdraws ds h ws good there ids in
    own before here t m (withdrawal_message h ws) old new c (with_withdrawn ds h.domain ws) y.0 written y.1.is y.1.domains y.1.records r

-- only memory can fail
pub one_fails : (before here : List Message) (h : Header) (ws : List WithdrawnTemplate) (m : List ℕ) (fault : MessageFault) → HasAppeared before here h.domain
    → message_header (withdrawal_message h ws) ≡ Ok (withdrawal_header h ws) → All HasTemplateId ws → m ≡ withdrawal_message h ws → Fails fault (message_gives (domains_after before here) m) → fault ≡ OutOfMemory
one_fails before here h ws m fault there good ids written fails =
    let ds = domains_after before here in
    let y = withdraws ds h ws good there ids in
    only_memory fault (message_gives ds m) y.0 fails (ap (message_gives ds) written ∙ y.1.is)

-- one that defines a template
pub took_definition : (before here : List Message) (t : State) (z : Stamp) (u : Template) (m old new : List ℕ) (c : MessageCount) → (y : Message) × Defined (domains_after before here) z u y
    → m ≡ templates_message z (u ∷ []) → Took before here t m old new c → TookDefinition before here t z u old new
took_definition before here t z u m old new c y written r =
    own before here t m (templates_message z (u ∷ [])) old new c (with_one_defined (domains_after before here) z.domain u) y.0 written y.1.is y.1.domains y.1.records r

pub definition_fails : (before here : List Message) (z : Stamp) (u : Template) (m : List ℕ) (fault : MessageFault) → (y : Message) × Defined (domains_after before here) z u y
    → m ≡ templates_message z (u ∷ []) → Fails fault (message_gives (domains_after before here) m) → fault ≡ OutOfMemory
definition_fails before here z u m fault y written fails =
    let ds = domains_after before here in
    only_memory fault (message_gives ds m) y.0 fails (ap (message_gives ds) written ∙ y.1.is)

pub definition_header : (z : Stamp) (u : Template) → IsStamp z → IsTemplate u → (k : Header) × (message_header (templates_message z (u ∷ [])) ≡ Ok k)
definition_header z u is fits =
    let size : length (sets_octets (u ∷ [])) ≡ length (template_set u) = ap length (append-nil (template_set u)) in
    (stamped z (length (sets_octets (u ∷ []))), header_is z (u ∷ []) is (omega (arith, fits.fits, size)))

-- ---- messages in turn

module _ (before here : List Message) where
  -- none yet
  none_front : (s : State) (octets : List ℕ) → octets ≡ [] → Keeps s before here → TookFront before here s [] (domains_after before here) octets
  none_front s octets none keeps = record {
    given = [];
    no_records = refl;
    file = [];
    writes = refl;
    octets_are = none;
    known = ap (λ (ms : List Message). domains_after before ms) (append-nil here);
    keeps = subst (Keeps s before) (sym (append-nil here)) keeps;
  }

  front_same : (s : State) (ms ns : List (List ℕ)) (ds es : History) (octets : List ℕ) → TookFront before here s ms ds octets → ms ≡ ns → ds ≡ es → TookFront before here s ns es octets
  front_same s ms ns ds es octets f messages domains = record {
    given = f.given;
    no_records = f.no_records;
    file = f.file;
    writes = subst (λ (w : List (List ℕ)). Writes before here w f.given f.file) messages f.writes;
    octets_are = f.octets_are;
    known = f.known ∙ domains;
    keeps = f.keeps;
  }

  -- what the file has with one more
  writes_one : (s t : State) (ms : List (List ℕ)) (ds : History) (m old new : List ℕ) (c : MessageCount) (f : TookFront before here s ms ds old) (r : Took before (here ++ f.given) t m old new c)
      → Writes before here (ms ++ m ∷ []) (f.given ++ r.records.given ∷ []) (f.file ++ (r.records.lead ++ m ∷ []))
  writes_one s t ms ds m old new c f r = writes_more before here ms f.given f.file m r.records.given r.records.lead f.writes r.records.read r.records.is

  octets_one : (s t : State) (ms : List (List ℕ)) (ds : History) (m old new : List ℕ) (c : MessageCount) (f : TookFront before here s ms ds old) (r : Took before (here ++ f.given) t m old new c)
      → new ≡ octets_of (f.file ++ (r.records.lead ++ m ∷ []))
  octets_one s t ms ds m old new c f r =
      r.appended ∙ ap₂ (λ (a b : List ℕ). a ++ b) f.octets_are r.records.octets_are
      ∙ sym (octets-append f.file (r.records.lead ++ m ∷ []) ∙ ap (λ (w : List ℕ). octets_of f.file ++ w) (octets-push r.records.lead m))

  keeps_one : (t : State) (xs : List Message) (x : Message) → Keeps t before ((here ++ xs) ++ x ∷ []) → Keeps t before (here ++ (xs ++ x ∷ []))
  keeps_one t xs x keeps = subst (Keeps t before) (append_assoc here xs (x ∷ [])) keeps

  known_one : (xs : List Message) (x : Message) → domains_after before (here ++ (xs ++ x ∷ [])) ≡ x.domains
  known_one xs x =
      ap (λ (ms : List Message). known_after [] (before ++ ms)) (sym (append_assoc here xs (x ∷ []))) ∙ ap (known_after []) (sym (append_assoc before (here ++ xs) (x ∷ []))) ∙ known_after-push [] (before ++ (here ++ xs)) x

  -- one more
  front_more : (s t : State) (ms : List (List ℕ)) (ds es : History) (m old new : List ℕ) (f : TookFront before here s ms ds old) → TookOwn before (here ++ f.given) t m es old new → TookFront before here t (ms ++ m ∷ []) es new
  front_more s t ms ds es m old new f one =
      let r = one.took in
      let x = r.records.given in
      record {
        given = f.given ++ x ∷ [];
        no_records = records_in-append f.given (x ∷ []) ∙ rw (f.no_records, one.no_records) refl;
        file = f.file ++ (r.records.lead ++ m ∷ []);
        writes = writes_one s t ms ds m old new one.count f r;
        octets_are = octets_one s t ms ds m old new one.count f r;
        known = known_one f.given x ∙ one.domains_are;
        keeps = keeps_one t f.given x r.records.keeps;
      }

-- ---- messages that withdraw templates

pub none_in : (ws : List WithdrawnTemplate) → eqb (length ws) 0 ≡ true → ws ≡ []
none_in [] e = refl
none_in (w ∷ ws) e = absurd (omega (arith, eqb-true (length (w ∷ ws)) 0 e))

pub some_in : (ws : List WithdrawnTemplate) → eqb (length ws) 0 ≡ false → ws ≢ []
some_in ws e = λ none. let no : true ≡ false = sym (ap (λ (xs : List WithdrawnTemplate). eqb (length xs) 0) none) ∙ e in absurd cc

withdrawn-append : (ds : History) (domain : ℕ) (vs ws : List WithdrawnTemplate) → with_withdrawn ds domain (vs ++ ws) ≡ with_withdrawn (with_withdrawn ds domain vs) domain ws
withdrawn-append ds domain [] ws = refl
withdrawn-append ds domain (v ∷ vs) ws = withdrawn-append (with_one_withdrawn ds domain v) domain vs ws

-- none yet
pub none_took : (before here : List Message) (s : State) (h : Header) (ws : List WithdrawnTemplate) (octets : List ℕ) → octets ≡ [] → Keeps s before here → TakesWithdrawals before here s h ws ws octets
none_took before here s h ws octets none keeps = record {
  done = [];
  whole = refl;
  parts = [];
  front = none_front before here s octets none keeps;
  are = λ more is. is;
}

-- the domain is still known
pub still_known : (before here : List Message) (s : State) (h : Header) (ws rest : List WithdrawnTemplate) (octets : List ℕ) (f : TakesWithdrawals before here s h ws rest octets)
    → CanWithdraw before here h.domain ws → rest ≢ [] → HasAppeared before (here ++ f.front.given) h.domain
still_known before here s h ws rest octets f (inl none) some = absurd (some (no_rest f.done rest (sym f.whole ∙ none)))
  where
    no_rest : (done rest : List WithdrawnTemplate) → done ++ rest ≡ [] → rest ≡ []
    no_rest [] rest e = e
    no_rest (w ∷ done) rest e = absurd cc
still_known before here s h ws rest octets f (inr there) some =
    ap (λ (ds : History). knows ds h.domain) f.front.known ∙ knows-withdrawn (domains_after before here) h.domain f.done h.domain ∙ there

drop_min : (n : ℕ) (xs : List WithdrawnTemplate) → drop (min n (length xs)) xs ≡ drop n xs
drop_min n xs = by_test (ltb n (length xs)) refl
  where
    by_test : (b : Bool) → ltb n (length xs) ≡ b → drop (min n (length xs)) xs ≡ drop n xs
    by_test true is = let same : min n (length xs) ≡ n = omega (arith, ltb-true n (length xs) is) in ap (λ (k : ℕ). drop k xs) same
    by_test false is =
        let many : length xs ≤ n = ltb-false n (length xs) is in
        let all : length xs ≤ min n (length xs) = omega arith in
        drop_of_length-le xs all ∙ sym (drop_of_length-le xs many)

-- one part more
pub took_more : (before here : List Message) (s t : State) (h : Header) (ws rest part others : List WithdrawnTemplate) (n : ℕ) (old new : List ℕ) (f : TakesWithdrawals before here s h ws rest old) → rest ≢ []
    → n ≡ min 8189 (length rest) → part ≡ take n rest → others ≡ drop n rest → TookOne before (here ++ f.front.given) t h part old new → TakesWithdrawals before here t h ws others new
took_more before here s t h ws rest part others n old new f some size first second one =
    let ds = domains_after before here in
    let m = withdrawal_message h part in
    let whole : rest ≡ part ++ others = sym (ap₂ (λ (a b : List WithdrawnTemplate). a ++ b) first second ∙ take-append-drop n rest) in
    let is_part : part ≡ take 8189 rest = first ∙ ap (λ (k : ℕ). take k rest) size ∙ take_min 8189 rest in
    let is_rest : others ≡ drop 8189 rest = second ∙ ap (λ (k : ℕ). drop k rest) size ∙ drop_min 8189 rest in
    let more = front_more before here s t (withdrawals h f.parts) (with_withdrawn ds h.domain f.done) (with_withdrawn (domains_after before (here ++ f.front.given)) h.domain part) m old new f.front one in
    record {
      done = f.done ++ part;
      whole = f.whole ∙ ap (λ (xs : List WithdrawnTemplate). f.done ++ xs) whole ∙ sym (append_assoc f.done part others);
      parts = f.parts ++ part ∷ [];
      front = front_same before here t (withdrawals h f.parts ++ m ∷ []) (withdrawals h (f.parts ++ part ∷ [])) _ (with_withdrawn ds h.domain (f.done ++ part)) new more (sym (map-append (withdrawal_message h) f.parts (part ∷ [])))
          (ap (λ (k : History). with_withdrawn k h.domain part) f.front.known ∙ sym (withdrawn-append ds h.domain f.done part));
      are = λ others_parts is. subst (InParts ws) (sym (append_assoc f.parts (part ∷ []) others_parts)) (f.are (part ∷ others_parts) (some, is_part, subst (λ (xs : List WithdrawnTemplate). InParts xs others_parts) is_rest is));
    }

pub took_all : (before here : List Message) (s : State) (h : Header) (ws rest : List WithdrawnTemplate) (octets : List ℕ) → TakesWithdrawals before here s h ws rest octets → rest ≡ [] → TookWithdrawals before here s h ws octets
took_all before here s h ws rest octets f none =
    let ds = domains_after before here in
    let all : f.done ≡ ws = sym (f.whole ∙ ap (λ (xs : List WithdrawnTemplate). f.done ++ xs) none ∙ append-nil f.done) in
    record {
      parts = f.parts;
      are = subst (InParts ws) (append-nil f.parts) (f.are [] none);
      front = front_same before here s (withdrawals h f.parts) (withdrawals h f.parts) (with_withdrawn ds h.domain f.done) (with_withdrawn ds h.domain ws) octets f.front refl (ap (with_withdrawn ds h.domain) all);
    }

-- ---- messages that define templates again

-- it can be defined
pub reads_definition : (before here : List Message) (z : Stamp) (u : Template) → IsStamp z → IsTemplate u → CanDefineNext before here z.domain u → (y : Message) × Defined (domains_after before here) z u y
reads_definition before here z u is fits can = defines (domains_after before here) z u is fits can.0 can.1

-- and those after it
others_can : (ds : History) (domain : ℕ) (t : Template) (ts : List Template) → CanGoOn ds domain (t ∷ ts) → CanGoOn (with_one_defined ds domain t) domain ts
others_can ds domain t ts can =
    (room_ok (with_one_defined ds domain t) domain (inl (knows-one_defined ds domain t)), subst (λ (es : List Event). CanDefine es ts) (sym (defined_now ds domain t)) can.1.1)

defined-push : (ds : History) (domain : ℕ) (ts : List Template) (t : Template) → with_defined ds domain (ts ++ t ∷ []) ≡ with_one_defined (with_defined ds domain ts) domain t
defined-push ds domain [] t = refl
defined-push ds domain (u ∷ us) t = defined-push (with_one_defined ds domain u) domain us t

-- none yet
pub none_defined : (before here : List Message) (s : State) (h : Header) (p : Preparation) (octets : List ℕ) → TookWithdrawals before here s h p.withdrawn octets
    → CanGoOn (with_withdrawn (domains_after before here) h.domain p.withdrawn) h.domain p.defined → TakesDefinitions before here s h p p.defined octets
none_defined before here s h p octets f can = record {
  done = [];
  whole = refl;
  took = record {
    parts = f.parts;
    are = f.are;
    front = let ds = with_withdrawn (domains_after before here) h.domain p.withdrawn in
        front_same before here s (withdrawals h f.parts) (withdrawals h f.parts ++ []) ds ds octets f.front (sym (append-nil (withdrawals h f.parts))) refl;
  };
  can = can;
}

-- the next of them can be defined
pub next_can : (before here : List Message) (s : State) (h : Header) (p : Preparation) (u v : Template) (ts rest : List Template) (octets : List ℕ) (f : TakesDefinitions before here s h p ts octets) → ts ≡ u ∷ rest → v ≡ u
    → CanDefineNext before (here ++ f.took.front.given) h.domain v
next_can before here s h p u v ts rest octets f step same =
    let ds = prepared (domains_after before here) h.domain (record { withdrawn = p.withdrawn; defined = f.done }) in
    let can : CanGoOn ds h.domain (u ∷ rest) = subst (CanGoOn ds h.domain) step f.can in
    subst (λ (w : Template). CanDefineNext before (here ++ f.took.front.given) h.domain w) (sym same) (subst (λ (k : History). IsDefinable k h.domain u) (sym f.took.front.known) (can.0, can.1.0))

-- one more
pub defined_more : (before here : List Message) (s t : State) (h : Header) (p : Preparation) (u v : Template) (ts rest : List Template) (old new : List ℕ) (f : TakesDefinitions before here s h p ts old) → ts ≡ u ∷ rest → v ≡ u
    → TookDefinition before (here ++ f.took.front.given) t (stamp_of h) v old new → TakesDefinitions before here t h p rest new
defined_more before here s t h p u v ts rest old new f step same one =
    let xs = f.took.front.given in
    let m = templates_message (stamp_of h) (u ∷ []) in
    let from = with_withdrawn (domains_after before here) h.domain p.withdrawn in
    let ds = with_defined from h.domain f.done in
    let first = withdrawals h f.took.parts in
    let mine : TookDefinition before (here ++ xs) t (stamp_of h) u old new = subst (λ (w : Template). TookDefinition before (here ++ xs) t (stamp_of h) w old new) same one in
    let more = front_more before here s t (first ++ definitions (stamp_of h) f.done) ds (with_one_defined (domains_after before (here ++ xs)) h.domain u) m old new f.took.front mine in
    let messages = append_assoc first (definitions (stamp_of h) f.done) (m ∷ []) ∙ ap (λ (ms : List (List ℕ)). first ++ ms) (sym (map-append (λ (w : Template). templates_message (stamp_of h) (w ∷ [])) f.done (u ∷ []))) in
    let pushed = defined-push from h.domain f.done u in
    record {
      done = f.done ++ u ∷ [];
      whole = f.whole ∙ ap (λ (us : List Template). f.done ++ us) step ∙ sym (append_assoc f.done (u ∷ []) rest);
      took = record {
        parts = f.took.parts;
        are = f.took.are;
        front = front_same before here t _ (first ++ definitions (stamp_of h) (f.done ++ u ∷ [])) _ (with_defined from h.domain (f.done ++ u ∷ [])) new more messages
            (ap (λ (k : History). with_one_defined k h.domain u) f.took.front.known ∙ sym pushed);
      };
      can = subst (λ (k : History). CanGoOn k h.domain rest) (sym pushed) (others_can ds h.domain u rest (subst (CanGoOn ds h.domain) step f.can));
    }

pub defined_all : (before here : List Message) (s : State) (h : Header) (p : Preparation) (rest : List Template) (octets : List ℕ) → TakesDefinitions before here s h p rest octets → rest ≡ [] → TookPrepared before here s h p octets
defined_all before here s h p rest octets f none =
    let all : f.done ≡ p.defined = sym (f.whole ∙ ap (λ (us : List Template). f.done ++ us) none ∙ append-nil f.done) in
    subst (λ (us : List Template). TookPrepared before here s h (record { withdrawn = p.withdrawn; defined = us }) octets) all f.took

-- ---- a datagram

-- what can be done in front of it
pub front_can : (before here : List Message) (m : List ℕ) (h : Header) (left : Basis) (p : Preparation) (x : Message) → message_header m ≡ Ok h → IsTaken left (domains_after before here) m p x
    → CanWithdraw before here h.domain p.withdrawn × CanGoOn (with_withdrawn (domains_after before here) h.domain p.withdrawn) h.domain p.defined
front_can before here m h left p x good taken =
    let ds = domains_after before here in
    let d = taken.first.header.domain in
    let can = taken_prepares left ds m h p x good taken in
    let same : taken.first.header ≡ h = header_same (with_withdrawn ds d p.withdrawn) m h taken.first good taken.is_prepared.read in
    let room : HasRoom (with_withdrawn ds d p.withdrawn) d = (was_read (with_withdrawn ds d p.withdrawn) m taken.first taken.is_prepared.read).room in
    (can.0, (room_ok (with_withdrawn ds h.domain p.withdrawn) h.domain (subst (λ (g : Header). HasRoom (with_withdrawn ds g.domain p.withdrawn) g.domain) same room), can.1))

-- it is read after the messages in front of it
reads_so : (before here : List Message) (s : State) (m : List ℕ) (h own : Header) (left : Basis) (p : Preparation) (x : Message) (octets : List ℕ) → message_header m ≡ Ok h → IsTaken left (domains_after before here) m p x → own.domain ≡ h.domain
    → (f : TookPrepared before here s own p octets) → message_gives (domains_after before (here ++ f.front.given)) m ≡ Ok x
reads_so before here s m h own left p x octets good taken domain f =
    let same : taken.first.header ≡ h = header_same _ m h taken.first good taken.is_prepared.read in
    ap (λ (ds : History). message_gives ds m) (f.front.known ∙ ap (λ (d : ℕ). prepared (domains_after before here) d p) (domain ∙ sym (ap (λ (g : Header). g.domain) same))) ∙ taken.read

pub datagram_fails : (before here : List Message) (s : State) (m : List ℕ) (h own : Header) (left : Basis) (p : Preparation) (x : Message) (octets : List ℕ) (fault : MessageFault) → message_header m ≡ Ok h → IsTaken left (domains_after before here) m p x → own.domain ≡ h.domain
    → (f : TookPrepared before here s own p octets) → Fails fault (message_gives (domains_after before (here ++ f.front.given)) m) → fault ≡ OutOfMemory
datagram_fails before here s m h own left p x octets fault good taken domain f fails =
    only_memory fault (message_gives (domains_after before (here ++ f.front.given)) m) x fails (reads_so before here s m h own left p x octets good taken domain f)

-- a header with this sequence number
abbrev pub with_sequence : Header → ℕ → Header
with_sequence h n = record h { sequence = n }

pub took_datagram : (before here : List Message) (s t : State) (m : List ℕ) (second : ℕ) (h own : Header) (resumed : Resumed) (barred : List ℕ) (q : DatagramReading) (x : Message) (old new : List ℕ) (c : MessageCount) → message_header m ≡ Ok h → IsTaken (basis_with resumed barred) (domains_after before here) m (preparation_of q) x
    → own ≡ front_header resumed.due (before ++ here) h → (f : TookPrepared before here s own (preparation_of q) old) → Took before (here ++ f.front.given) t m old new c → TookDatagram before here t m second resumed barred q x new c
took_datagram before here s t m second h own resumed barred q x old new c good taken owns f r =
    let p = preparation_of q in
    let xs = f.front.given in
    let ms = front_messages own f.parts p.defined in
    let ds = prepared (domains_after before here) own.domain p in
    let domain : own.domain ≡ h.domain = ap (λ (g : Header). g.domain) owns in
    let header : x.header ≡ h = header_same _ m h x good taken.read in
    let same : r.records.given ≡ x = ok_is r.records.given x (sym r.records.read ∙ reads_so before here s m h own (basis_with resumed barred) p x old good taken domain f) in
    let is_header : own ≡ front_header resumed.due (before ++ here) x.header = owns ∙ ap (front_header resumed.due (before ++ here)) (sym header) in
    record {
      front = record { messages = ms; given = xs };
      has_front = record {
        parts = f.parts;
        are = f.are;
        messages = ap (λ (g : Header). front_messages g f.parts p.defined) is_header;
        records = f.front.no_records;
      };
      file = f.front.file ++ (r.records.lead ++ m ∷ []);
      writes = subst (λ (y : Message). Writes before here (ms ++ m ∷ []) (xs ++ y ∷ []) (f.front.file ++ (r.records.lead ++ m ∷ []))) same (writes_one before here s t ms ds m old new c f.front r);
      octets_are = octets_one before here s t ms ds m old new c f.front r;
      keeps = subst (λ (y : Message). Keeps t before (here ++ (xs ++ y ∷ []))) same (keeps_one before here t xs r.records.given r.records.keeps);
      counts = subst (IsCountOf c) same r.records.counts;
    }

-- templates that are the same
pub taken_front : {before here : List Message} {s : State} {h : Header} {vs ws : List WithdrawnTemplate} {octets : List ℕ} → vs ≡ ws → TookWithdrawals before here s h vs octets → TookWithdrawals before here s h ws octets
taken_front {before} {here} {s} {h} {vs} {ws} {octets} same f = subst (λ (us : List WithdrawnTemplate). TookWithdrawals before here s h us octets) same f

-- by what a call answers
pub answered : {A E : Type 0} (result : Result A E) (P : A → Type 0) (Q : E → Type 0) (R : A → Type 0) (S : E → Type 0) → IfOk result P → IfErr result Q → ((a : A) → P a → R a) → ((e : E) → Q e → S e) → MatchResult result R S
answered (Ok a) P Q R S ok err f g = f a ok
answered (Err e) P Q R S ok err f g = g e err

-- why a message couldn't be read, after these messages
pub fails_after : {A : Type 0} (s : State) (m : List ℕ) (result : Result A MessageFault) (before here : List Message) → Keeps s before here → IfErr result (λ fault. ForKeeps s (FailsOn fault m None))
    → IfErr result (λ fault. Fails fault (message_gives (domains_after before here) m))
fails_after s m (Ok x) before here keeps fails = tt
fails_after s m (Err e) before here keeps fails = fails before here keeps
