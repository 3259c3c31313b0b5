-- Calls that go on as parts of a run do, one after another.
use Rattle.std.proofs.Common.{◌≡◌, ℕ, zero, suc, ◌<◌, Bool, true, false, Option, Some, Result, Ok, Err, List, [], ◌∷◌, ◌++◌, length, slice_get, refl, sym, ap, subst, ◌∙◌, append_assoc, arith, length-append}
use Rattle.std.specs.Prelude.{MatchResult}
use Rattle.std.proofs.lemmas.List.{append-nil, map-append}
use Rattle.ipfix_message.specs.declared.fault.MessageFault.TheVariants.{TooManyFields}
use Rattle.ipfix_session.specs.Given.{IsPrefix}
use Rattle.recording_files.specs.declared.record_fault.RecordFault.{RecordFault}
use Rattle.recording_files.specs.Files.{FilesView}
use Rattle.recording_order.specs.Arrivals.{Arrival}
use Rattle.recording_order.specs.Windows.{WindowView}
use Rattle.recording_order.specs.Releases.{Run, Says}
use Rattle.recording_peer.specs.Peers.{Taken}
use Rattle.recording_peer.specs.Recording.{FiledDatagrams, barred_shown, file_finished}
use Rattle.recording_peers.specs.declared.peer_state.PeerState.{PeerState}
use Rattle.recording_peers.specs.declared.refusals.Refusals.{Refusals}
use Rattle.recording_peers.specs.Happenings.{datagrams_of}
use Rattle.recording_peers.specs.Kept.{Said, WasRecorded, WasRefused, WasOverBudget, WasIgnored, SaidSo, IsSettled, ignored_after, Recording, HasFailed, says_of, counts_said}
use Rattle.recording_peers.specs.Calls.{Part, Follows, RunsTo, IsRunning, refused_after, one_more_refused, recorded_then, filed_more, filed_then}
use Rattle.recording_peers.proofs.Growing.{Grows, prefix-both, prefix-same}

-- ---- what was said

get-front : {X : Type 0} (xs ys : List X) (n : ℕ) → n < length xs → slice_get (xs ++ ys) n ≡ slice_get xs n
get-front [] ys n below = absurd (omega (arith, below))
get-front (x ∷ xs) ys zero below = refl
get-front (x ∷ xs) ys (suc n) below = get-front xs ys n (omega (arith, below))

pub said-before : (said more : List Said) (says : Says) → SaidSo (said ++ more) says → SaidSo said says
said-before said more says so = λ n from below. sym (ap counts_said (get-front said more n below)) ∙ so n from (omega (arith, below, length-append said more))

pub said-itself : (said : List Said) → SaidSo said (says_of said)
said-itself said = λ n from below. refl

pub refused-append : (said more : List Said) (r : Option Refusals) → refused_after (said ++ more) r ≡ refused_after more (refused_after said r)
refused-append [] more r = refl
refused-append (WasRecorded c ∷ said) more r = refused-append said more r
refused-append (WasRefused fault ∷ said) more r = refused-append said more (Some (one_more_refused r fault))
refused-append (WasOverBudget ∷ said) more r = refused-append said more (Some (one_more_refused r TooManyFields))
refused-append (WasIgnored m ∷ said) more r = refused-append said more r

pub ignored-append : (ms : List (List ℕ)) (said more : List Said) → ignored_after ms (said ++ more) ≡ ignored_after (ignored_after ms said) more
ignored-append ms [] more = refl
ignored-append ms (WasRecorded c ∷ said) more = ignored-append ms said more
ignored-append ms (WasRefused fault ∷ said) more = ignored-append ms said more
ignored-append ms (WasOverBudget ∷ said) more = ignored-append ms said more
ignored-append ms (WasIgnored m ∷ said) more = ignored-append (ms ++ m ∷ []) said more

-- ---- what is recorded then

pub recorded-none : (p : Recording) → recorded_then false p [] [] ≡ p
recorded-none p = λ i. record { limits = p.limits; first = p.first; filed = record p.filed { here = append-nil p.filed.here i }; said = append-nil p.said i }

filed-more : (filed : FiledDatagrams) (more then : List Taken) (said saying : List Said) → filed_more (filed_more filed more said) then saying ≡ filed_more filed (more ++ then) (said ++ saying)
filed-more filed more then said saying =
    λ i. record filed { here = append_assoc filed.here more then i; ignored_here = sym (ignored-append filed.ignored_here said saying) i }

filed-both : (finishes : Bool) (filed : FiledDatagrams) (more then : List Taken) (said saying : List Said)
    → filed_then finishes (filed_then false filed more said) then saying ≡ filed_then finishes filed (more ++ then) (said ++ saying)
filed-both false filed more then said saying = filed-more filed more then said saying
filed-both true filed more then said saying = ap file_finished (filed-more filed more then said saying)

pub recorded-both : (finishes : Bool) (p : Recording) (more then : List Taken) (said saying : List Said)
    → recorded_then finishes (recorded_then false p more said) then saying ≡ recorded_then finishes p (more ++ then) (said ++ saying)
recorded-both finishes p more then said saying = λ i. record { limits = p.limits; first = p.first; filed = filed-both finishes p.filed more then said saying i; said = append_assoc p.said said saying i }

pub datagrams-longer : (xs ys : List Arrival) → IsPrefix xs ys → IsPrefix (datagrams_of xs) (datagrams_of ys)
datagrams-longer xs ys p = (datagrams_of p.0, ap datagrams_of p.1 ∙ map-append (λ (a : Arrival). a.octets) xs p.0)

module _ {F : Type 0} (seen : F → FilesView) where
  -- ---- what a call is worth

  -- by its answer
  abbrev pub Leads : Bool → PeerState F → Result (Unit {0}) RecordFault → Recording → List Taken → List Said → Part → Run → Type 0
  Leads finishes new (Ok x) p more said part r = RunsTo seen new (recorded_then finishes p more said) part r
  Leads finishes new (Err fault) p more said part r = HasFailed seen new fault (recorded_then false p more said) (λ says. (part says r).handed_on)

  -- nothing happens
  pub follows-none : (k : PeerState F) → Follows seen (λ says r. r) false k k (Ok tt)
  follows-none k = record {
    said = [];
    refused = refl;
    heard = refl;
    resumptions_told = refl;
    follows = λ p r is. ([], record { run = r; is = subst (λ q. IsRunning seen k q r) (sym (recorded-none p)) is; by = λ says so. refl });
  }

  -- another part of a run, which comes to the same
  runs-as : (f g : Part) (k : PeerState F) (p : Recording) (r s : Run) → ((says : Says) → f says r ≡ g says s) → RunsTo seen k p g s → RunsTo seen k p f r
  runs-as f g k p r s same to = record { run = to.run; is = to.is; by = λ says so. same says ∙ to.by says so }

  pub fails-as : (k : PeerState F) (fault : RecordFault) (p : Recording) (f g : Says → List Arrival)
      → ((says : Says) → SaidSo p.said says → IsPrefix (datagrams_of (g says)) (datagrams_of (f says))) → HasFailed seen k fault p g → HasFailed seen k fault p f
  fails-as k fault p f g longer failed = record {
    empty = failed.empty;
    ended = failed.ended;
    before = failed.before;
    next = failed.next;
    stopped = failed.stopped;
    barred = failed.barred;
    settles = failed.settles;
    are_first = λ says so. prefix-both _ (datagrams_of (g says)) (datagrams_of (f says)) (failed.are_first says so) (longer says so);
  }

  -- ---- one call after another

  module _ (finishes : Bool) (new : PeerState F) (p : Recording) (more : List Taken) (said : List Said) (part : Part) (r : Run) where
    pub to-leads : (answer : Result (Unit {0}) RecordFault)
        → MatchResult answer (λ x. RunsTo seen new (recorded_then finishes p more said) part r) (λ fault. HasFailed seen new fault (recorded_then false p more said) (λ says. (part says r).handed_on))
        → Leads finishes new answer p more said part r
    to-leads (Ok x) m = m
    to-leads (Err fault) m = m

    pub from-leads : (answer : Result (Unit {0}) RecordFault) → Leads finishes new answer p more said part r
        → MatchResult answer (λ x. RunsTo seen new (recorded_then finishes p more said) part r) (λ fault. HasFailed seen new fault (recorded_then false p more said) (λ says. (part says r).handed_on))
    from-leads (Ok x) m = m
    from-leads (Err fault) m = m

  -- of a call, whichever its answer
  pub record Lead (part : Part) (finishes : Bool) (new : PeerState F) (answer : Result (Unit {0}) RecordFault) (said : List Said) (p : Recording) (r : Run) : Type 0 where
    pub more : List Taken
    pub leads : Leads finishes new answer p more said part r

  pub lead-of : (part : Part) (finishes : Bool) (old new : PeerState F) (answer : Result (Unit {0}) RecordFault) (a : Follows seen part finishes old new answer) (p : Recording) (r : Run) → IsRunning seen old p r → Lead part finishes new answer a.said p r
  lead-of part finishes old new answer a p r is = let m = a.follows p r is in record { more = m.0; leads = to-leads finishes new p m.0 a.said part r answer m.1 }

  pub follows-of : (part : Part) (finishes : Bool) (old new : PeerState F) (answer : Result (Unit {0}) RecordFault) (said : List Said) → new.refused ≡ refused_after said old.refused → new.heard ≡ old.heard → new.resumptions_told ≡ old.resumptions_told
      → ((p : Recording) (r : Run) → IsRunning seen old p r → Lead part finishes new answer said p r) → Follows seen part finishes old new answer
  follows-of part finishes old new answer said refused heard resumed lead = record {
    said = said;
    refused = refused;
    heard = heard;
    resumptions_told = resumed;
    follows = λ p r is. let m = lead p r is in (m.more, from-leads finishes new p m.more said part r answer m.leads);
  }

  lead-both : (f g : Part) (finishes : Bool) (mid new : PeerState F) (answer : Result (Unit {0}) RecordFault) (p : Recording) (r : Run) (more then : List Taken) (said saying : List Said)
      (to : RunsTo seen mid (recorded_then false p more said) f r) → Leads finishes new answer (recorded_then false p more said) then saying g to.run
      → Leads finishes new answer p (more ++ then) (said ++ saying) (λ says s. g says (f says s)) r
  lead-both f g finishes mid new (Ok x) p r more then said saying to l =
      let on = subst (λ q. RunsTo seen new q g to.run) (recorded-both finishes p more then said saying) l in
      record {
        run = on.run;
        is = on.is;
        by = λ says so. ap (g says) (to.by says (said-before (p.said ++ said) saying says (subst (λ ss. SaidSo ss says) (sym (append_assoc p.said said saying)) so))) ∙ on.by says so;
      }
  lead-both f g finishes mid new (Err fault) p r more then said saying to l =
      let on = subst (λ q. HasFailed seen new fault q (λ says. (g says to.run).handed_on)) (recorded-both false p more then said saying) l in
      fails-as new fault (recorded_then false p (more ++ then) (said ++ saying)) (λ says. (g says (f says r)).handed_on) (λ says. (g says to.run).handed_on)
      (λ says so. let same = to.by says (said-before (p.said ++ said) saying says (subst (λ ss. SaidSo ss says) (sym (append_assoc p.said said saying)) so)) in
      subst (λ s. IsPrefix (datagrams_of (g says to.run).handed_on) (datagrams_of (g says s).handed_on)) (sym same) (prefix-same (datagrams_of (g says to.run).handed_on)))
      on

  pub follows-both : (f g : Part) (finishes : Bool) (old mid new : PeerState F) (answer : Result (Unit {0}) RecordFault) → Follows seen f false old mid (Ok tt) → Follows seen g finishes mid new answer
      → Follows seen (λ says r. g says (f says r)) finishes old new answer
  follows-both f g finishes old mid new answer a b =
      follows-of (λ says r. g says (f says r)) finishes old new answer (a.said ++ b.said)
      (b.refused ∙ ap (refused_after b.said) a.refused ∙ sym (refused-append a.said b.said old.refused)) (b.heard ∙ a.heard) (b.resumptions_told ∙ a.resumptions_told)
      (λ p r is.
      let first = lead-of f false old mid (Ok tt) a p r is in
      let to : RunsTo seen mid (recorded_then false p first.more a.said) f r = first.leads in
      let on = lead-of g finishes mid new answer b (recorded_then false p first.more a.said) to.run to.is in
      record { more = first.more ++ on.more; leads = lead-both f g finishes mid new answer p r first.more on.more a.said b.said to on.leads })

  -- where a call fails, nothing of what comes after it is done
  pub follows-fault : (f g : Part) (finishes : Bool) (old new : PeerState F) (fault : RecordFault) → ((says : Says) → Grows (g says)) → Follows seen f false old new (Err fault)
      → Follows seen (λ says r. g says (f says r)) finishes old new (Err fault)
  follows-fault f g finishes old new fault grows a =
      follows-of (λ says r. g says (f says r)) finishes old new (Err fault) a.said a.refused a.heard a.resumptions_told
      (λ p r is.
      let first = lead-of f false old new (Err fault) a p r is in
      let failed : HasFailed seen new fault (recorded_then false p first.more a.said) (λ says. (f says r).handed_on) = first.leads in
      record {
        more = first.more;
        leads = fails-as new fault (recorded_then false p first.more a.said) (λ says. (g says (f says r)).handed_on) (λ says. (f says r).handed_on)
            (λ says so. datagrams-longer (f says r).handed_on (g says (f says r)).handed_on (grows says (f says r))) failed;
      })

  -- ---- where only the window has changed

  pub record Shifted (f g : Part) (w : WindowView) (r : Run) : Type 0 where
    pub run : Run
    pub same : run.handed_on ≡ r.handed_on
    pub window : w ≡ run.window
    pub like : (says : Says) → f says r ≡ g says run

  lead-shifted : (f g : Part) (finishes : Bool) (new : PeerState F) (answer : Result (Unit {0}) RecordFault) (said : List Said) (p : Recording) (w : WindowView) (r : Run) (s : Shifted f g w r) (more : List Taken)
      → Leads finishes new answer p more said g s.run → Leads finishes new answer p more said f r
  lead-shifted f g finishes new (Ok x) said p w r s more to = runs-as f g new (recorded_then finishes p more said) r s.run s.like to
  lead-shifted f g finishes new (Err fault) said p w r s more failed =
      fails-as new fault (recorded_then false p more said) (λ says. (f says r).handed_on) (λ says. (g says s.run).handed_on)
      (λ says so. subst (λ t. IsPrefix (datagrams_of (g says s.run).handed_on) (datagrams_of t.handed_on)) (sym (s.like says)) (prefix-same (datagrams_of (g says s.run).handed_on))) failed

  pub follows-shifted : (f g : Part) (finishes : Bool) (old : PeerState F) (w : WindowView) (new : PeerState F) (answer : Result (Unit {0}) RecordFault)
      → ((r : Run) → old.window ≡ r.window → Shifted f g w r) → Follows seen g finishes (record old { window = w }) new answer → Follows seen f finishes old new answer
  follows-shifted f g finishes old w new answer shift a =
      follows-of f finishes old new answer a.said a.refused a.heard a.resumptions_told
      (λ p r is.
      let s = shift r is.window in
      let on = lead-of g finishes (record old { window = w }) new answer a p s.run (record {
        recorded = record { empty = is.recorded.empty; is = is.recorded.is; bounds = is.recorded.bounds; settles = subst (λ xs. IsSettled (datagrams_of xs) p (barred_shown old.recorder.known)) (sym s.same) is.recorded.settles };
        window = s.window;
      }) in
      record { more = on.more; leads = lead-shifted f g finishes new answer a.said p w r s on.more on.leads })
