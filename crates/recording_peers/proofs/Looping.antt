-- Loops that hand on one datagram after another, as a run does.
use Rattle.std.proofs.Common.{◌≡◌, ℕ, suc, ◌+◌, ◌<◌, ◌-◌, false, Option, Some, None, Result, Ok, Err, [], ◌∷◌, ◌++◌, refl, sym, ap, ◌∙◌, arith}
use Rattle.recording_files.specs.declared.record_fault.RecordFault.{RecordFault}
use Rattle.recording_files.specs.Files.{FilesView}
use Rattle.recording_order.specs.Arrivals.{Arrival}
use Rattle.recording_order.specs.Windows.{WindowView, Leaves, offered, late_domain}
use Rattle.recording_order.specs.Releases.{Run, Says, go_on, begin_anew, take_offered, take_with, settle, settle_late, tick_with}
use Rattle.recording_order.specs.declared.offer.Offer.{Offer}
use Rattle.recording_order.specs.declared.offer.Offer.TheVariants.{Write, Waits, Doubled, First, Anew}
use Rattle.recording_peers.specs.declared.peer_state.PeerState.{PeerState}
use Rattle.recording_peers.specs.Calls.{Part, Follows, handed_on}
use Rattle.recording_peers.proofs.Growing.{Grows, grows-take_with, grows-tick_with}
use Rattle.recording_peers.proofs.Following.{Shifted, follows-none, follows-both, follows-fault, follows-shifted}

-- ---- what a call says that lets one leave

pub leaves-some : (o : Option (Arrival × WindowView)) (before : WindowView) (a : Arrival) (after : WindowView) → Leaves o before (Some a) after → o ≡ Some (a, after)
leaves-some None before a after h = let none = h.0 in absurd cc
leaves-some (Some x) before a after h = let same : a ≡ x.0 = cc (h.0) in λ i. Some (sym same i, sym h.1 i)

pub leaves-none : (o : Option (Arrival × WindowView)) (before after : WindowView) → Leaves o before None after → o ≡ None
leaves-none None before after h = refl
leaves-none (Some x) before after h = let some = h.0 in absurd cc

pub leaves-same : (o : Option (Arrival × WindowView)) (before after : WindowView) → Leaves o before None after → after ≡ before
leaves-same None before after h = h.1
leaves-same (Some x) before after h = let some = h.0 in absurd cc

module _ {F : Type 0} (seen : F → FilesView) where
  -- with so many rounds left, what is still to be done makes the whole
  pub record Loops (rounds : ℕ → Part) (whole : Part) (old now : PeerState F) (round end : ℕ) : Type 0 where
    pub rest : (left : ℕ) → left + round ≡ end → (new : PeerState F) (answer : Result (Unit {0}) RecordFault) → Follows seen (rounds left) false now new answer → Follows seen whole false old new answer

  -- at first
  pub loops-begin : (rounds : ℕ → Part) (whole : Part) (count : WindowView → ℕ) (old : PeerState F) (end : ℕ) → ((says : Says) (r : Run) → whole says r ≡ rounds (count r.window) says r) → end ≡ count old.window
      → Loops rounds whole old old 0 end
  loops-begin rounds whole count old end same is = record {
    rest = λ left all new answer f. follows-shifted seen whole (rounds left) false old old.window new answer
        (λ r window. record {
          run = r;
          same = refl;
          window = window;
          like = λ says. same says r ∙ ap (λ n. rounds n says r) (ap count (sym window) ∙ omega (arith, sym is, all));
        })
        f;
  }

  -- after a round that did this
  pub loops-on : (rounds : ℕ → Part) (whole : Part) (old now next : PeerState F) (round end : ℕ) → round < end
      → ((left : ℕ) (new : PeerState F) (answer : Result (Unit {0}) RecordFault) → Follows seen (rounds left) false next new answer → Follows seen (rounds (suc left)) false now new answer)
      → Loops rounds whole old now round end → Loops rounds whole old next (round + 1) end
  loops-on rounds whole old now next round end below step l = record {
    rest = λ left all new answer f. l.rest (suc left) (omega (arith, all)) new answer (step left new answer f);
  }

  -- as it ends in a round
  pub loops-end : (rounds : ℕ → Part) (whole : Part) (old now new : PeerState F) (answer : Result (Unit {0}) RecordFault) (round end : ℕ) → round < end
      → ((left : ℕ) → Follows seen (rounds (suc left)) false now new answer) → Loops rounds whole old now round end → Follows seen whole false old new answer
  loops-end rounds whole old now new answer round end below f l =
      let left = end - (round + 1) in
      l.rest (suc left) (omega (arith, below)) new answer (f left)

  -- and after all rounds
  pub loops-done : (rounds : ℕ → Part) (whole : Part) (old now new : PeerState F) (answer : Result (Unit {0}) RecordFault) (end : ℕ)
      → Follows seen (rounds 0) false now new answer → Loops rounds whole old now end end → Follows seen whole false old new answer
  loops-done rounds whole old now new answer end f l = l.rest 0 (omega arith) new answer f

  -- ---- where one leaves

  module _ (out : WindowView → Option (Arrival × WindowView)) (rounds : ℕ → Part) (steps : (left : ℕ) (says : Says) (r : Run) → rounds (suc left) says r ≡ go_on (rounds left says) says r (out r.window)) (now : PeerState F) (a : Arrival) (w : WindowView) where
    out-shifted : out now.window ≡ Some (a, w) → (left : ℕ) (r : Run) → now.window ≡ r.window → Shifted seen (rounds (suc left)) (λ says s. rounds left says (handed_on a says s)) w r
    out-shifted is left r window = record {
      run = record r { window = w };
      same = refl;
      window = refl;
      like = λ says. steps left says r ∙ ap (go_on (rounds left says) says r) (ap out (sym window) ∙ is);
    }

    pub out-on : out now.window ≡ Some (a, w) → (next : PeerState F) → Follows seen (handed_on a) false (record now { window = w }) next (Ok tt)
        → (left : ℕ) (new : PeerState F) (answer : Result (Unit {0}) RecordFault) → Follows seen (rounds left) false next new answer → Follows seen (rounds (suc left)) false now new answer
    out-on is next hand left new answer f =
        follows-shifted seen (rounds (suc left)) (λ says s. rounds left says (handed_on a says s)) false now w new answer (out-shifted is left)
        (follows-both seen (handed_on a) (rounds left) false (record now { window = w }) next new answer hand f)

    pub out-fault : ((left : ℕ) (says : Says) → Grows (rounds left says)) → out now.window ≡ Some (a, w) → (new : PeerState F) (fault : RecordFault) → Follows seen (handed_on a) false (record now { window = w }) new (Err fault)
        → (left : ℕ) → Follows seen (rounds (suc left)) false now new (Err fault)
    out-fault grows is new fault hand left =
        follows-shifted seen (rounds (suc left)) (λ says s. rounds left says (handed_on a says s)) false now w new (Err fault) (out-shifted is left)
        (follows-fault seen (handed_on a) (rounds left) false (record now { window = w }) new fault (grows left) hand)

  -- or none does
  pub out-none : (out : WindowView → Option (Arrival × WindowView)) (rounds : ℕ → Part) (steps : (left : ℕ) (says : Says) (r : Run) → rounds (suc left) says r ≡ go_on (rounds left says) says r (out r.window)) (now : PeerState F)
      → out now.window ≡ None → (left : ℕ) → Follows seen (rounds (suc left)) false now now (Ok tt)
  out-none out rounds steps now none left = follows-shifted seen (rounds (suc left)) (λ says r. r) false now now.window now (Ok tt)
      (λ r window. record {
        run = r;
        same = refl;
        window = window;
        like = λ says. steps left says r ∙ ap (go_on (rounds left says) says r) (ap out (sym window) ∙ none);
      })
      (follows-none seen now)

  -- ---- a tick, one domain after another

  module _ (second : ℕ) (now : PeerState F) where
    abbrev pub ticks : ℕ → Part
    ticks left says r = tick_with says second left r

    late-shifted : (domain : ℕ) → late_domain now.window second ≡ Some domain → (left : ℕ) (r : Run) → now.window ≡ r.window → Shifted seen (ticks (suc left)) (λ says s. ticks left says (settle says domain second s)) now.window r
    late-shifted domain is left r window = record {
      run = r;
      same = refl;
      window = window;
      like = λ says. ap (settle_late (tick_with says second left) says second r) (ap (λ w. late_domain w second) (sym window) ∙ is);
    }

    pub late-on : (domain : ℕ) → late_domain now.window second ≡ Some domain → (next : PeerState F) → Follows seen (λ says s. settle says domain second s) false now next (Ok tt)
        → (left : ℕ) (new : PeerState F) (answer : Result (Unit {0}) RecordFault) → Follows seen (ticks left) false next new answer → Follows seen (ticks (suc left)) false now new answer
    late-on domain is next settled left new answer f =
        follows-shifted seen (ticks (suc left)) (λ says s. ticks left says (settle says domain second s)) false now now.window new answer (late-shifted domain is left)
        (follows-both seen (λ says s. settle says domain second s) (ticks left) false now next new answer settled f)

    pub late-fault : (domain : ℕ) → late_domain now.window second ≡ Some domain → (new : PeerState F) (fault : RecordFault) → Follows seen (λ says s. settle says domain second s) false now new (Err fault)
        → (left : ℕ) → Follows seen (ticks (suc left)) false now new (Err fault)
    late-fault domain is new fault settled left =
        follows-shifted seen (ticks (suc left)) (λ says s. ticks left says (settle says domain second s)) false now now.window new (Err fault) (late-shifted domain is left)
        (follows-fault seen (λ says s. settle says domain second s) (ticks left) false now new fault (λ says. grows-tick_with says second left) settled)

    pub late-none : late_domain now.window second ≡ None → (left : ℕ) → Follows seen (ticks (suc left)) false now now (Ok tt)
    late-none none left = follows-shifted seen (ticks (suc left)) (λ says r. r) false now now.window now (Ok tt)
        (λ r window. record {
          run = r;
          same = refl;
          window = window;
          like = λ says. ap (settle_late (tick_with says second left) says second r) (ap (λ w. late_domain w second) (sym window) ∙ none);
        })
        (follows-none seen now)

  -- ---- a datagram that is offered

  module _ (a : Arrival) (now : PeerState F) (w : WindowView) where
    abbrev pub offers : ℕ → Part
    offers left says r = take_with says a left r

    -- by what is to be done with it
    offer-shifted : (o : Offer) → offered now.window a ≡ (o, w) → (left : ℕ) (part : Part) (r s : Run) → s.handed_on ≡ r.handed_on → w ≡ s.window → now.window ≡ r.window
        → ((says : Says) → take_offered says a (take_with says a left) r (o, w) ≡ part says s) → Shifted seen (offers (suc left)) part w r
    offer-shifted o is left part r s same window at like = record {
      run = s;
      same = same;
      window = window;
      like = λ says. ap (take_offered says a (take_with says a left) r) (ap (λ v. offered v a) (sym at) ∙ is) ∙ like says;
    }

    pub offer-write : offered now.window a ≡ (Write, w) → (new : PeerState F) (answer : Result (Unit {0}) RecordFault) → Follows seen (handed_on a) false (record now { window = w }) new answer
        → (left : ℕ) → Follows seen (offers (suc left)) false now new answer
    offer-write is new answer hand left = follows-shifted seen (offers (suc left)) (handed_on a) false now w new answer
        (λ r at. offer-shifted Write is left (handed_on a) r (record r { window = w }) refl refl at (λ says. refl)) hand

    pub offer-waits : offered now.window a ≡ (Waits, w) → (left : ℕ) → Follows seen (offers (suc left)) false now (record now { window = w }) (Ok tt)
    offer-waits is left = follows-shifted seen (offers (suc left)) (λ says r. r) false now w (record now { window = w }) (Ok tt)
        (λ r at. offer-shifted Waits is left (λ says s. s) r (record r { window = w }) refl refl at (λ says. refl)) (follows-none seen (record now { window = w }))

    pub offer-doubled : offered now.window a ≡ (Doubled, w) → (left : ℕ) → Follows seen (offers (suc left)) false now (record now { window = w }) (Ok tt)
    offer-doubled is left = follows-shifted seen (offers (suc left)) (λ says r. r) false now w (record now { window = w }) (Ok tt)
        (λ r at. offer-shifted Doubled is left (λ says s. s) r (record r { window = w; doubled = r.doubled ++ a ∷ [] }) refl refl at (λ says. refl)) (follows-none seen (record now { window = w }))

    pub offer-anew : offered now.window a ≡ (Anew, w) → (new : PeerState F) (answer : Result (Unit {0}) RecordFault) → Follows seen (λ says r. begin_anew says a r) false (record now { window = w }) new answer
        → (left : ℕ) → Follows seen (offers (suc left)) false now new answer
    offer-anew is new answer anew left = follows-shifted seen (offers (suc left)) (λ says r. begin_anew says a r) false now w new answer
        (λ r at. offer-shifted Anew is left (λ says s. begin_anew says a s) r (record r { window = w }) refl refl at (λ says. refl)) anew

    module _ (b : Arrival) (is : offered now.window a ≡ (First b, w)) where
      first-shifted : (left : ℕ) (r : Run) → now.window ≡ r.window → Shifted seen (offers (suc left)) (λ says s. offers left says (handed_on b says s)) w r
      first-shifted left r at = offer-shifted (First b) is left (λ says s. offers left says (handed_on b says s)) r (record r { window = w }) refl refl at (λ says. refl)

      pub first-on : (next : PeerState F) → Follows seen (handed_on b) false (record now { window = w }) next (Ok tt)
          → (left : ℕ) (new : PeerState F) (answer : Result (Unit {0}) RecordFault) → Follows seen (offers left) false next new answer → Follows seen (offers (suc left)) false now new answer
      first-on next hand left new answer f = follows-shifted seen (offers (suc left)) (λ says s. offers left says (handed_on b says s)) false now w new answer (first-shifted left)
          (follows-both seen (handed_on b) (offers left) false (record now { window = w }) next new answer hand f)

      pub first-fault : (new : PeerState F) (fault : RecordFault) → Follows seen (handed_on b) false (record now { window = w }) new (Err fault) → (left : ℕ) → Follows seen (offers (suc left)) false now new (Err fault)
      first-fault new fault hand left = follows-shifted seen (offers (suc left)) (λ says s. offers left says (handed_on b says s)) false now w new (Err fault) (first-shifted left)
          (follows-fault seen (handed_on b) (offers left) false (record now { window = w }) new fault (λ says. grows-take_with says a left) hand)
