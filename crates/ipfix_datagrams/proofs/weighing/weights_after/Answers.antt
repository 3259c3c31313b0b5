use Rattle.std.proofs.Common.{◌≡◌, ◌+◌, ℕ, Some, cond, eqb, refl, sym, ap, subst, ◌∙◌, inl, inr}
use Rattle.std.specs.Prelude.{sum}
use Rattle.std.specs.BTreeMap.{get, values}
use Rattle.std.specs.Ordering.{nat_cmp}
use Rattle.ipfix_datagrams.specs.Datagrams.{AreWeighed, Weighs, preparation_of}
use Rattle.ipfix_datagrams.proofs.Weighed.{weighed_after}
use Rattle.ipfix_datagrams.proofs.weighing.weights_after.Goals as goal

pub returns-in_default : goal.returns-in_default
returns-in_default c = λ s keeps.
    let counts = c.in_ok-counts.counts in
    let counted = c.in_ok-counts.ensures s keeps in
    inl (record {
      domain = c.args.domain;
      weight = 16 + sum (values counts);
      weighs = record { counts = counts.entries; ascending = c.weigh.ensures.ordered; at = counted; is = refl };
      above = c.in_default.ensures.above;
    })

pub returns-then-are_within : goal.returns-then-are_within
returns-then-are_within c = λ s keeps.
    let counts = c.in_ok-counts.counts in
    let counted = c.in_ok-counts.ensures s keeps in
    let n = c.in-Some.weight in
    let weighs : Weighs n s.given.domains c.args.domain = record { counts = counts.entries; ascending = c.weigh.ensures.ordered; at = counted; is = c.in-Some.ensures.weight } in
    let ws = c.in_ok-weights.weights in
    let at : (q : ℕ) → get nat_cmp ws q ≡ cond (eqb q s.given.header.domain) (Some n) (get nat_cmp c.args.known.now.weights q) = λ q. c.in_ok-weights.ensures q ∙ ap (λ (d : ℕ). cond (eqb q d) (Some n) (get nat_cmp c.args.known.now.weights q)) (sym s.of_domain) in
    let weighed : AreWeighed ws.entries s.given.domains = weighed_after s.basis s.history s.datagram (preparation_of c.args.reading.now) s.given c.args.known.now.weights ws n s.reading.taken keeps.fits.weighed c.are_within.ensures.ordered at (subst (λ (d : ℕ). Weighs n s.given.domains d) (sym s.of_domain) weighs) in
    record { weighed = weighed; within = c.if-are_within.ensures.within }

pub returns : goal.returns
returns c = λ s keeps.
    let counts = c.in_ok-counts.counts in
    let counted = c.in_ok-counts.ensures s keeps in
    let n = c.in-Some.weight in
    let weighs : Weighs n s.given.domains c.args.domain = record { counts = counts.entries; ascending = c.weigh.ensures.ordered; at = counted; is = c.in-Some.ensures.weight } in
    let ws = c.in_ok-weights.weights in
    let at : (q : ℕ) → get nat_cmp ws q ≡ cond (eqb q s.given.header.domain) (Some n) (get nat_cmp c.args.known.now.weights q) = λ q. c.in_ok-weights.ensures q ∙ ap (λ (d : ℕ). cond (eqb q d) (Some n) (get nat_cmp c.args.known.now.weights q)) (sym s.of_domain) in
    let weighed : AreWeighed ws.entries s.given.domains = weighed_after s.basis s.history s.datagram (preparation_of c.args.reading.now) s.given c.args.known.now.weights ws n s.reading.taken keeps.fits.weighed c.are_within.ensures.ordered at (subst (λ (d : ℕ). Weighs n s.given.domains d) (sym s.of_domain) weighs) in
    inr (record { weights = ws.entries; weighed = weighed; above = c.if-are_within.ensures.within })
