use Rattle.std.proofs.Common.{◌∙◌, subst, List, ℕ}
use Rattle.std.specs.Prelude.{Option}
use Rattle.std.proofs.Math.Logic.{∥∥₁_elim}
use Rattle.std.proofs.Props.{props}
use Rattle.input_digests.specs.HashedTexts.{HasHashed}
use Rattle.input_digests.proofs.Digested.{counted_of, digested, none_digested}
use Rattle.input_digests.proofs.hashed_source.HashedSource.finish.Goals as goal

pub returns-in-Some-clause-digest : goal.returns-in-Some-clause-digest
returns-in-Some-clause-digest g c = λ limits before same tells text start small.
    let self = c.args.self in
    let now = g.S.Source.seen self.source in
    ∥∥₁_elim self.hashed (Prim.hlevel props) (λ h.
    digested self.digest text c.args.full.now now c.in-Some.sha256
    (counted_of g.S.Source.seen limits before self.source c.args.full.now self.digest self.messages text c.whole_octets_are_messages.ensures small (same ∙ start) tells
    (subst (λ (o : Option (List ℕ)). HasHashed self.digest self.messages o now) start (h c.if-lost.false)))
    c.in-Some.ensures.found)

pub returns-in-None-clause-none : goal.returns-in-None-clause-none
returns-in-None-clause-none g c = λ limits before text same start small tells kept.
    let self = c.args.self in
    let now = g.S.Source.seen self.source in
    ∥∥₁_elim self.hashed (Prim.hlevel props) (λ h.
    none_digested self.digest text c.args.full.now now
    (counted_of g.S.Source.seen limits before self.source c.args.full.now self.digest self.messages text c.whole_octets_are_messages.ensures small (same ∙ start) tells
    (subst (λ (o : Option (List ℕ)). HasHashed self.digest self.messages o now) start (h kept)))
    c.in-None.ensures.none)

pub returns-then-lost-clause-none : goal.returns-then-lost-clause-none
returns-then-lost-clause-none g c = λ limits before text same start small tells kept. let lost = c.if-lost.true in absurd cc
