use Rattle.std.proofs.Common.{◌≡◌, List, [], ◌∷◌, ℕ, Some, sym, subst, rules}
use Rattle.std.specs.Prelude.{nat_eq}
use Rattle.indexmap.specs.IndexMap.{get as index_get, keys}
use Rattle.recording_resumption.proofs.LeftDomains.{LeavesBut, all_to_come, each_left, none_left, one_more_each, same_left}
use Rattle.recording_resumption.proofs.leaving.domains_left.Goals as goal

pub loop-domain-init : goal.loop-domain-init
loop-domain-init c =
    let last = c.args.session.now.last in
    let all : c.into_iter-domain-iterator.result ≡ keys last = search rules in
    record {
      only = none_left (index_get nat_eq last) c.in-Some.domains c.new-left.result c.new-left.ensures.empty;
      each = subst (λ (ks : List ℕ). LeavesBut (index_get nat_eq last) ks c.new-left.result) (sym all) (all_to_come last c.new-left.result);
    }

pub loop-domain-preserved : goal.loop-domain-preserved
loop-domain-preserved c =
    let k = c.in-Some-domain.domain.now in
    let first : c.loop-domain.domain-iterator ≡ k ∷ c.next.new.self = search rules in
    record {
      only = c.in_ok-put_domain.ensures.only c.loop-domain.invariant.only;
      each = one_more_each (index_get nat_eq c.args.session.now.last) k c.next.new.self c.loop-domain.left c.put_domain.new.left
          (subst (λ (ks : List ℕ). LeavesBut (index_get nat_eq c.args.session.now.last) ks c.loop-domain.left) first c.loop-domain.invariant.each)
          c.in_ok-put_domain.ensures.put c.in_ok-put_domain.ensures.others;
    }

pub returns-clause-only : goal.returns-clause-only
returns-clause-only c = λ d is.
    let found : c.args.session.now.full.domains ≡ Some c.in-Some.domains = search rules in
    same_left (index_get nat_eq c.args.session.now.last) c.in-Some.domains d c.loop-domain.left found is c.loop-domain.invariant.only

pub returns-clause-each : goal.returns-clause-each
returns-clause-each c = λ d is.
    let none : c.loop-domain.domain-iterator ≡ [] = search rules in
    each_left (index_get nat_eq c.args.session.now.last) c.loop-domain.domain-iterator c.loop-domain.left none c.loop-domain.invariant.each
