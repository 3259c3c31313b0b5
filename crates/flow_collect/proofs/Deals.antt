-- One link more is dealt.
use Rattle.std.proofs.Common.{◌≡◌, ℕ, List, [], ◌∷◌, ◌++◌, zero, suc, refl, ap, sym, ◌∙◌, subst, length, length-append, map, arith}
use Rattle.std.specs.Prelude.{Some, slice_get, All}
use Rattle.std.proofs.lemmas.List.{map_push}
use Rattle.std.proofs.lemmas.List.Elements.{All-head, All-tail, All-push, All-nil, All-weaker}
use Rattle.std.specs.declared.alloc.Global.{Global}
use Rattle.std.specs.declared.collections.VecDeque.{VecDeque}
use Rattle.flow_link.specs.Ends.{LinkName}
use Rattle.flow_table.specs.Partials.{StandsFor, plan_of}
use Rattle.flow_table.specs.Plans.{PlanValue}
use Rattle.flow_table.specs.declared.partial.Partial.{Partial}
use Rattle.flow_collect.specs.Dealt.{IsPaired, IsNewShare, IsNewStart, IsDealt, DealsOne, given_to, start_link}
use Rattle.flow_collect.specs.declared.collected.Pool.{Pool}
use Rattle.flow_collect.specs.declared.session_context.InContext.{InContext}
use Rattle.flow_collect.specs.declared.session_thread.Start.{Start}
use Rattle.flow_collect.specs.declared.worker.LinkEnd.{LinkEnd}
use Rattle.flow_collect.specs.declared.worker.WorkerShare.{WorkerShare}

get_more : {A : Type 0} (xs ys : List A) (n : ℕ) (x : A) → slice_get xs n ≡ Some x → slice_get (xs ++ ys) n ≡ Some x
get_more [] ys n x e = cc e
get_more (a ∷ xs) ys zero x e = e
get_more (a ∷ xs) ys (suc n) x e = get_more xs ys n x e

pub at_seam : {A B : Type 0} (f : A → B) (xs : List A) (x : A) (ys : List A) → slice_get (map f (xs ++ x ∷ ys)) (length xs) ≡ Some (f x)
at_seam f [] x ys = refl
at_seam f (a ∷ xs) x ys = at_seam f xs x ys

share_more : (plan : PlanValue) (links more : List LinkName) (share : WorkerShare) → IsNewShare plan links share → IsNewShare plan (links ++ more) share
share_more plan links more share h =
    record {
      plan_is = h.plan_is;
      unused = h.unused;
      paired = All-weaker (IsPaired links) (IsPaired (links ++ more)) (λ link_end p. get_more links more link_end.session link_end.receiver.link p) share.link_ends.items h.paired;
    }

-- a share with one end of a link more
share_on : (plan : PlanValue) (links : List LinkName) (first dealt : WorkerShare) (link_end : LinkEnd) → IsNewShare plan links first → dealt.partial ≡ first.partial → dealt.link_ends.items ≡ first.link_ends.items ++ link_end ∷ []
    → link_end.receiver.received ≡ [] → IsPaired links link_end → IsNewShare plan links dealt
share_on plan links first dealt link_end h partial link_ends new paired =
    let New = λ (link_end : LinkEnd). link_end.receiver.received ≡ [] in
    record {
      plan_is = ap plan_of partial ∙ h.plan_is;
      unused = (
        subst (λ (p : Partial). StandsFor p []) (sym partial) h.unused.0,
        subst (All New) (sym link_ends) (All-push New first.link_ends.items link_end h.unused.1 new),
      );
      paired = subst (All (IsPaired links)) (sym link_ends) (All-push (IsPaired links) first.link_ends.items link_end h.paired paired);
    }

pub deal_on : {S : Type 0} (plan : PlanValue) (pool : Pool) (sources : List (InContext S)) (source : InContext S) (starts : VecDeque (Start S) Global) (shares : VecDeque WorkerShare Global) (starts' : VecDeque (Start S) Global) (shares' : VecDeque WorkerShare Global)
    → IsDealt plan pool sources starts.items shares.items → DealsOne pool.capacity source starts shares starts' shares' → IsDealt plan pool (sources ++ source ∷ []) starts'.items shares'.items
deal_on {S} plan pool sources source starts shares starts' shares' d one =
    let links = map start_link starts.items ++ start_link one.start ∷ [] in
    let links_are : map start_link starts'.items ≡ links = ap (map start_link) one.starts_are ∙ map_push start_link starts.items one.start in
    let P = IsNewShare plan links in
    let all : All P (one.first ∷ one.others) = subst (All P) one.shares_were (All-weaker (IsNewShare plan (map start_link starts.items)) P (λ share h. share_more plan (map start_link starts.items) (start_link one.start ∷ []) share h) shares.items d.new_shares) in
    let seam : slice_get links (length starts.items) ≡ Some (start_link one.start) = sym (ap (λ xs. slice_get xs (length starts.items)) (map_push start_link starts.items one.start)) ∙ at_seam start_link starts.items one.start [] in
    let here : IsPaired links one.link_end = rw one.session_is (seam ∙ ap Some one.link.pair) in
    let dealt : P one.dealt = share_on plan links one.first one.dealt one.link_end (All-head P one.first one.others all) one.partial_is one.link_ends_are one.link.nothing_received here in
    record {
      sources_are = ap (map given_to) one.starts_are ∙ (map_push given_to starts.items one.start ∙ (ap (λ r. r ++ given_to one.start ∷ []) d.sources_are ∙ ap (λ s. sources ++ s ∷ []) one.source_is));
      new_starts = rw one.starts_are (All-push (IsNewStart pool.capacity) starts.items one.start d.new_starts (one.link.nothing_sent, one.link.sender_capacity));
      new_shares = rw (links_are, one.shares_are) (All-push P one.others one.dealt (All-tail P one.first one.others all) dealt);
    }

pub empty_share : (plan : PlanValue) (share : WorkerShare) → plan_of share.partial ≡ plan → StandsFor share.partial [] → share.link_ends.items ≡ [] → IsNewShare plan [] share
empty_share plan share is stands e =
    record {
      plan_is = is;
      unused = (stands, subst (All (λ (link_end : LinkEnd). link_end.receiver.received ≡ [])) (sym e) (All-nil (λ (link_end : LinkEnd). link_end.receiver.received ≡ [])));
      paired = subst (All (IsPaired [])) (sym e) (All-nil (IsPaired []));
    }

pub shares_more : (plan : PlanValue) (shares shares' : List WorkerShare) (share : WorkerShare) → All (IsNewShare plan []) shares → IsNewShare plan [] share → shares' ≡ shares ++ share ∷ [] → All (IsNewShare plan []) shares'
shares_more plan shares shares' share h new e = rw e (All-push (IsNewShare plan []) shares share h new)

pub first_dealt : {S : Type 0} (plan : PlanValue) (pool : Pool) (starts : List (Start S)) (shares : List WorkerShare) → starts ≡ [] → All (IsNewShare plan []) shares → IsDealt plan pool [] starts shares
first_dealt {S} plan pool starts shares e h =
    rw e (record { sources_are = refl; new_starts = All-nil (IsNewStart {S = S} pool.capacity); new_shares = h })

-- there are as many shares as before
pub as_many : {S : Type 0} (capacity : ℕ) (source : InContext S) (starts : VecDeque (Start S) Global) (shares : VecDeque WorkerShare Global) (starts' : VecDeque (Start S) Global) (shares' : VecDeque WorkerShare Global)
    → DealsOne capacity source starts shares starts' shares' → length shares'.items ≡ length shares.items
as_many capacity source starts shares starts' shares' one =
    let more = ap length one.shares_are in
    let were = ap length one.shares_were in
    let both = length-append one.others (one.dealt ∷ []) in
    omega (arith, more, were, both)
