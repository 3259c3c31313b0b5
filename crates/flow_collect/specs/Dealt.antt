-- What the threads are given.
use Rattle.std.specs.Prelude.{◌≡◌, ℕ, ◌<◌, ◌≤◌, List, [], ◌∷◌, ◌++◌, length, map, All, Some, slice_get}
use Rattle.std.specs.declared.alloc.Global.{Global}
use Rattle.std.specs.declared.collections.VecDeque.{VecDeque}
use Rattle.flow_link.specs.Ends.{LinkName, IsNewLink}
use Rattle.flow_link.specs.declared.making.TheConstants.{MAX_CAPACITY}
use Rattle.flow_table.specs.Partials.{plan_of}
use Rattle.flow_table.specs.Plans.{PlanValue}
use Rattle.flow_collect.specs.LinkEnds.{IsUnused}
use Rattle.flow_collect.specs.declared.collected.Pool.{Pool}
use Rattle.flow_collect.specs.declared.session_context.InContext.{InContext}
use Rattle.flow_collect.specs.declared.session_thread.Start.{Start}
use Rattle.flow_collect.specs.declared.worker.LinkEnd.{LinkEnd}
use Rattle.flow_collect.specs.declared.worker.WorkerShare.{WorkerShare}

-- what a link may hold
abbrev pub IsCapacity : ℕ → Type 0
IsCapacity n = (0 < n) × (n ≤ MAX_CAPACITY)

-- an end's link is that of its session
abbrev pub IsPaired : List LinkName → LinkEnd → Type 0
IsPaired links link_end = slice_get links link_end.session ≡ Some link_end.receiver.link

-- a share of the plan, unused, each end of a link with the link of its session
pub record IsNewShare (plan : PlanValue) (links : List LinkName) (share : WorkerShare) : Type 0 where
  pub plan_is : plan_of share.partial ≡ plan
  pub unused : IsUnused share
  pub paired : All (IsPaired links) share.link_ends.items

module _ {S : Type 0} where
  -- the source, what its session knows, and which of its records count
  abbrev pub given_to : Start S → InContext S
  given_to start = record { source = start.source; context = start.context; filter = start.filter }

  abbrev pub start_link : Start S → LinkName
  start_link start = start.sender.link

  -- nothing was sent yet over a link of this capacity
  abbrev pub IsNewStart : ℕ → Start S → Type 0
  IsNewStart capacity start = (start.sender.sent ≡ []) × (start.sender.capacity ≡ capacity)

  -- each source has a new link, whose other end is in a share
  pub record IsDealt (plan : PlanValue) (pool : Pool) (sources : List (InContext S)) (starts : List (Start S)) (shares : List WorkerShare) : Type 0 where
    pub sources_are : map given_to starts ≡ sources
    pub new_starts : All (IsNewStart pool.capacity) starts
    pub new_shares : All (IsNewShare plan (map start_link starts)) shares

  -- a new link: its sender goes to the source, and its receiver to the first share, which goes to the end
  pub record DealsOne (capacity : ℕ) (source : InContext S) (starts : VecDeque (Start S) Global) (shares : VecDeque WorkerShare Global) (starts' : VecDeque (Start S) Global) (shares' : VecDeque WorkerShare Global) : Type 0 where
    pub start : Start S
    pub link_end : LinkEnd
    pub first : WorkerShare
    pub dealt : WorkerShare
    pub others : List WorkerShare
    pub source_is : given_to start ≡ source
    pub number_is : start.session ≡ length starts.items
    pub link : IsNewLink capacity start.sender link_end.receiver
    pub session_is : link_end.session ≡ length starts.items
    pub starts_are : starts'.items ≡ starts.items ++ start ∷ []
    pub shares_were : shares.items ≡ first ∷ others
    pub shares_are : shares'.items ≡ others ++ dealt ∷ []
    pub link_ends_are : dealt.link_ends.items ≡ first.link_ends.items ++ link_end ∷ []
    pub partial_is : dealt.partial ≡ first.partial
    pub worker_is : dealt.worker ≡ first.worker
