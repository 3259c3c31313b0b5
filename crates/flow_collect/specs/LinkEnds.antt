-- What a worker's thread does.
use Rattle.std.specs.Prelude.{◌≡◌, ℕ, ◌+◌, List, [], ◌++◌, All, true, map, sum_by}
use Rattle.std.specs.List.Sorted.{IsNonDecreasingBy}
use Rattle.ipfix_message.specs.declared.record.DataRecord.{DataRecord}
use Rattle.flow_link.specs.Ends.{LinkName, ReceiverView}
use Rattle.flow_link.specs.Parcels.{has_last, records_in}
use Rattle.flow_table.specs.Partials.{StandsFor, plan_of}
use Rattle.flow_table.specs.declared.partial.Partial.{Partial}
use Rattle.flow_collect.specs.Adds.{AddsAll}
use Rattle.flow_collect.specs.Promises.{WorkerTook}
use Rattle.flow_collect.specs.declared.worker.LinkEnd.{LinkEnd}
use Rattle.flow_collect.specs.declared.worker.WorkerShare.{WorkerShare}

-- a worker's ends of links
abbrev pub link_ends_in : WorkerShare → List LinkEnd
link_ends_in share = share.link_ends.items

-- which end of a link it is: its session, and its link
abbrev pub link_end_key : LinkEnd → ℕ × LinkName
link_end_key link_end = (link_end.session, link_end.receiver.link)

abbrev pub receivers_of : List LinkEnd → List ReceiverView
receivers_of link_ends = map (λ (link_end : LinkEnd). link_end.receiver) link_ends

-- the records that came over the end
abbrev pub link_end_records : LinkEnd → List DataRecord
link_end_records link_end = records_in link_end.receiver.received

abbrev pub link_end_weight : (DataRecord → ℕ) → LinkEnd → ℕ
link_end_weight weight link_end = sum_by weight (link_end_records link_end)

-- the ends of links stand in the order of their sessions
abbrev pub AreInOrder : List LinkEnd → Type 0
AreInOrder link_ends = IsNonDecreasingBy (λ (link_end : LinkEnd). link_end.session) link_ends

-- Last came over the end
abbrev pub IsEnded : LinkEnd → Type 0
IsEnded link_end = has_last link_end.receiver.received ≡ true

-- ---- a worker's rounds

-- what came over the end was added
pub record TakesInto (link_end : LinkEnd) (p : Partial) (link_end' : LinkEnd) (p' : Partial) : Type 0 where
  pub taken : List DataRecord
  pub key : link_end_key link_end' ≡ link_end_key link_end
  pub records_is : link_end_records link_end' ≡ link_end_records link_end ++ taken
  pub adds : AddsAll p taken p'

-- what came over the ends of links was added
pub record RoundsInto (link_ends : List LinkEnd) (p : Partial) (link_ends' : List LinkEnd) (p' : Partial) : Type 0 where
  pub taken : List DataRecord
  pub keys : map link_end_key link_ends' ≡ map link_end_key link_ends
  pub weighs : (weight : DataRecord → ℕ) → sum_by (link_end_weight weight) link_ends' ≡ sum_by (link_end_weight weight) link_ends + sum_by weight taken
  pub adds : AddsAll p taken p'

-- the partial table stands for a list of just the records that came over the ends of links
pub record StandsForLinkEnds (p : Partial) (link_ends : List LinkEnd) : Type 0 where
  pub records : List DataRecord
  pub stands : StandsFor p records
  pub weighs : (weight : DataRecord → ℕ) → sum_by weight records ≡ sum_by (link_end_weight weight) link_ends

-- ---- the whole thread

-- nothing came yet, and nothing was added
abbrev pub IsUnused : WorkerShare → Type 0
IsUnused share = StandsFor share.partial [] × All (λ link_end. link_end.receiver.received ≡ []) share.link_ends.items

-- it hands back the ends of links that it was given, all records that came over them and the partial table of these
pub record WorkerRan (share : WorkerShare) (w : WorkerShare) : Type 0 where
  pub keys : map link_end_key w.link_ends.items ≡ map link_end_key share.link_ends.items
  pub took : WorkerTook (plan_of share.partial) (receivers_of share.link_ends.items) (receivers_of w.link_ends.items) w.partial
