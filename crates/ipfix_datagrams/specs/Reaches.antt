-- What is kept of each domain.
use Rattle.std.specs.Prelude.{ℕ, ◌+◌, ◌%◌, ◌^◌, nat_eq, List, [], map, Option, Some, unwrap_or}
use Rattle.std.specs.Map.{lookup}
use Rattle.ipfix_message.specs.Domains.{Message}
use Rattle.ipfix_session.specs.Ledger.{capped, messages_of, domains_of}
use Rattle.ipfix_datagrams.specs.declared.domain_advance.DomainAdvance.{DomainAdvance}
use Rattle.ipfix_datagrams.specs.declared.reach.Reach.{Reach}
use Rattle.ipfix_datagrams.specs.Advances.{forward, further, advance_of, furthest_of, came_of}

-- the reach of a domain's messages
abbrev pub reach_of : List Message → Reach
reach_of own = record { furthest = furthest_of own; advance = capped (advance_of own); came = capped (came_of own) }

-- one more message, with this sequence number and count; the first goes forward from its own number
abbrev pub reach_after : Reach → ℕ → ℕ → Reach
reach_after r sequence records =
    let from = unwrap_or r.furthest sequence in
    let behind = (sequence + records) % 2 ^ 32 in
    record { furthest = Some (further from behind); advance = capped (r.advance + forward from behind); came = capped (r.came + records) }

-- what contracts see: the reach of each domain, and for how many more there is room
pub record AdvancesView : Type 0 where
  pub reaches : List (ℕ × Reach)
  pub room : ℕ

-- those of all domains, in order of first appearance
abbrev pub reaches_of : List Message → List (ℕ × Reach)
reaches_of ms = map (λ domain. (domain, reach_of (messages_of domain ms))) (domains_of ms)

-- the sequence number after the furthest message of a domain, if one came
abbrev pub furthest_in : List (ℕ × Reach) → ℕ → Option ℕ
furthest_in reaches domain = (unwrap_or (lookup (nat_eq domain) reaches) (reach_of [])).furthest

-- what is told of them
abbrev pub domain_told : ℕ × Reach → DomainAdvance
domain_told entry = record { domain = entry.0; advance = entry.1.advance; came = entry.1.came }

abbrev pub told_of : List (ℕ × Reach) → List DomainAdvance
told_of reaches = map domain_told reaches
