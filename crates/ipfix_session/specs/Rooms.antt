-- Room for the domains of messages that are still to be taken into account.
use Rattle.std.specs.Prelude.{ℕ, ◌+◌, ◌≤◌}
use Rattle.std.specs.Vec.{vec_capacity}
use Rattle.indexmap.specs.IndexMap.{spare, index_map_len}
use Rattle.ipfix_session.specs.declared.ledger.Ledger.{Ledger}

-- how many domains a ledger has accounts of
abbrev pub domain_count : Ledger → ℕ
domain_count l = index_map_len l.accounts

-- a ledger takes so many messages more, and gives its reports, without more memory
pub record HasRoom (l : Ledger) (messages : ℕ) : Type 0 where
  pub accounts : messages ≤ spare l.accounts
  pub reports : domain_count l + messages ≤ vec_capacity l.reports
  pub balances : domain_count l + messages ≤ vec_capacity l.balances
