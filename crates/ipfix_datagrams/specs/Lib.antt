-- What public contracts cite.
pub mod Datagrams
pub mod Withdrawals
pub mod Late
pub mod Advances
pub mod Reaches
pub mod RecordsCame
pub mod Streams
-- What only inner functions and proofs need.
pub mod Entries
pub mod Attempts
pub mod Readings
