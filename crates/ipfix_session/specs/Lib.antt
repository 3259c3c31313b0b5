-- What public contracts cite.
pub mod MessageStream
pub mod WholeMessages
pub mod TemplateLists
pub mod Given
pub mod Faults
pub mod Ledger
pub mod MessageCounts
pub mod Reports
pub mod Balances
pub mod Places
pub mod Sources
pub mod Readers
pub mod Sinks
pub mod Feeding
pub mod Drives
-- What only the calls cite that build a session of parts: of ledgers, counts and buffers.
pub mod Accounts
pub mod Tallies
pub mod Rooms
pub mod Buffers
pub mod MessageSinks
pub mod Intake
pub mod CounterPlaces
pub mod Walked
-- What only inner functions and proofs need.
pub mod Puts
