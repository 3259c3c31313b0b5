-- What public contracts cite.
pub mod Faults
pub mod Preambles
pub mod RecordOctets
pub mod KeptOptions
pub mod Heads
pub mod Recordings
pub mod FileReports
pub mod Notices
pub mod Faithful
pub mod Recorders
pub mod Counting
pub mod Files
pub mod Periods
pub mod Sessions
pub mod SharedFaults
-- What only inner functions and proofs need.
pub mod Histories
pub mod Gathering
pub mod Between
