-- What public contracts cite.
pub mod ReportLines
pub mod UnnamedElements
pub mod ToldLines
pub mod ReadFailures
pub mod EndedSessions
pub mod MissingLines
pub mod Spotless
-- What only inner functions and proofs need.
pub mod FirstElements
