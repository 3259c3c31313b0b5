-- What public contracts cite.
pub mod RowRecords
pub mod RowFaults
pub mod MergeFaults
pub mod Merging
-- What only inner functions and proofs need.
pub mod InnerReading
pub mod Judged
pub mod RowSink
