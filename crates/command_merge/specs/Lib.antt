-- What public contracts cite.
pub mod Merges
pub mod MergeLines
pub mod MergesTold
pub mod MergesStopped
