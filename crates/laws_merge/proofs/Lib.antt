pub mod OneRow
pub mod PrefixBits
pub mod ExportedTables
pub mod HeldExports
pub mod MergesOn
pub mod AddedExports
pub mod SummedRows
pub mod ExportersAdded
