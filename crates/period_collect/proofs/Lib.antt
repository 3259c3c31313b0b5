pub mod ExporterLists
pub mod PathsKept
pub mod OwnTablesKept
pub mod TablesOfRuns
pub mod RowsCounted
