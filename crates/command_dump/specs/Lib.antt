-- What public contracts cite.
pub mod Dumps
pub mod DumpFaultLines
pub mod ElementFiles
