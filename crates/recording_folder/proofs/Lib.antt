pub mod FullReports
pub mod FileReadings
pub mod PeerFiles
mod Settled
