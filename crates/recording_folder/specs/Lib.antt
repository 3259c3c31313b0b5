-- What public contracts cite.
pub mod FiledSessions
pub mod Paths
pub mod Folders
pub mod PeerFiles
pub mod EarlierPeers
pub mod FileContents
pub mod EndedFiles
pub mod FolderFaults
pub mod Recoveries
-- What only inner functions and proofs need.
pub mod Failures
pub mod Codes
pub mod FileReadings
pub mod PeriodFolders
pub mod FullReports
