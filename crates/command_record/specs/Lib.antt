-- What inner functions cite.
pub mod Beginning
pub mod Finishing
pub mod Limits
pub mod PeerPrefixes
pub mod Watching
