-- What public contracts cite.
pub mod Addresses
pub mod Prefixes
pub mod PeerAddresses
pub mod Peers
