-- What public contracts cite.
pub mod Listings
pub mod Standing
pub mod Seen
pub mod Outcomes
pub mod Telling
pub mod Rounds
pub mod Taking
