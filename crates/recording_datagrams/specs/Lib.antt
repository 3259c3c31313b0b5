-- What public contracts cite.
pub mod Drops
pub mod Ending
pub mod Taking
pub mod Turns
pub mod Rounds
pub mod Queues
pub mod Names
pub mod Standing
