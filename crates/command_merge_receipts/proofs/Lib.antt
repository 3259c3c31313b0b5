pub mod TextsAdded
pub mod TablesMerged
pub mod Ended
pub mod Taken
pub mod Steps
