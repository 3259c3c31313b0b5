pub mod Fronts
pub mod Hashing
pub mod Counted
pub mod Digested
pub mod Whole
