pub mod Alike
pub mod Counts
pub mod Ordered
pub mod Silent
pub mod Steps
pub mod LeftOut
