pub mod BuiltIn
pub mod Joined
