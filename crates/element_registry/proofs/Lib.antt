pub mod Registered
pub mod Apart
pub mod Orders
pub mod Adding
pub mod Decimals
pub mod Fields
pub mod Steps
pub mod Noted
