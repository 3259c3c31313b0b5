pub mod Lookups
pub mod Table
pub mod Rising
pub mod Numbered
pub mod Named
pub mod CellLemmas
pub mod Kept
pub mod Written
pub mod Places
mod Digits
mod ThreeDigits
