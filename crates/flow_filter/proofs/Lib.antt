pub mod Chains
mod Decimals
mod Families
mod Said
