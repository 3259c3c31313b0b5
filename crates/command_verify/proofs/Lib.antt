pub mod Empty
pub mod Retold
