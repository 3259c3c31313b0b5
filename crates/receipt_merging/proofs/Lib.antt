pub mod Twice
pub mod Firsts
pub mod Judged
