-- What public contracts cite.
pub mod Values
pub mod Objects
pub mod Texts
pub mod Appending
pub mod Told
pub mod ReadBack
