-- What public contracts cite.
pub mod Numbers
