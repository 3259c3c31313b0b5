-- What public contracts cite.
pub mod MapsTold
