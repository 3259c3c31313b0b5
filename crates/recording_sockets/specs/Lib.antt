-- What public contracts cite.
pub mod Drops
-- What inner functions cite.
pub mod Buffers
