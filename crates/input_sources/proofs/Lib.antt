pub mod Had
pub mod InputsTold
mod MapsRead
mod Room
