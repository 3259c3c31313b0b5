-- What public contracts cite.
pub mod Wheres
pub mod FilteredPlans
pub mod FilteredErrors
pub mod Maps
pub mod Keys
pub mod Known
pub mod Wants
pub mod Errors
pub mod Scaled
pub mod Tables
