-- What public contracts cite.
pub mod Rates
pub mod Telling
pub mod Known
pub mod Beside
pub mod RateFields
