pub mod PartsRead
pub mod TablesSaid
