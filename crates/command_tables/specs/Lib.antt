-- What contracts cite.
pub mod Opening
pub mod Plans
pub mod Days
pub mod Named
pub mod TextsByName
pub mod GoneInputs
pub mod SaidTogether
pub mod Merged
pub mod DayOutcomes
pub mod TakingDays
pub mod Receipts
pub mod Texts
pub mod Outcomes
pub mod Telling
pub mod Taking
