-- What contracts cite.
pub mod FoundPeriods
pub mod PlanNames
pub mod PlanPlaces
pub mod ReceiptFiles
