-- What public contracts cite.
pub mod PeriodNames
pub mod SessionNames
pub mod UnfinishedNames
pub mod FinishedNames
